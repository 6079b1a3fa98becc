-- Laws of turns: what is reached where the code has told which turn, and what a `?` hands on.
use Rattle.std.specs.Prelude.{◌≡◌, refl, List, ℕ, Ok, Err}
use Rattle.std.proofs.Common.{sym, ap}
use Rattle.std.proofs.Math.Path.{subst}
use Rattle.std.proofs.lemmas.Result.{err_from_is_err_and}
use Rattle.std.specs.Result.{IsErrAnd}
use Rattle.machine.specs.Events.{Counts, Prog}
use Rattle.solve_workspace.specs.declared.Bounds.{Bounds}
use Rattle.solve_workspace.specs.declared.Halt.{Halt}
use Rattle.solve_workspace.specs.declared.Registers.{Registers}
use Rattle.solve_workspace.specs.declared.Why.{Why}
use Rattle.solve_workspace.specs.declared.Reached.TheVariants.{Go, Stop}
use Rattle.solve_workspace.specs.Meets.{Meets, Sound}
use Rattle.solve_workspace.specs.Rows.{Row}
use Rattle.solve_workspace.specs.Frames.{Keeps, SameMemo, MemoryAt}
use Rattle.solve_workspace.specs.Runs.{ok}
use Rattle.solve_workspace.specs.Turns.{Turn, going, halting, reached}

-- ---- which turn

pub went : {t : Turn} {x : Unit} (g : Registers) → t ≡ Ok x → reached t g ≡ Go g
went g q = ap (λ (z : Turn). reached z g) q

pub halted : {t : Turn} {h : Halt} (g : Registers) → t ≡ Err h → reached t g ≡ Stop h.why h.needed g
halted g q = ap (λ (z : Turn). reached z g) q

-- ---- turns with registers that are z

module _ {A : Type 0} {b : Bounds} {k : Counts} {p : Prog A} {f : Registers → A} (g : Registers) {z : Registers} (e : g ≡ z) where
  pub going_meets : Meets b k p (Go z) f → Meets b k p (reached going g) f
  going_meets m = subst (λ (s : Registers). Meets b k p (Go s) f) (sym e) m

  pub halted_meets : {w : Why} {n : ℕ} → Meets b k p (Stop w n z) f → Meets b k p (reached (halting w n) g) f
  halted_meets {w = w} {n = n} m = subst (λ (s : Registers). Meets b k p (Stop w n s) f) (sym e) m

pub going_keeps : {o : Registers} (g : Registers) {z : Registers} → g ≡ z → Keeps o (Go z) → Keeps o (reached going g)
going_keeps {o = o} g e h = subst (λ (s : Registers). Keeps o (Go s)) (sym e) h

pub going_same : {o : Registers} (g : Registers) {z : Registers} → g ≡ z → SameMemo o (Go z) → SameMemo o (reached going g)
going_same {o = o} g e h = subst (λ (s : Registers). SameMemo o (Go s)) (sym e) h

pub going_memory : {b : Bounds} {ss : List ℕ} {es : List Row} (g : Registers) {z : Registers} → g ≡ z → MemoryAt b ss es (Go z) → MemoryAt b ss es (reached going g)
going_memory {b = b} {ss = ss} {es = es} g e h = subst (λ (s : Registers). MemoryAt b ss es (Go s)) (sym e) h

-- nothing is said of a stop
pub halted_keeps : (o : Registers) (w : Why) (n : ℕ) (g : Registers) → Keeps o (reached (halting w n) g)
halted_keeps o w n g = record { by = tt }

pub halted_same : (o : Registers) (w : Why) (n : ℕ) (g : Registers) → SameMemo o (reached (halting w n) g)
halted_same o w n g = record { by = tt }

pub halted_memory : (b : Bounds) (ss : List ℕ) (es : List Row) (w : Why) (n : ℕ) (g : Registers) → MemoryAt b ss es (reached (halting w n) g)
halted_memory b ss es w n g = record { by = tt }

-- ---- the registers stay sound

pub held_on : {A : Type 0} {b : Bounds} {h : Registers} {k : Counts} {p : Prog A} {t : Turn} {x : Unit} {f : Registers → A} → Meets b k p (reached t h) f → t ≡ Ok x → Sound b h
held_on {h = h} m q = ok m (went h q)

-- ---- what a `?` hands on: what the operation answered, or what its error is as a stop

pub err_is : {r : Turn} {d : Halt} → IsErrAnd r (λ (e : Halt). e ≡ d) → r ≡ Err d
err_is {r = r} h = let p = err_from_is_err_and r h in rw (p.1, p.2) refl

pub handed_on : {t r : Turn} {d : Halt} → t ≡ Err d → IsErrAnd r (λ (e : Halt). e ≡ d) → r ≡ t
handed_on q h = rw q (err_is h)
