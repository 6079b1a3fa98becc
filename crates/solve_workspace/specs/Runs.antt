-- Laws of runs: how what calls in a sequence have reached comes together.
use Rattle.std.specs.Prelude.{◌≡◌, refl, true, false, ℕ, []}
use Rattle.std.proofs.Common.{sym, ap, ◌∙◌, subst, arith}
use Rattle.machine.specs.Events.{Counts, Event, Prog, ret, emit, ◌>>=◌, passes, counted, why, needed}
use Rattle.machine.specs.Programs.{run_bind, and_then}
use Rattle.solve_workspace.specs.declared.Bounds.{Bounds}
use Rattle.solve_workspace.specs.declared.Registers.{Registers}
use Rattle.solve_workspace.specs.declared.Why.{Why}
use Rattle.solve_workspace.specs.declared.Reached.{Reached}
use Rattle.solve_workspace.specs.declared.Reached.TheVariants.{Go, Stop}
use Rattle.solve_workspace.specs.Meets.{limits, counts, reason, out, Sound, SoundAt, Meets, Leads}
use Rattle.layout.specs.Rules.{Rules, charging}
use Rattle.machine.specs.Model.{Prepared}
use Rattle.solve_workspace.specs.Reading.{prepared, tables}
use Rattle.solve_workspace.specs.Frames.{Kept, Keeps, KeepsAt, SameMemo, SameMemoAt}

-- a call within a sequence
pub seq : {A B : Type 0} {b : Bounds} {k : Counts} {s : Registers} {p : Prog A} {a c : Reached} {f : Registers → A} {h : Registers → B} (g : A → Prog B)
    → Meets b k p a f → a ≡ Go s → Meets b (counts s) (g (f s)) c h → Meets b k (p >>= g) c h
seq {b = b} {k = k} {p = p} {f = f} g e q r =
    record { is = run_bind (limits b) k p g ∙ (ap (λ x. and_then (limits b) x g) (e.is ∙ ap (λ x. out x f) q) ∙ r.is); sound = r.sound }

pub halt : {A B : Type 0} {b : Bounds} {k : Counts} {s : Registers} {p : Prog A} {a : Reached} {f : Registers → A} {h : Registers → B} {w : Why} {n : ℕ} (g : A → Prog B)
    → Meets b k p a f → a ≡ Stop w n s → Meets b k (p >>= g) a h
halt {b = b} {k = k} {p = p} {f = f} {h = h} g e q =
    subst (λ z. Meets b k (p >>= g) z h) (sym q) (record { is = run_bind (limits b) k p g ∙ ap (λ x. and_then (limits b) x g) (e.is ∙ ap (λ x. out x f) q); sound = tt })

pub ok : {A : Type 0} {b : Bounds} {k : Counts} {s : Registers} {p : Prog A} {a : Reached} {f : Registers → A} → Meets b k p a f → a ≡ Go s → Sound b s
ok {b = b} e q = subst (λ x. SoundAt b x) q e.sound

pub kept_by : {o s : Registers} {a : Reached} → Keeps o a → a ≡ Go s → Kept o s
kept_by {o = o} e q = subst (λ x. KeepsAt o x) q e.by

pub kept_trans : {o s z : Registers} → Kept o s → Kept s z → Kept o z
kept_trans h k = record { memo = k.memo ∙ h.memo; results = k.results ∙ h.results; pending = omega (arith, h.pending, k.pending) }

pub kept_on : {o s : Registers} (a : Reached) → Kept o s → Keeps s a → Keeps o a
kept_on (Go z) h k = record { by = record { memo = k.by.memo ∙ h.memo; results = k.by.results ∙ h.results; pending = omega (arith, h.pending, k.by.pending) } }
kept_on (Stop w n z) h k = record { by = tt }

pub memo_by : {o s : Registers} {a : Reached} → SameMemo o a → a ≡ Go s → s.memo ≡ o.memo
memo_by {o = o} e q = subst (λ x. SameMemoAt o x) q e.by

-- what is left to do, in loops
pub leads_refl : {A : Type 0} {b : Bounds} {k : Counts} {p : Prog A} → Leads b k p k p
leads_refl = record { same = refl }

pub onward : {A : Type 0} {b : Bounds} {i j k : Counts} {p q r : Prog A} → Leads b i p j q → Leads b j q k r → Leads b i p k r
onward x y = record { same = x.same ∙ y.same }

pub via : {A : Type 0} {b : Bounds} {i j : Counts} {p q : Prog A} {a : Reached} {f : Registers → A} → Leads b i p j q → Meets b j q a f → Meets b i p a f
via x y = record { is = x.same ∙ y.is; sound = y.sound }

pub leads_seq : {A B : Type 0} {b : Bounds} {k : Counts} {s : Registers} {p : Prog A} {a : Reached} {f : Registers → A} (g : A → Prog B)
    → Meets b k p a f → a ≡ Go s → Leads b k (p >>= g) (counts s) (g (f s))
leads_seq {b = b} {k = k} {p = p} {f = f} g e q =
    record { same = run_bind (limits b) k p g ∙ ap (λ x. and_then (limits b) x g) (e.is ∙ ap (λ x. out x f) q) }

pub ended : {A : Type 0} {b : Bounds} {s : Registers} (f : Registers → A) → Sound b s → Meets b (counts s) (ret (f s)) (Go s) f
ended f h = record { is = refl; sound = h }

-- one event
pub passed : {A : Type 0} (b : Bounds) (k : Counts) (e : Event) (p : Prog A) → passes (limits b) k e ≡ true → Leads b k (emit e p) (counted k e) p
passed b k e p h = record { same = rw h }

pub stopped : {A : Type 0} (b : Bounds) (s : Registers) (e : Event) (p : Prog A) (w : Why) (n : ℕ) (f : Registers → A)
    → passes (limits b) (counts s) e ≡ false → reason w ≡ why e → n ≡ needed e → Meets b (counts s) (emit e p) (Stop w n s) f
stopped b s e p w n f h x y = record { is = rw (h, x, y); sound = tt }

-- what a contract that holds of all rules and tables is asked at, where neither matters
abbrev pub any_rules : Rules
any_rules = charging 1 1 0 0

abbrev pub any_tables : Prepared
any_tables = prepared (tables [] [] [] [] [] 0 0 0)
