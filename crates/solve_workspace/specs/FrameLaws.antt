-- Laws of what an operation leaves as it is: nothing is said of a stop, and what is kept stays kept.
use Rattle.std.specs.Prelude.{◌≡◌, List, ℕ}
use Rattle.std.proofs.Common.{sym, ◌∙◌, subst}
use Rattle.solve_workspace.specs.declared.Bounds.{Bounds}
use Rattle.solve_workspace.specs.declared.Registers.{Registers}
use Rattle.solve_workspace.specs.declared.Why.{Why}
use Rattle.solve_workspace.specs.declared.Reached.{Reached}
use Rattle.solve_workspace.specs.declared.Reached.TheVariants.{Go, Stop}
use Rattle.solve_workspace.specs.Rows.{Row}
use Rattle.solve_workspace.specs.Frames.{Keeps, MemoryAt, SameMemo}

pub memory_stopped : {b : Bounds} {ss : List ℕ} {es : List Row} {a : Reached} {w : Why} {n : ℕ} {z : Registers} → a ≡ Stop w n z → MemoryAt b ss es a
memory_stopped {b = b} {ss = ss} {es = es} e = subst (λ x. MemoryAt b ss es x) (sym e) (record { by = tt })

pub same_stopped : {o : Registers} {a : Reached} {w : Why} {n : ℕ} {z : Registers} → a ≡ Stop w n z → SameMemo o a
same_stopped {o = o} e = subst (λ x. SameMemo o x) (sym e) (record { by = tt })

pub same_trans : {o s : Registers} (a : Reached) → s.memo ≡ o.memo → SameMemo s a → SameMemo o a
same_trans (Go z) h k = record { by = k.by ∙ h }
same_trans (Stop w n z) h k = record { by = tt }

pub kept_same : {o : Registers} (a : Reached) → Keeps o a → SameMemo o a
kept_same (Go z) h = record { by = h.by.memo }
kept_same (Stop w n z) h = record { by = tt }
