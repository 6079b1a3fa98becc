use Rattle.file_checks.specs.Texts.{TextOk, text_bytes}
use Prim.Native.Nat.{ℕ, ◌<◌}
use Rattle.file_checks.proofs.texts.texts_ok.Given as goal

abbrev pub invariant-loop-row : goal.invariant-loop-row
invariant-loop-row l = (m : ℕ) → m < l.row-index → TextOk (text_bytes l.texts l.bytes m)
