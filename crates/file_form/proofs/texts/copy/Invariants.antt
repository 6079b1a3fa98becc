use mathlib.Core.Path.{◌≡◌}
use lib.Seq.{paste}
use Rattle.file_form.proofs.texts.copy.Given as goal

abbrev pub invariant-loop-i : goal.invariant-loop-i
invariant-loop-i l = l.dst ≡ paste l.initial.dst 0 l.src l.i
