use mathlib.Core.Path.{◌≡◌}
use lib.Seq.{paste}
use Rattle.materialize.proofs.append_output.Given as goal

abbrev pub invariant-loop-i : goal.invariant-loop-i
invariant-loop-i l = l.output ≡ paste l.initial.output 0 l.bytes l.i
