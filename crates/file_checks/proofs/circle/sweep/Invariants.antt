use Rattle.file_checks.proofs.Circles.{Sweep}
use Rattle.file_checks.proofs.circle.sweep.Given as goal

abbrev pub invariant-loop-i : goal.invariant-loop-i
invariant-loop-i l = Sweep l.nodes l.edges l.cs l.i
