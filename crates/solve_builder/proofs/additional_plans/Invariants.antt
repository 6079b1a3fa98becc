use Rattle.frontier.specs.Candidates.{survivors}
use Rattle.solve_builder.proofs.Passing.{Counting}
use Rattle.solve_builder.proofs.additional_plans.Given as goal

abbrev pub invariant-loop-cursor : goal.invariant-loop-cursor
invariant-loop-cursor l = Counting l.frontier l.cursor (survivors l.frontier l.g.builder) l.left l.count

abbrev pub decreases-loop-cursor : goal.decreases-loop-cursor
decreases-loop-cursor l = l.left
