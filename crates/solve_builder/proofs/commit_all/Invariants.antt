use Rattle.std.proofs.Common.{◌-◌, length}
use Rattle.frontier.specs.Candidates.{survivors}
use Rattle.solve_builder.proofs.Passing.{Passing}
use Rattle.solve_builder.proofs.commit_all.Given as goal

abbrev pub invariant-loop-cursor : goal.invariant-loop-cursor
invariant-loop-cursor l = Passing l.frontier l.cursor (survivors l.frontier l.g.builder) l.initial.kept l.initial.plans l.kept l.plans l.initial.k l.initial.n l.k l.n

abbrev pub decreases-loop-cursor : goal.decreases-loop-cursor
decreases-loop-cursor l = length l.kept - l.k
