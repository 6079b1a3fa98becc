-- `test_frontier::same` meets its contract. The invariant: the cursor is a link of the walk along the survivors.
use Rattle.test_frontier.specs.Runs.{Somewhere}
use Rattle.test_frontier.proofs.same.Given as goal

abbrev pub invariant-loop-row : goal.invariant-loop-row
invariant-loop-row l = Somewhere l.frontier l.cursor
