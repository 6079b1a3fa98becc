-- `test_frontier::run` meets its contract. The invariant: the frontier is one, and the list has its place.
use Rattle.std.proofs.Common.{◌≡◌, length}
use Rattle.test_frontier.specs.Runs.{Ready}
use Rattle.test_frontier.proofs.run.Given as goal

abbrev pub invariant-loop-n : goal.invariant-loop-n
invariant-loop-n l = (Ready l.frontier l.s) × ((length l.frontier ≡ length l.initial.frontier) × (length l.rows ≡ length l.initial.rows))
