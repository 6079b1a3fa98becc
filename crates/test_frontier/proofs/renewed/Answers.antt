-- `test_frontier::renewed` meets its contract.
use Rattle.std.proofs.Common.{arith, lit<}
use Rattle.test_frontier.proofs.renewed.Goals as goal

pub returns-else-n-ne0 : goal.returns-else-n-ne0
returns-else-n-ne0 c = record { ready = λ m p. record { frontier = c.begin_builder.ensures.frontier m 6 p.frontier.room (lit< tt); few = omega arith } }
