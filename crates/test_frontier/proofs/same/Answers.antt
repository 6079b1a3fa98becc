-- `test_frontier::same` meets its contract. The invariant: the cursor is a link of the walk along the survivors.
use Rattle.frontier.specs.Walk.{begins, meets, goes_on}
use Rattle.test_frontier.proofs.same.Goals as goal

pub loop-row-init : goal.loop-row-init
loop-row-init c = record { xs = _; going = begins c.requires c.first-cursor.ensures }

pub candidate-requires : goal.candidate-requires
candidate-requires c = (meets c.loop-row.invariant.going c.in-Some.is).stands

pub following-cursor-requires : goal.following-cursor-requires
following-cursor-requires c = (meets c.loop-row.invariant.going c.in-Some.is).stands

pub loop-row-preserved : goal.loop-row-preserved
loop-row-preserved c = let q = meets c.loop-row.invariant.going c.in-Some.is in record { xs = q.more; going = goes_on q c.following-cursor.ensures }
