-- `frontier::discard` meets its contract.
use native.Mathlib.Omega.{arith}
use lib.Dec.{lit<}
use Rattle.avl.specs.MemLaws.{at_len}
use Rattle.frontier.proofs.Whole.{has, within, dropped, live_is}
use Rattle.frontier.proofs.discard.Goals as goal

pub remove-d-requires : goal.remove-d-requires
remove-d-requires c = has c.requires

pub unlink_precedence-ends-requires : goal.unlink_precedence-ends-requires
unlink_precedence-ends-requires c = within c.requires (c.remove-d.ensures (has c.requires))

pub store-requires : goal.store-requires
store-requires c = (at_len c.unlink_precedence-ends.auto.frontier (c.remove-d.ensures (has c.requires)).lone.at, lit< tt)

pub overflow_sub-result : goal.overflow_sub-result
overflow_sub-result c = omega (arith, live_is c.requires)

pub returns : goal.returns
returns c = λ p. dropped p (c.remove-d.ensures (has p)) (c.unlink_precedence-ends.ensures (within p (c.remove-d.ensures (has p)))) c.store.ensures
