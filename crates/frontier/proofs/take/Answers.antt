-- `frontier::take` meets its contract.
use lib.Dec.{lit<}
use Rattle.frontier.proofs.Slots.{taken_new, taken_free, fst}
use Rattle.frontier.proofs.take.Goals as goal

pub returns-then-b-eq-NIL : goal.returns-then-b-eq-NIL
returns-then-b-eq-NIL c = λ p. taken_new p c.if-b-eq-NIL.true

pub get-requires : goal.get-requires
get-requires c = ((fst c.requires c.if-b-eq-NIL.false).at, lit< tt)

pub returns-else-b-eq-NIL : goal.returns-else-b-eq-NIL
returns-else-b-eq-NIL c = λ p. taken_free p c.if-b-eq-NIL.false c.get.ensures
