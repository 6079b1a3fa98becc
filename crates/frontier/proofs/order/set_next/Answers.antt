-- `frontier::order::set_next` meets its contract.
use mathlib.Core.Path.{refl}
use lib.Dec.{lit<}
use Rattle.frontier.proofs.order.set_next.Goals as goal

pub returns-then-p-eq-NIL : goal.returns-then-p-eq-NIL
returns-then-p-eq-NIL c = record { none = λ e. (refl, refl); some = λ n. absurd (n c.if-p-eq-NIL.true) }

pub store-requires : goal.store-requires
store-requires c = (c.requires c.if-p-eq-NIL.false, lit< tt)

pub returns-else-p-eq-NIL : goal.returns-else-p-eq-NIL
returns-else-p-eq-NIL c = record { none = λ e. absurd (c.if-p-eq-NIL.false e); some = λ n. (refl, c.store.ensures) }
