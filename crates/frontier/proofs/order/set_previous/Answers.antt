-- `frontier::order::set_previous` meets its contract.
use mathlib.Core.Path.{refl}
use lib.Dec.{lit<}
use Rattle.frontier.proofs.order.set_previous.Goals as goal

pub returns-then-n-eq-NIL : goal.returns-then-n-eq-NIL
returns-then-n-eq-NIL c = record { none = λ e. (refl, refl); some = λ n. absurd (n c.if-n-eq-NIL.true) }

pub store-requires : goal.store-requires
store-requires c = (c.requires c.if-n-eq-NIL.false, lit< tt)

pub returns-else-n-eq-NIL : goal.returns-else-n-eq-NIL
returns-else-n-eq-NIL c = record { none = λ e. absurd (c.if-n-eq-NIL.false e); some = λ n. (refl, c.store.ensures) }
