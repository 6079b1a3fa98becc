-- `frontier::order::unlink_precedence` meets its contract: the front gets a new end, and then the rear a new start.
use lib.Dec.{lit<}
use Rattle.frontier.proofs.Segments.{w_at, before_at, first_at, un_one, un_rest, un_two}
use Rattle.frontier.proofs.order.unlink_precedence.Goals as goal

pub get-p-requires : goal.get-p-requires
get-p-requires c = (w_at c.requires, lit< tt)

pub get-n-requires : goal.get-n-requires
get-n-requires c = (w_at c.requires, lit< tt)

pub set_next-requires : goal.set_next-requires
set_next-requires c = before_at c.requires c.get-p.ensures

pub set_previous-requires : goal.set_previous-requires
set_previous-requires c =
    let p = c.requires in
    first_at _ _ c.get-n.result p.zs _ (un_rest p c.get-n.ensures (un_one p c.get-p.ensures c.set_next.ensures))

pub returns : goal.returns
returns c = λ p. un_two p c.get-n.ensures (un_one p c.get-p.ensures c.set_next.ensures) c.set_previous.ensures
