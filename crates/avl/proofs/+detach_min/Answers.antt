use mathlib.Core.Path.{subst}
use Prim.Native.Nat.{◌<◌}
use lib.Dec.{lit<}
use Rattle.avl.specs.Holds.{Cut}
use Rattle.avl.proofs.Into.{high}
use Rattle.avl.proofs.Out as out
use Rattle.avl.proofs.Out.{form_o, the_o}
use Rattle.avl.proofs.+detach_min.Goals as goal

pub get-left-requires : goal.get-left-requires
get-left-requires t c = ((the_o c.requires).held.at, lit< tt)

pub get-rest-requires : goal.get-rest-requires
get-rest-requires t c = ((the_o c.requires).held.at, lit< tt)

pub store-requires : goal.store-requires
store-requires t c = ((the_o c.requires).held.at, lit< tt)

pub returns-then-left : goal.returns-then-left
returns-then-left t c = form_o (λ t lo hi. Cut c.args.frontier.now c.store.new.frontier c.get-rest.result c.args.root t lo hi) λ q.
    out.first q c.get-left.ensures c.if-left.true c.get-rest.ensures c.store.ensures

pub detach_min-d-requires : goal.detach_min-d-requires
detach_min-d-requires t c =
    let q = the_o c.requires in
    (subst (λ z. high c.args.frontier.now c.get-left.result < z) c.decreases (out.falls q c.get-left.ensures), out.full_l q c.get-left.ensures c.if-left.false)

pub graft_left-requires : goal.graft_left-requires
graft_left-requires t c =
    let q = the_o c.requires in
    out.graft q (out.l_has q c.get-left.ensures c.if-left.false) (c.detach_min-d.ensures (out.full_l q c.get-left.ensures c.if-left.false))

pub returns : goal.returns
returns t c = form_o (λ t lo hi. Cut c.args.frontier.now c.graft_left.new.frontier c.graft_left.result c.detach_min-d.result.slot t lo hi) λ q.
    let h = out.l_has q c.get-left.ensures c.if-left.false in
    let u = c.detach_min-d.ensures (out.full_l q c.get-left.ensures c.if-left.false) in
    out.done q h u (c.graft_left.ensures (out.graft q h u))
