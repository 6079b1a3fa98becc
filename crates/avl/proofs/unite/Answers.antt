-- `avl::unite` meets its contract: the least slot of the second tree goes above both.
use mathlib.Core.Path.{sym}
use lib.Dec.{lit<}
use Rattle.avl.proofs.Steps.{lone_at}
use Rattle.avl.proofs.Out.{has_node, only_l, only_r, full_r, graft_both, both}
use Rattle.avl.proofs.unite.Goals as goal

pub returns-then-l-eq-NIL : goal.returns-then-l-eq-NIL
returns-then-l-eq-NIL c = λ p. only_r p c.if-l-eq-NIL.true

pub returns-then-r-eq-NIL : goal.returns-then-r-eq-NIL
returns-then-r-eq-NIL c = λ p. only_l p c.if-r-eq-NIL.true

pub detach_min-d-requires : goal.detach_min-d-requires
detach_min-d-requires c = full_r c.requires c.if-r-eq-NIL.false

pub store-requires : goal.store-requires
store-requires c =
    let u = c.detach_min-d.ensures (full_r c.requires c.if-r-eq-NIL.false) in
    ((lone_at (sym u.is) u.lone).at, lit< tt)

pub graft_right-requires : goal.graft_right-requires
graft_right-requires c =
    let p = c.requires in
    graft_both p (has_node _ c.args.r p.r c.if-r-eq-NIL.false p.r_held) (c.detach_min-d.ensures (full_r p c.if-r-eq-NIL.false)) c.store.ensures

pub returns : goal.returns
returns c = λ p.
    let h = has_node _ c.args.r p.r c.if-r-eq-NIL.false p.r_held in
    let u = c.detach_min-d.ensures (full_r p c.if-r-eq-NIL.false) in
    both p (has_node _ c.args.l p.l c.if-l-eq-NIL.false p.l_held) h u c.store.ensures (c.graft_right.ensures (graft_both p h u c.store.ensures))
