use mathlib.Core.Path.{subst}
use Prim.Native.Nat.{◌<◌}
use lib.Dec.{lit<}
use Rattle.avl.specs.Tree.{ins}
use Rattle.avl.specs.Holds.{Made}
use Rattle.avl.proofs.Into.{high, form_i, the_i, less, more, room_l, room_r, falls_l, falls_r, graft_l, graft_r, done_l, done_r, alone}
use Rattle.avl.proofs.+insert.Goals as goal

pub returns-then-root-eq-NIL : goal.returns-then-root-eq-NIL
returns-then-root-eq-NIL t c = λ p. alone p c.if-root-eq-NIL.true

pub get-requires-else-root-eq-NIL : goal.get-requires-else-root-eq-NIL
get-requires-else-root-eq-NIL t c = ((the_i c.if-root-eq-NIL.false c.requires).held.at, lit< tt)

pub get-l-requires : goal.get-l-requires
get-l-requires t c = ((the_i c.if-root-eq-NIL.false c.requires).held.at, lit< tt)

pub insert-child-requires : goal.insert-child-requires
insert-child-requires t c =
    let q = the_i c.if-root-eq-NIL.false c.requires in
    (subst (λ z. high c.args.frontier.now c.get-l.result < z) c.decreases (falls_l q c.get-l.ensures), room_l q c.get-l.ensures (less q c.get-else-root-eq-NIL.ensures c.get.ensures c.if-get.true))

pub graft_left-requires : goal.graft_left-requires
graft_left-requires t c =
    let q = the_i c.if-root-eq-NIL.false c.requires in
    let h = less q c.get-else-root-eq-NIL.ensures c.get.ensures c.if-get.true in
    graft_l q h (c.insert-child.ensures (room_l q c.get-l.ensures h))

pub returns-then-get : goal.returns-then-get
returns-then-get t c = form_i (λ t k lo hi. Made c.args.frontier.now c.graft_left.new.frontier c.graft_left.result (ins c.args.s k t) lo hi) c.if-root-eq-NIL.false λ q.
    let h = less q c.get-else-root-eq-NIL.ensures c.get.ensures c.if-get.true in
    let u = c.insert-child.ensures (room_l q c.get-l.ensures h) in
    done_l q h u (c.graft_left.ensures (graft_l q h u))

pub get-r-requires : goal.get-r-requires
get-r-requires t c = ((the_i c.if-root-eq-NIL.false c.requires).held.at, lit< tt)

pub insert-child-requires-else-get : goal.insert-child-requires-else-get
insert-child-requires-else-get t c =
    let q = the_i c.if-root-eq-NIL.false c.requires in
    (subst (λ z. high c.args.frontier.now c.get-r.result < z) c.decreases (falls_r q c.get-r.ensures), room_r q c.get-r.ensures (more q c.get-else-root-eq-NIL.ensures c.get.ensures c.if-get.false))

pub graft_right-requires : goal.graft_right-requires
graft_right-requires t c =
    let q = the_i c.if-root-eq-NIL.false c.requires in
    let h = more q c.get-else-root-eq-NIL.ensures c.get.ensures c.if-get.false in
    graft_r q h (c.insert-child-else-get.ensures (room_r q c.get-r.ensures h))

pub returns-else-get : goal.returns-else-get
returns-else-get t c = form_i (λ t k lo hi. Made c.args.frontier.now c.graft_right.new.frontier c.graft_right.result (ins c.args.s k t) lo hi) c.if-root-eq-NIL.false λ q.
    let h = more q c.get-else-root-eq-NIL.ensures c.get.ensures c.if-get.false in
    let u = c.insert-child-else-get.ensures (room_r q c.get-r.ensures h) in
    done_r q h u (c.graft_right.ensures (graft_r q h u))
