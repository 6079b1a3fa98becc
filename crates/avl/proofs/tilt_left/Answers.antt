-- `avl::tilt_left` meets its contract: the child's two heights decide, as in `tilt_l`.
use mathlib.Core.Path.{◌≡◌}
use mathlib.Core.List.{List}
use Prim.Native.Nat.{ℕ, ◌<◌}
use native.Mathlib.Omega.{arith}
use borrow.Author.Tests.{lt-ltb, le-ltb}
use Rattle.avl.specs.Tree.{ht, tilt_l}
use Rattle.avl.specs.Holds.{left, SpotR, Laid}
use Rattle.avl.proofs.Turn.{FormL, form_l, the_l, spot_l, relaid_l, laid_same}
use Rattle.avl.proofs.tilt_left.Goals as goal

-- the child, whose two trees' heights are told
abbrev child : {m : List ℕ} {s x a b : ℕ} (p : FormL m s) → x ≡ left m s → a ≡ ht p.a → b ≡ ht p.b → a < b → SpotR m x
child p e a-is b-is h =
    let q = spot_l p e in
    record { l = q.l; k = q.k; r = q.r; lo = q.lo; hi = q.hi; held = q.held; has = omega arith }

pub high_left-requires : goal.high_left-requires
high_left-requires c = spot_l (the_l c.requires) c.get-x.ensures

pub high_right-requires : goal.high_right-requires
high_right-requires c = spot_l (the_l c.requires) c.get-x.ensures

pub rotate_left-t-requires : goal.rotate_left-t-requires
rotate_left-t-requires c =
    let p = the_l c.requires in
    child p c.get-x.ensures (c.high_left.ensures (spot_l p c.get-x.ensures)).0 (c.high_right.ensures (spot_l p c.get-x.ensures)).0 c.if-high_left-high_right.true

pub returns-then-high_left-high_right : goal.returns-then-high_left-high_right
returns-then-high_left-high_right c = form_l (λ l k r lo hi. Laid c.args.frontier.now c.store.new.frontier c.args.s (tilt_l l) k r lo hi) λ p.
    let a = (c.high_left.ensures (spot_l p c.get-x.ensures)).0 in
    let b = (c.high_right.ensures (spot_l p c.get-x.ensures)).0 in
    rw (lt-ltb (ht p.a) (ht p.b) (omega (arith, c.if-high_left-high_right.true, a, b)))
    (relaid_l p c.get-x.ensures (c.rotate_left-t.ensures (child p c.get-x.ensures a b c.if-high_left-high_right.true)) c.store.ensures)

pub returns-else-high_left-high_right : goal.returns-else-high_left-high_right
returns-else-high_left-high_right c = form_l (λ l k r lo hi. Laid c.args.frontier.now c.args.frontier.now c.args.s (tilt_l l) k r lo hi) λ p.
    let a = (c.high_left.ensures (spot_l p c.get-x.ensures)).0 in
    let b = (c.high_right.ensures (spot_l p c.get-x.ensures)).0 in
    rw (le-ltb (ht p.a) (ht p.b) (omega (arith, c.if-high_left-high_right.false, a, b)))
    (laid_same p.held)
