-- `avl::tilt_right` meets its contract: the child's two heights decide, as in `tilt_r`.
use mathlib.Core.Path.{◌≡◌}
use mathlib.Core.List.{List}
use Prim.Native.Nat.{ℕ, ◌<◌}
use native.Mathlib.Omega.{arith}
use borrow.Author.Tests.{lt-ltb, le-ltb}
use Rattle.avl.specs.Tree.{ht, tilt_r}
use Rattle.avl.specs.Holds.{right, SpotL, Laid}
use Rattle.avl.proofs.Turn.{FormR, form_r, the_r, spot_r, relaid_r, laid_same}
use Rattle.avl.proofs.tilt_right.Goals as goal

-- the child, whose two trees' heights are told
abbrev child : {m : List ℕ} {s x a b : ℕ} (p : FormR m s) → x ≡ right m s → a ≡ ht p.b → b ≡ ht p.c → b < a → SpotL m x
child p e a-is b-is h =
    let q = spot_r p e in
    record { l = q.l; k = q.k; r = q.r; lo = q.lo; hi = q.hi; held = q.held; has = omega arith }

pub high_left-requires : goal.high_left-requires
high_left-requires c = spot_r (the_r c.requires) c.get-x.ensures

pub high_right-requires : goal.high_right-requires
high_right-requires c = spot_r (the_r c.requires) c.get-x.ensures

pub rotate_right-t-requires : goal.rotate_right-t-requires
rotate_right-t-requires c =
    let p = the_r c.requires in
    child p c.get-x.ensures (c.high_left.ensures (spot_r p c.get-x.ensures)).0 (c.high_right.ensures (spot_r p c.get-x.ensures)).0 c.if-high_right-high_left.true

pub returns-then-high_right-high_left : goal.returns-then-high_right-high_left
returns-then-high_right-high_left c = form_r (λ l k r lo hi. Laid c.args.frontier.now c.store.new.frontier c.args.s l k (tilt_r r) lo hi) λ p.
    let a = (c.high_left.ensures (spot_r p c.get-x.ensures)).0 in
    let b = (c.high_right.ensures (spot_r p c.get-x.ensures)).0 in
    rw (lt-ltb (ht p.c) (ht p.b) (omega (arith, c.if-high_right-high_left.true, a, b)))
    (relaid_r p c.get-x.ensures (c.rotate_right-t.ensures (child p c.get-x.ensures a b c.if-high_right-high_left.true)) c.store.ensures)

pub returns-else-high_right-high_left : goal.returns-else-high_right-high_left
returns-else-high_right-high_left c = form_r (λ l k r lo hi. Laid c.args.frontier.now c.args.frontier.now c.args.s l k (tilt_r r) lo hi) λ p.
    let a = (c.high_left.ensures (spot_r p c.get-x.ensures)).0 in
    let b = (c.high_right.ensures (spot_r p c.get-x.ensures)).0 in
    rw (le-ltb (ht p.c) (ht p.b) (omega (arith, c.if-high_right-high_left.false, a, b)))
    (laid_same p.held)
