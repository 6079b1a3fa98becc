-- `avl::rebalance` meets its contract: the signed difference of the heights decides between `bal`'s three ways.
use mathlib.Core.Path.{◌≡◌}
use mathlib.Core.List.{List}
use Prim.Native.Nat.{ℕ, suc, ◌<◌, ◌≤◌}
use native.Mathlib.Omega.{arith}
use Rattle.avl.specs.Tree.{Tree, ht, tilt_l, tilt_r}
use Rattle.avl.specs.TreeLaws.{tilt_l_has, tilt_r_has, bal_l, bal_r, bal_n}
use Rattle.avl.specs.Holds.{top, Laid, Spot, SpotL, SpotR}
use Rattle.avl.specs.Frames.{frame_wide}
use Rattle.avl.proofs.Turn.{again, after, then}
use Rattle.avl.proofs.Signed.{sfits, over, not_over, under, not_under}
use Rattle.avl.proofs.rebalance.Goals as goal

-- the two heights
pub record Heights (a b : ℕ) (l r : Tree) : Type 0 where
  pub a-is : a ≡ ht l
  pub b-is : b ≡ ht r
  pub a-low : a < top
  pub b-low : b < top

abbrev heights : {a b : ℕ} {l r : Tree} → (a ≡ ht l) × (a < top) → (b ≡ ht r) × (b < top) → Heights a b l r
heights a b = record { a-is = a.0; b-is = b.0; a-low = a.1; b-low = b.1 }

-- the slot where the left tree is the higher by two, and with that tree tilted
abbrev spot_l : {m : List ℕ} {s : ℕ} (q : Spot m s) → suc (ht q.r) < ht q.l → SpotL m s
spot_l q h = record { l = q.l; k = q.k; r = q.r; lo = q.lo; hi = q.hi; held = q.held; has = omega arith }

abbrev tilted-l : {m n : List ℕ} {s : ℕ} (q : Spot m s) → suc (ht q.r) < ht q.l → Laid m n s (tilt_l q.l) q.k q.r q.lo q.hi → SpotL n s
tilted-l q h u = record { l = tilt_l q.l; k = q.k; r = q.r; lo = q.lo; hi = q.hi; held = u.held; has = tilt_l_has q.l (omega arith) }

-- the slot where the right tree is the higher by two, and with that tree tilted
abbrev spot_r : {m : List ℕ} {s : ℕ} (q : Spot m s) → suc (ht q.l) < ht q.r → SpotR m s
spot_r q h = record { l = q.l; k = q.k; r = q.r; lo = q.lo; hi = q.hi; held = q.held; has = omega arith }

abbrev tilted-r : {m n : List ℕ} {s : ℕ} (q : Spot m s) → suc (ht q.l) < ht q.r → Laid m n s q.l q.k (tilt_r q.r) q.lo q.hi → SpotR n s
tilted-r q h u = record { l = q.l; k = q.k; r = tilt_r q.r; lo = q.lo; hi = q.hi; held = u.held; has = tilt_r_has q.r (omega arith) }

pub high_left-l-requires : goal.high_left-l-requires
high_left-l-requires c = again c.requires (c.update_height.ensures c.requires)

pub high_right-r-requires : goal.high_right-r-requires
high_right-r-requires c = again c.requires (c.update_height.ensures c.requires)

pub overflow_cast-balance : goal.overflow_cast-balance
overflow_cast-balance c =
    let q = again c.requires (c.update_height.ensures c.requires) in
    omega (arith, (c.high_left-l.ensures q).1)

pub overflow_cast-balance-2 : goal.overflow_cast-balance-2
overflow_cast-balance-2 c =
    let q = again c.requires (c.update_height.ensures c.requires) in
    omega (arith, (c.high_right-r.ensures q).1)

pub overflow_sub-balance : goal.overflow_sub-balance
overflow_sub-balance c =
    let q = again c.requires (c.update_height.ensures c.requires) in
    sfits c.high_left-l.result c.high_right-r.result (omega (arith, (c.high_left-l.ensures q).1)) (omega (arith, (c.high_right-r.ensures q).1))

pub tilt_left-requires : goal.tilt_left-requires
tilt_left-requires c =
    let q = again c.requires (c.update_height.ensures c.requires) in
    let h = heights {l = q.l} {r = q.r} (c.high_left-l.ensures q) (c.high_right-r.ensures q) in
    spot_l q (omega (arith, h, over c.high_left-l.result c.high_right-r.result (omega (arith, h)) (omega (arith, h)) c.if-balance-gt1.true))

pub rotate_right-requires : goal.rotate_right-requires
rotate_right-requires c =
    let q = again c.requires (c.update_height.ensures c.requires) in
    let h = heights {l = q.l} {r = q.r} (c.high_left-l.ensures q) (c.high_right-r.ensures q) in
    let g : suc (ht q.r) < ht q.l = omega (arith, h, over c.high_left-l.result c.high_right-r.result (omega (arith, h)) (omega (arith, h)) c.if-balance-gt1.true) in
    tilted-l q g (c.tilt_left.ensures (spot_l q g))

pub returns-then-balance-gt1 : goal.returns-then-balance-gt1
returns-then-balance-gt1 c = λ p.
    let q = again p (c.update_height.ensures p) in
    let h = heights {l = q.l} {r = q.r} (c.high_left-l.ensures q) (c.high_right-r.ensures q) in
    let g : suc (ht q.r) < ht q.l = omega (arith, h, over c.high_left-l.result c.high_right-r.result (omega (arith, h)) (omega (arith, h)) c.if-balance-gt1.true) in
    rw (bal_l p.l c.args.s p.k p.r g)
    (after p (c.update_height.ensures p).frame (then (c.tilt_left.ensures (spot_l q g)).frame (c.rotate_right.ensures (tilted-l q g (c.tilt_left.ensures (spot_l q g))))))

pub tilt_right-requires : goal.tilt_right-requires
tilt_right-requires c =
    let q = again c.requires (c.update_height.ensures c.requires) in
    let h = heights {l = q.l} {r = q.r} (c.high_left-l.ensures q) (c.high_right-r.ensures q) in
    spot_r q (omega (arith, h, under c.high_left-l.result c.high_right-r.result (omega (arith, h)) (omega (arith, h)) c.if-balance-ltminus1.true))

pub rotate_left-requires : goal.rotate_left-requires
rotate_left-requires c =
    let q = again c.requires (c.update_height.ensures c.requires) in
    let h = heights {l = q.l} {r = q.r} (c.high_left-l.ensures q) (c.high_right-r.ensures q) in
    let g : suc (ht q.l) < ht q.r = omega (arith, h, under c.high_left-l.result c.high_right-r.result (omega (arith, h)) (omega (arith, h)) c.if-balance-ltminus1.true) in
    tilted-r q g (c.tilt_right.ensures (spot_r q g))

pub returns-then-balance-ltminus1 : goal.returns-then-balance-ltminus1
returns-then-balance-ltminus1 c = λ p.
    let q = again p (c.update_height.ensures p) in
    let h = heights {l = q.l} {r = q.r} (c.high_left-l.ensures q) (c.high_right-r.ensures q) in
    let n : ht q.l ≤ suc (ht q.r) = omega (arith, h, not_over c.high_left-l.result c.high_right-r.result (omega (arith, h)) (omega (arith, h)) c.if-balance-gt1.false) in
    let g : suc (ht q.l) < ht q.r = omega (arith, h, under c.high_left-l.result c.high_right-r.result (omega (arith, h)) (omega (arith, h)) c.if-balance-ltminus1.true) in
    rw (bal_r p.l c.args.s p.k p.r n g)
    (after p (c.update_height.ensures p).frame (then (c.tilt_right.ensures (spot_r q g)).frame (c.rotate_left.ensures (tilted-r q g (c.tilt_right.ensures (spot_r q g))))))

pub returns-else-balance-ltminus1 : goal.returns-else-balance-ltminus1
returns-else-balance-ltminus1 c = λ p.
    let u = c.update_height.ensures p in
    let q = again p u in
    let h = heights {l = q.l} {r = q.r} (c.high_left-l.ensures q) (c.high_right-r.ensures q) in
    let n : ht q.l ≤ suc (ht q.r) = omega (arith, h, not_over c.high_left-l.result c.high_right-r.result (omega (arith, h)) (omega (arith, h)) c.if-balance-gt1.false) in
    let o : ht q.r ≤ suc (ht q.l) = omega (arith, h, not_under c.high_left-l.result c.high_right-r.result (omega (arith, h)) (omega (arith, h)) c.if-balance-ltminus1.false) in
    rw (bal_n p.l c.args.s p.k p.r n o)
    (record { holds = u.holds; frame = frame_wide p.lo p.hi p.held.from p.held.to u.frame })
