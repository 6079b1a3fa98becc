-- The steps that the functions' proofs are made of: what a link tells, and how a slot's trees change with a store.
use mathlib.Core.Path.{◌≡◌, refl, sym, ◌∙◌, ap, subst}
use mathlib.Core.Logic.{◌≢◌}
use mathlib.Core.List.{List}
use Prim.Native.Nat.{ℕ, suc, max, ◌≤◌, ◌<◌}
use native.Mathlib.Omega.{arith}
use lib.Dec.{lit<, lit≤}
use Rattle.avl.specs.Mem.{word, put, At}
use Rattle.avl.specs.MemLaws.{at_len, same, other_field}
use Rattle.avl.specs.Tree.{Tree, Ord, ht}
use Rattle.avl.specs.TreeLaws.{ht_room}
use Rattle.avl.specs.Tree.Tree.{leaf, node}
use Rattle.avl.specs.Holds.{nil, top, key, left, right, Holds, Open, Frame, Made, Right, Left, Lone}
use Rattle.avl.specs.Frames.{frame_put, keep_below, keep_above}

pub nil_ht : (m : List ℕ) (p : ℕ) (t : Tree) → p ≡ nil → Holds m p t → 0 ≡ ht t
nil_ht m p leaf e h = refl
nil_ht m p (node l s k r) e h = absurd (omega (arith, h.is))

pub held_at : (m : List ℕ) (p : ℕ) (t : Tree) → p ≢ nil → Holds m p t → At m p
held_at m p leaf n h = absurd (n h)
held_at m p (node l s k r) n h = subst (λ q. At m q) (sym h.is) h.at

pub held_ht : (m : List ℕ) (p : ℕ) (t : Tree) → p ≢ nil → Holds m p t → word m p 13 ≡ ht t
held_ht m p leaf n h = absurd (n h)
held_ht m p (node l s k r) n h = ap (λ q. word m q 13) h.is ∙ h.tall_is

-- the trees of an open slot are low enough to count
pub low_l : {m : List ℕ} {s k lo hi : ℕ} {l r : Tree} → Open m s l k r lo hi → ht l < top
low_l {k = k} {lo = lo} {l = l} o = omega (arith, ht_room lo k l o.l_ord)

pub low_r : {m : List ℕ} {s k lo hi : ℕ} {l r : Tree} → Open m s l k r lo hi → ht r < top
low_r {k = k} {hi = hi} {r = r} o = omega (arith, ht_room (suc k) hi r o.r_ord)

-- a slot whose height is put right is a tree
pub shut : {m n : List ℕ} {s k lo hi x : ℕ} {l r : Tree} → Open m s l k r lo hi → x ≡ suc (max (ht l) (ht r)) → n ≡ put m s 13 x → Made m n s (node l s k r) k (suc k)
shut {m} {n} {s} {k} {lo} {hi} {x} {l} {r} o e q = rw q (record { holds = it; frame = f })
  where
    f : Frame m (put m s 13 x) k (suc k)
    f = frame_put m s 13 x k (lit≤ tt) (lit< tt) o.key_is

    it : Holds (put m s 13 x) s (node l s k r)
    it = record {
      is = refl;
      at = at_len f.len o.at;
      some = o.some;
      key_is = f.rest s 3 (lit< tt) ∙ o.key_is;
      tall_is = same m s 13 x o.at (lit< tt) ∙ e;
      l_held = rw (other_field m s 13 x s 11 (omega arith) (lit< tt) (lit< tt)) (keep_below lo k (left m s) l f (omega arith) o.l_ord o.l_held);
      r_held = rw (other_field m s 13 x s 12 (omega arith) (lit< tt) (lit< tt)) (keep_above (suc k) hi (right m s) r f (omega arith) o.r_ord o.r_held);
    }

-- a tree of one node at least is a slot with its trees
pub opened : {m : List ℕ} (p lo hi : ℕ) {s k : ℕ} {l r : Tree} → hi ≤ top → Ord lo (node l s k r) hi → Holds m p (node l s k r) → Open m s l k r lo hi
opened p lo hi b o h = record { at = h.at; some = h.some; key_is = h.key_is; l_held = h.l_held; r_held = h.r_held; from = o.0; to = o.1; bound = b; l_ord = o.2; r_ord = o.3 }

pub right_of : {m : List ℕ} {s k lo hi : ℕ} {l r : Tree} → Open m s l k r lo hi → Right m s k r hi
right_of o = record { at = o.at; some = o.some; key_is = o.key_is; r_held = o.r_held; to = o.to; bound = o.bound; r_ord = o.r_ord }

pub left_of : {m : List ℕ} {s k lo hi : ℕ} {l r : Tree} → Open m s l k r lo hi → Left m s l k lo
left_of o = record { at = o.at; some = o.some; key_is = o.key_is; l_held = o.l_held; from = o.from; l_ord = o.l_ord }

pub right_keep : {m n : List ℕ} {s k lo' hi' hi : ℕ} {r : Tree} → Frame m n lo' hi' → hi' ≤ k → Right m s k r hi → Right n s k r hi
right_keep {m} {n} {s} {k} {hi = hi} {r = r} f a o = record {
  at = at_len f.len o.at;
  some = o.some;
  key_is = f.rest s 3 (lit< tt) ∙ o.key_is;
  r_held = rw (f.above s 12 (lit< tt) (omega arith)) (keep_above (suc k) hi (right m s) r f (omega arith) o.r_ord o.r_held);
  to = o.to;
  bound = o.bound;
  r_ord = o.r_ord;
}

pub left_keep : {m n : List ℕ} {s k lo' hi' lo : ℕ} {l : Tree} → Frame m n lo' hi' → k < lo' → Left m s l k lo → Left n s l k lo
left_keep {m} {n} {s} {k} {lo = lo} {l = l} f a o = record {
  at = at_len f.len o.at;
  some = o.some;
  key_is = f.rest s 3 (lit< tt) ∙ o.key_is;
  l_held = rw (f.below s 11 (lit< tt) (omega arith)) (keep_below lo k (left m s) l f (omega arith) o.l_ord o.l_held);
  from = o.from;
  l_ord = o.l_ord;
}

pub link_l : {m n : List ℕ} {s k hi : ℕ} {r : Tree} (lo' q : ℕ) (t : Tree) → Right m s k r hi → n ≡ put m s 11 q → lo' ≤ k → Ord lo' t k → Holds m q t → Open n s t k r lo' hi
link_l {m} {n} {s} {k} {hi} {r} lo' q t o e a d h = rw e it
  where
    f : Frame m (put m s 11 q) k (suc k)
    f = frame_put m s 11 q k (lit≤ tt) (lit< tt) o.key_is

    it : Open (put m s 11 q) s t k r lo' hi
    it = record {
      at = at_len f.len o.at;
      some = o.some;
      key_is = f.rest s 3 (lit< tt) ∙ o.key_is;
      l_held = rw (same m s 11 q o.at (lit< tt)) (keep_below lo' k q t f (omega arith) d h);
      r_held = rw (other_field m s 11 q s 12 (omega arith) (lit< tt) (lit< tt)) (keep_above (suc k) hi (right m s) r f (omega arith) o.r_ord o.r_held);
      from = a;
      to = o.to;
      bound = o.bound;
      l_ord = d;
      r_ord = o.r_ord;
    }

pub link_r : {m n : List ℕ} {s k lo : ℕ} {l : Tree} (hi' q : ℕ) (t : Tree) → Left m s l k lo → n ≡ put m s 12 q → k < hi' → hi' ≤ top → Ord (suc k) t hi' → Holds m q t → Open n s l k t lo hi'
link_r {m} {n} {s} {k} {lo} {l} hi' q t o e a b d h = rw e it
  where
    f : Frame m (put m s 12 q) k (suc k)
    f = frame_put m s 12 q k (lit≤ tt) (lit< tt) o.key_is

    it : Open (put m s 12 q) s l k t lo hi'
    it = record {
      at = at_len f.len o.at;
      some = o.some;
      key_is = f.rest s 3 (lit< tt) ∙ o.key_is;
      l_held = rw (other_field m s 12 q s 11 (omega arith) (lit< tt) (lit< tt)) (keep_below lo k (left m s) l f (omega arith) o.l_ord o.l_held);
      r_held = rw (same m s 12 q o.at (lit< tt)) (keep_above (suc k) hi' q t f (omega arith) d h);
      from = o.from;
      to = a;
      bound = b;
      l_ord = o.l_ord;
      r_ord = d;
    }

-- the frame of such a store
pub linked : {m n : List ℕ} (s : ℕ) {k : ℕ} (j q : ℕ) → 11 ≤ j → j < 14 → key m s ≡ k → n ≡ put m s j q → Frame m n k (suc k)
linked {m} {n} s {k} j q a b o e = rw e (frame_put m s j q k a b o)

pub lone_keep : {m n : List ℕ} {s k lo hi : ℕ} → Frame m n lo hi → Lone m s k → Lone n s k
lone_keep {s = s} f h = record { at = at_len f.len h.at; some = h.some; key_is = f.rest s 3 (lit< tt) ∙ h.key_is }

pub lone_at : {m : List ℕ} {s t k : ℕ} → s ≡ t → Lone m s k → Lone m t k
lone_at {m} {s} {t} {k} e h = subst (λ z. Lone m z k) e h
