-- What a change of some words leaves as it was.
use Rattle.std.specs.Prelude.{◌≡◌, List, ℕ, ◌≤◌, ◌<◌, suc, length}
use Rattle.std.proofs.Common.{sym, ◌∙◌, ap, subst, arith, lit<, lit≤}
use Rattle.avl.specs.Mem.{word, put}
use Rattle.avl.specs.MemLaws.{at_len, len_put, other_field, other_slot}
use Rattle.avl.specs.Tree.{Tree, Ord}
use Rattle.avl.specs.Tree.Tree.{leaf, node}
use Rattle.avl.specs.Holds.{nil, key, left, right, Holds, Frame, cleared}

pub frame_wide : {m n : List ℕ} {lo hi : ℕ} (lo' hi' : ℕ) → lo' ≤ lo → hi ≤ hi' → Frame m n lo hi → Frame m n lo' hi'
frame_wide lo' hi' a b f = record { len = f.len; rest = f.rest; below = λ t j l h. f.below t j l (omega arith); above = λ t j l h. f.above t j l (omega arith) }

pub frame_trans : {m n o : List ℕ} {lo hi : ℕ} → Frame m n lo hi → Frame n o lo hi → Frame m o lo hi
frame_trans {m} {n} f g = record {
  len = g.len ∙ f.len;
  rest = λ t j l. g.rest t j l ∙ f.rest t j l;
  below = λ t j l h. g.below t j l (omega (arith, f.rest t 3 (lit< tt))) ∙ f.below t j l h;
  above = λ t j l h. g.above t j l (omega (arith, f.rest t 3 (lit< tt))) ∙ f.above t j l h;
}

-- a store to a tree field of a slot whose column is k
pub frame_put : (m : List ℕ) (s j x k : ℕ) → 11 ≤ j → j < 14 → key m s ≡ k → Frame m (put m s j x) k (suc k)
frame_put m s j x k a b e = record {
  len = len_put m s j x;
  rest = λ t i l. other_field m s j x t i (omega arith) b (omega arith);
  below = λ t i l h. other_slot m s j x t i (λ q. let z : key m t ≡ key m s = ap (λ u. key m u) q in omega arith) b l;
  above = λ t i l h. other_slot m s j x t i (λ q. let z : key m t ≡ key m s = ap (λ u. key m u) q in omega arith) b l;
}

pub frame_cleared : {m n : List ℕ} (s k : ℕ) → key m s ≡ k → n ≡ cleared m s → Frame m n k (suc k)
frame_cleared {m} {n} s k e q = rw q (frame_trans a (frame_trans b d))
  where
    m₁ : List ℕ
    m₁ = put m s 11 nil

    m₂ : List ℕ
    m₂ = put m₁ s 12 nil

    a : Frame m m₁ k (suc k)
    a = frame_put m s 11 nil k (lit≤ tt) (lit< tt) e

    b : Frame m₁ m₂ k (suc k)
    b = frame_put m₁ s 12 nil k (lit≤ tt) (lit< tt) (a.rest s 3 (lit< tt) ∙ e)

    d : Frame m₂ (put m₂ s 13 1) k (suc k)
    d = frame_put m₂ s 13 1 k (lit≤ tt) (lit< tt) (b.rest s 3 (lit< tt) ∙ (a.rest s 3 (lit< tt) ∙ e))

-- a tree whose columns are apart from the frame's is held as it was
pub keep : (m n : List ℕ) (lo hi p : ℕ) (t : Tree) → length n ≡ length m
    → ((u j : ℕ) → j < 14 → lo ≤ key m u → key m u < hi → word n u j ≡ word m u j)
    → Ord lo t hi → Holds m p t → Holds n p t
keep m n lo hi p leaf e f o h = h
keep m n lo hi p (node l s k r) e f o h = record {
  is = h.is;
  at = at_len e h.at;
  some = h.some;
  key_is = f s 3 (lit< tt) (omega arith) (omega arith) ∙ h.key_is;
  tall_is = f s 13 (lit< tt) (omega arith) (omega arith) ∙ h.tall_is;
  l_held = subst (λ q. Holds n q l) (sym (f s 11 (lit< tt) (omega arith) (omega arith))) (keep m n lo k (left m s) l e (λ u j a b c. f u j a b (omega arith)) o.2 h.l_held);
  r_held = subst (λ q. Holds n q r) (sym (f s 12 (lit< tt) (omega arith) (omega arith))) (keep m n (suc k) hi (right m s) r e (λ u j a b c. f u j a (omega arith) c) o.3 h.r_held);
}

pub keep_below : {m n : List ℕ} {lo hi : ℕ} (lo' hi' p : ℕ) (t : Tree) → Frame m n lo hi → hi' ≤ lo → Ord lo' t hi' → Holds m p t → Holds n p t
keep_below {m} {n} lo' hi' p t f a o h = keep m n lo' hi' p t f.len (λ u j b c d. f.below u j b (omega arith)) o h

pub keep_above : {m n : List ℕ} {lo hi : ℕ} (lo' hi' p : ℕ) (t : Tree) → Frame m n lo hi → hi ≤ lo' → Ord lo' t hi' → Holds m p t → Holds n p t
keep_above {m} {n} lo' hi' p t f a o h = keep m n lo' hi' p t f.len (λ u j b c d. f.above u j b (omega arith)) o h
