-- An insertion below a slot: what the recursive call is asked, and what the slot has after it.
use mathlib.Core.Path.{◌≡◌, refl, sym, ap, subst}
use mathlib.Core.Bool.{Bool, true, false}
use mathlib.Core.Logic.{◌≢◌}
use mathlib.Core.List.{List}
use Prim.Native.Nat.{ℕ, suc, max, ◌≤◌, ◌<◌}
use native.Mathlib.Nat.{le_refl}
use native.Mathlib.Omega.{arith}
use lib.Dec.{eqb}
use borrow.Author.Tests.{eq-eqb, ne_eqb}
use Rattle.avl.specs.Mem.{word}
use Rattle.avl.specs.Tree.{Tree, Ord, Off, ht, bal, ins}
use Rattle.avl.specs.TreeLaws.{ins_ord, ins_l, ins_r, ins_leaf}
use Rattle.avl.specs.Tree.Tree.{leaf, node}
use Rattle.avl.specs.Holds.{nil, key, left, right, Holds, Open, Made, Room, GraftL, GraftR}
use Rattle.avl.specs.Frames.{frame_wide}
use Rattle.avl.proofs.Steps.{right_of, left_of, right_keep, left_keep, opened, held_ht}
use Rattle.avl.proofs.Turn.{then}

-- the height at a link, as a function of the words: the measure of the recursions
abbrev pub or_none : Bool → ℕ → ℕ
or_none true x = 0
or_none false x = x

unfoldable pub high : List ℕ → ℕ → ℕ
high m p = or_none (eqb p nil) (word m p 13)

pub high_is : (m : List ℕ) (p : ℕ) (t : Tree) → Holds m p t → high m p ≡ ht t
unfolding high
high_is m p leaf h = rw (eq-eqb p nil h)
high_is m p (node l s k r) h = rw (ne_eqb p nil (λ e. omega (arith, h.is, h.some))) (held_ht m p (node l s k r) (λ e. omega (arith, h.is, h.some)) h)

pub record FormI (m : List ℕ) (root s : ℕ) : Type 0 where
  pub l : Tree
  pub j : ℕ
  pub r : Tree
  pub k : ℕ
  pub lo : ℕ
  pub hi : ℕ
  pub held : Open m root l j r lo hi
  pub off : Off k (node l root j r)
  pub from : lo ≤ k
  pub to : k < hi
  pub fresh : Holds m s (node leaf s k leaf)
  pub high_eq : high m root ≡ suc (max (ht l) (ht r))

pub form_i : {m : List ℕ} {root s : ℕ} (P : Tree → ℕ → ℕ → ℕ → Type 0) → root ≢ nil → ((q : FormI m root s) → P (node q.l root q.j q.r) q.k q.lo q.hi) → (p : Room m root s) → P p.t p.k p.lo p.hi
form_i {m} {root} {s} P n f p = go p.t p.holds p.ord p.off
  where
    go : (t : Tree) → Holds m root t → Ord p.lo t p.hi → Off p.k t → P t p.k p.lo p.hi
    go leaf h o x = absurd (n h)
    go (node l y j r) h o x =
        subst (λ z. P (node l z j r) p.k p.lo p.hi) h.is
        (f (record {
          l = l;
          j = j;
          r = r;
          k = p.k;
          lo = p.lo;
          hi = p.hi;
          held = subst (λ z. Open m z l j r p.lo p.hi) (sym h.is) (opened root p.lo p.hi p.bound o h);
          off = x;
          from = p.from;
          to = p.to;
          fresh = p.fresh;
          high_eq = high_is m root (node l y j r) h;
        }))

pub the_i : {m : List ℕ} {root s : ℕ} → root ≢ nil → Room m root s → FormI m root s
the_i {m} {root} {s} n = form_i (λ _ _ _ _. FormI m root s) n (λ q. q)

module _ {m : List ℕ} {root s : ℕ} (q : FormI m root s) where
  -- the test of the two columns
  pub less : {a b : ℕ} → a ≡ key m root → b ≡ key m s → b < a → q.k < q.j
  less e d h = omega (arith, e, d, h, q.held.key_is, q.fresh.key_is)

  pub more : {a b : ℕ} → a ≡ key m root → b ≡ key m s → a ≤ b → q.j < q.k
  more {a} {b} e d h = let z : q.j ≤ q.k = omega (arith, e, d, h, q.held.key_is, q.fresh.key_is) in omega (arith, q.off.0)

  abbrev pub room_l : {x : ℕ} → x ≡ left m root → q.k < q.j → Room m x s
  room_l {x} e h = record { t = q.l; k = q.k; lo = q.lo; hi = q.j; holds = subst (λ z. Holds m z q.l) (sym e) q.held.l_held; ord = q.held.l_ord; off = q.off.1; from = q.from; to = h; bound = omega (arith, q.held.to, q.held.bound); fresh = q.fresh }

  abbrev pub room_r : {x : ℕ} → x ≡ right m root → q.j < q.k → Room m x s
  room_r {x} e h = record { t = q.r; k = q.k; lo = suc q.j; hi = q.hi; holds = subst (λ z. Holds m z q.r) (sym e) q.held.r_held; ord = q.held.r_ord; off = q.off.2; from = h; to = q.to; bound = q.held.bound; fresh = q.fresh }

  pub falls_l : {x : ℕ} → x ≡ left m root → high m x < high m root
  falls_l {x} e = omega (arith, q.high_eq, ap (λ z. high m z) e, high_is m (left m root) q.l q.held.l_held)

  pub falls_r : {x : ℕ} → x ≡ right m root → high m x < high m root
  falls_r {x} e = omega (arith, q.high_eq, ap (λ z. high m z) e, high_is m (right m root) q.r q.held.r_held)

  abbrev pub graft_l : {n : List ℕ} {child : ℕ} → q.k < q.j → Made m n child (ins s q.k q.l) q.lo q.j → GraftL n root child
  graft_l h u = record { t = ins s q.k q.l; k = q.j; r = q.r; lo = q.lo; hi = q.hi; half = right_keep u.frame (le_refl q.j) (right_of q.held); from = q.held.from; ord = ins_ord q.lo q.j s q.k q.l q.from h q.off.1 q.held.l_ord; holds = u.holds }

  abbrev pub graft_r : {n : List ℕ} {child : ℕ} → q.j < q.k → Made m n child (ins s q.k q.r) (suc q.j) q.hi → GraftR n root child
  graft_r h u = record { l = q.l; k = q.j; t = ins s q.k q.r; lo = q.lo; hi = q.hi; half = left_keep u.frame (le_refl (suc q.j)) (left_of q.held); to = q.held.to; bound = q.held.bound; ord = ins_ord (suc q.j) q.hi s q.k q.r h q.to q.off.2 q.held.r_ord; holds = u.holds }

  pub done_l : {n o : List ℕ} {child top : ℕ} → q.k < q.j → Made m n child (ins s q.k q.l) q.lo q.j → Made n o top (bal (ins s q.k q.l) root q.j q.r) q.lo q.hi → Made m o top (ins s q.k (node q.l root q.j q.r)) q.lo q.hi
  done_l h u v = rw (ins_l s q.k q.l root q.j q.r h) (then (frame_wide q.lo q.hi (le_refl q.lo) (omega (arith, q.held.to)) u.frame) v)

  pub done_r : {n o : List ℕ} {child top : ℕ} → q.j < q.k → Made m n child (ins s q.k q.r) (suc q.j) q.hi → Made n o top (bal q.l root q.j (ins s q.k q.r)) q.lo q.hi → Made m o top (ins s q.k (node q.l root q.j q.r)) q.lo q.hi
  done_r h u v = rw (ins_r s q.k q.l root q.j q.r (omega arith)) (then (frame_wide q.lo q.hi (omega (arith, q.held.from)) (le_refl q.hi) u.frame) v)

-- into an empty tree
pub alone : {m : List ℕ} {root s : ℕ} (p : Room m root s) → root ≡ nil → Made m m s (ins s p.k p.t) p.lo p.hi
alone {m} {root} {s} p e = go p.t p.holds
  where
    go : (t : Tree) → Holds m root t → Made m m s (ins s p.k t) p.lo p.hi
    go leaf h = rw (ins_leaf s p.k) (record { holds = p.fresh; frame = record { len = refl; rest = λ t j i. refl; below = λ t j i g. refl; above = λ t j i g. refl } })
    go (node l y j r) h = absurd (omega (arith, h.is, h.some))
