-- The least slot of a tree, taken out.
use mathlib.Core.Path.{◌≡◌, refl, sym, ◌∙◌, ap, subst}
use mathlib.Core.Logic.{◌≢◌}
use mathlib.Core.List.{List}
use Prim.Native.Nat.{ℕ, suc, max, ◌≤◌, ◌<◌}
use native.Mathlib.Nat.{le_refl}
use native.Mathlib.Omega.{arith}
use lib.Dec.{lit<, lit≤}
use Rattle.avl.specs.Mem.{put}
use Rattle.avl.specs.MemLaws.{at_len, same}
use Rattle.avl.specs.Tree.{Tree, Ord, ht, bal, min_key, cut_min, join, On, del}
use Rattle.avl.specs.TreeLaws.{ord_wide, cut_min_ord, min_slot_step, min_key_step, cut_min_step, join_nil_l, join_nil_r, join_both, on_l, on_r, on_leaf, del_ord, found_l, found_r, found_here}
use Rattle.avl.specs.Tree.Tree.{leaf, node}
use Rattle.avl.specs.Holds.{nil, left, right, Holds, Open, Frame, Left, Pair, Has, Gone, Made, GraftL, GraftR, Full, Lone, Cut}
use Rattle.avl.specs.Frames.{frame_wide, frame_trans, frame_put, keep_above, keep_below}
use Rattle.avl.proofs.Steps.{right_of, left_of, left_keep, right_keep, opened, linked, lone_keep, lone_at}
use Rattle.avl.proofs.Turn.{then}
use Rattle.avl.proofs.Into.{high, high_is}

pub has_node : (m : List ℕ) (p : ℕ) (t : Tree) → p ≢ nil → Holds m p t → 0 < ht t
has_node m p leaf n h = absurd (n h)
has_node m p (node l s k r) n h = omega arith

pub record FormO (m : List ℕ) (root : ℕ) : Type 0 where
  pub l : Tree
  pub k : ℕ
  pub r : Tree
  pub lo : ℕ
  pub hi : ℕ
  pub held : Open m root l k r lo hi
  pub high_eq : high m root ≡ suc (max (ht l) (ht r))

pub form_o : {m : List ℕ} {root : ℕ} (P : Tree → ℕ → ℕ → Type 0) → ((q : FormO m root) → P (node q.l root q.k q.r) q.lo q.hi) → (p : Full m root) → P p.t p.lo p.hi
form_o {m} {root} P f p = go p.t p.holds p.ord p.has
  where
    go : (t : Tree) → Holds m root t → Ord p.lo t p.hi → 0 < ht t → P t p.lo p.hi
    go leaf h o z = absurd (omega arith)
    go (node l y k r) h o z =
        subst (λ z. P (node l z k r) p.lo p.hi) h.is
        (f (record {
          l = l;
          k = k;
          r = r;
          lo = p.lo;
          hi = p.hi;
          held = subst (λ z. Open m z l k r p.lo p.hi) (sym h.is) (opened root p.lo p.hi p.bound o h);
          high_eq = high_is m root (node l y k r) h;
        }))

pub the_o : {m : List ℕ} {root : ℕ} → Full m root → FormO m root
the_o {m} {root} = form_o (λ _ _ _. FormO m root) (λ q. q)

module _ {m : List ℕ} {root : ℕ} (q : FormO m root) where
  -- no left tree: the root is the least
  pub first : {n : List ℕ} {x b : ℕ} → x ≡ left m root → x ≡ nil → b ≡ right m root → n ≡ put m root 12 nil → Cut m n b root (node q.l root q.k q.r) q.lo q.hi
  first {n} {x} {b} e z d w = go q.l q.held.l_held
    where
      f : Frame m n q.k (suc q.k)
      f = linked root 12 nil (lit≤ tt) (lit< tt) q.held.key_is w

      go : (l : Tree) → Holds m (left m root) l → Cut m n b root (node l root q.k q.r) q.lo q.hi
      go leaf h = record {
        made = record {
          holds = subst (λ z. Holds n z q.r) (sym d) (keep_above (suc q.k) q.hi (right m root) q.r f (omega arith) q.held.r_ord q.held.r_held);
          frame = frame_wide q.lo q.hi q.held.from q.held.to f;
        };
        is = refl;
        lone = record { at = at_len f.len q.held.at; some = q.held.some; key_is = f.rest root 3 (lit< tt) ∙ q.held.key_is };
      }
      go (node a y i c) h = absurd (omega (arith, e, z, h.is, h.some))

  pub l_has : {x : ℕ} → x ≡ left m root → x ≢ nil → 0 < ht q.l
  l_has {x} e n = has_node m (left m root) q.l (λ z. n (e ∙ z)) q.held.l_held

  abbrev pub full_l : {x : ℕ} → x ≡ left m root → x ≢ nil → Full m x
  full_l {x} e n = record { t = q.l; lo = q.lo; hi = q.k; holds = subst (λ z. Holds m z q.l) (sym e) q.held.l_held; ord = q.held.l_ord; bound = omega (arith, q.held.to, q.held.bound); has = l_has e n }

  pub falls : {x : ℕ} → x ≡ left m root → high m x < high m root
  falls {x} e = omega (arith, q.high_eq, ap (λ z. high m z) e, high_is m (left m root) q.l q.held.l_held)

  abbrev pub graft : {n : List ℕ} {rest least : ℕ} → 0 < ht q.l → Cut m n rest least q.l q.lo q.k → GraftL n root rest
  graft h u = record {
    t = cut_min q.l;
    k = q.k;
    r = q.r;
    lo = q.lo;
    hi = q.hi;
    half = right_keep u.made.frame (le_refl q.k) (right_of q.held);
    from = q.held.from;
    ord = (let z = cut_min_ord q.lo q.k q.l h q.held.l_ord in ord_wide (suc (min_key q.l)) q.k q.lo q.k (cut_min q.l) (omega (arith, z.from)) (le_refl q.k) z.ord);
    holds = u.made.holds;
  }

  pub done : {n o : List ℕ} {rest least top : ℕ} → 0 < ht q.l → Cut m n rest least q.l q.lo q.k → Made n o top (bal (cut_min q.l) root q.k q.r) q.lo q.hi → Cut m o top least (node q.l root q.k q.r) q.lo q.hi
  done {n} {o} {rest} {least} {top} h u v = record {
    made = subst (λ z. Made m o top z q.lo q.hi) (sym (cut_min_step q.l root q.k q.r h)) (then (frame_wide q.lo q.hi (le_refl q.lo) (omega (arith, q.held.to)) u.made.frame) v);
    is = u.is ∙ sym (min_slot_step q.l root q.k q.r h);
    lone = rw (min_slot_step q.l root q.k q.r h, min_key_step q.l root q.k q.r h) (lone_keep v.frame u.lone);
  }

-- ---- two trees in one
-- a slot of a column alone, and a tree hung to its left
pub hang_l : {m n : List ℕ} {s k : ℕ} (lo q : ℕ) (t : Tree) → Lone m s k → n ≡ put m s 11 q → lo ≤ k → Ord lo t k → Holds m q t → Left n s t k lo
hang_l {m} {n} {s} {k} lo q t o e a d h = rw e it
  where
    f : Frame m (put m s 11 q) k (suc k)
    f = frame_put m s 11 q k (lit≤ tt) (lit< tt) o.key_is

    it : Left (put m s 11 q) s t k lo
    it = record {
      at = at_len f.len o.at;
      some = o.some;
      key_is = f.rest s 3 (lit< tt) ∙ o.key_is;
      l_held = rw (same m s 11 q o.at (lit< tt)) (keep_below lo k q t f (omega arith) d h);
      from = a;
      l_ord = d;
    }

pub still : (m : List ℕ) (lo hi : ℕ) → Frame m m lo hi
still m lo hi = record { len = refl; rest = λ t j i. refl; below = λ t j i g. refl; above = λ t j i g. refl }

module _ {m : List ℕ} {a b : ℕ} (p : Pair m a b) where
  pub only_r : a ≡ nil → Made m m b (join p.l p.r) p.lo p.hi
  only_r e = go p.l p.l_held
    where
      go : (l : Tree) → Holds m a l → Made m m b (join l p.r) p.lo p.hi
      go leaf h = rw (join_nil_l p.r) (record { holds = p.r_held; frame = still m p.lo p.hi })
      go (node c x i d) h = absurd (omega (arith, h.is, h.some))

  pub only_l : b ≡ nil → Made m m a (join p.l p.r) p.lo p.hi
  only_l e = go p.r p.r_held
    where
      go : (r : Tree) → Holds m b r → Made m m a (join p.l r) p.lo p.hi
      go leaf h = rw (join_nil_r p.l) (record { holds = p.l_held; frame = still m p.lo p.hi })
      go (node c x i d) h = absurd (omega (arith, h.is, h.some))

  abbrev pub full_r : b ≢ nil → Full m b
  full_r n = record { t = p.r; lo = suc p.k; hi = p.hi; holds = p.r_held; ord = p.r_ord; bound = p.bound; has = has_node m b p.r n p.r_held }

  abbrev pub graft_both : {n o : List ℕ} {rest least : ℕ} → 0 < ht p.r → Cut m n rest least p.r (suc p.k) p.hi → o ≡ put n least 11 a → GraftR o least rest
  graft_both {n} {o} {rest} {least} h u w =
      record {
        l = p.l;
        k = min_key p.r;
        t = cut_min p.r;
        lo = p.lo;
        hi = p.hi;
        half = hang_l p.lo a p.l (lone_at (sym u.is) u.lone) w (omega (arith, p.from, (cut_min_ord (suc p.k) p.hi p.r h p.r_ord).from)) (ord_wide p.lo p.k p.lo (min_key p.r) p.l (le_refl p.lo) (omega (arith, (cut_min_ord (suc p.k) p.hi p.r h p.r_ord).from)) p.l_ord)
            (keep_below p.lo p.k a p.l u.made.frame (omega arith) p.l_ord p.l_held);
        to = (cut_min_ord (suc p.k) p.hi p.r h p.r_ord).to;
        bound = p.bound;
        ord = (cut_min_ord (suc p.k) p.hi p.r h p.r_ord).ord;
        holds = keep_above (suc (min_key p.r)) p.hi rest (cut_min p.r) (linked least 11 a (lit≤ tt) (lit< tt) (lone_at (sym u.is) u.lone).key_is w) (le_refl (suc (min_key p.r))) (cut_min_ord (suc p.k) p.hi p.r h p.r_ord).ord u.made.holds;
      }

  pub both : {n o q : List ℕ} {rest least top : ℕ} → 0 < ht p.l → 0 < ht p.r → Cut m n rest least p.r (suc p.k) p.hi → o ≡ put n least 11 a → Made o q top (bal p.l least (min_key p.r) (cut_min p.r)) p.lo p.hi → Made m q top (join p.l p.r) p.lo p.hi
  both {n} {o} {q} {rest} {least} {top} g h u w v =
      let z = cut_min_ord (suc p.k) p.hi p.r h p.r_ord in
      let v' = subst (λ s. Made o q top (bal p.l s (min_key p.r) (cut_min p.r)) p.lo p.hi) u.is v in
      subst (λ t. Made m q top t p.lo p.hi) (sym (join_both p.l p.r g h))
      (then (frame_trans (frame_wide p.lo p.hi (omega (arith, p.from)) (le_refl p.hi) u.made.frame)
      (frame_wide p.lo p.hi (omega (arith, p.from, z.from)) z.to (linked least 11 a (lit≤ tt) (lit< tt) (lone_at (sym u.is) u.lone).key_is w))) v')

-- ---- a column taken out
pub record FormD (m : List ℕ) (root column : ℕ) : Type 0 where
  pub l : Tree
  pub j : ℕ
  pub r : Tree
  pub lo : ℕ
  pub hi : ℕ
  pub held : Open m root l j r lo hi
  pub on : On column (node l root j r)
  pub high_eq : high m root ≡ suc (max (ht l) (ht r))

pub form_d : {m : List ℕ} {root column : ℕ} (P : Tree → ℕ → ℕ → Type 0) → ((q : FormD m root column) → P (node q.l root q.j q.r) q.lo q.hi) → (p : Has m root column) → P p.t p.lo p.hi
form_d {m} {root} {column} P f p = go p.t p.holds p.ord p.on
  where
    go : (t : Tree) → Holds m root t → Ord p.lo t p.hi → On column t → P t p.lo p.hi
    go leaf h o z = absurd (on_leaf column z)
    go (node l y j r) h o z =
        subst (λ u. P (node l u j r) p.lo p.hi) h.is
        (f (record {
          l = l;
          j = j;
          r = r;
          lo = p.lo;
          hi = p.hi;
          held = subst (λ u. Open m u l j r p.lo p.hi) (sym h.is) (opened root p.lo p.hi p.bound o h);
          on = subst (λ u. On column (node l u j r)) (sym h.is) z;
          high_eq = high_is m root (node l y j r) h;
        }))

pub the_d : {m : List ℕ} {root column : ℕ} → Has m root column → FormD m root column
the_d {m} {root} {column} = form_d (λ _ _ _. FormD m root column) (λ q. q)

module _ {m : List ℕ} {root column : ℕ} (q : FormD m root column) where
  abbrev pub has_l : {x : ℕ} → x ≡ left m root → column < q.j → Has m x column
  has_l {x} e h = record { t = q.l; lo = q.lo; hi = q.j; holds = subst (λ z. Holds m z q.l) (sym e) q.held.l_held; ord = q.held.l_ord; bound = omega (arith, q.held.to, q.held.bound); on = on_l column q.l root q.j q.r h q.on }

  abbrev pub has_r : {x : ℕ} → x ≡ right m root → q.j < column → Has m x column
  has_r {x} e h = record { t = q.r; lo = suc q.j; hi = q.hi; holds = subst (λ z. Holds m z q.r) (sym e) q.held.r_held; ord = q.held.r_ord; bound = q.held.bound; on = on_r column q.l root q.j q.r h q.on }

  pub d_falls_l : {x : ℕ} → x ≡ left m root → high m x < high m root
  d_falls_l {x} e = omega (arith, q.high_eq, ap (λ z. high m z) e, high_is m (left m root) q.l q.held.l_held)

  pub d_falls_r : {x : ℕ} → x ≡ right m root → high m x < high m root
  d_falls_r {x} e = omega (arith, q.high_eq, ap (λ z. high m z) e, high_is m (right m root) q.r q.held.r_held)

  abbrev pub d_graft_l : {n : List ℕ} {rest slot : ℕ} → Gone m n rest slot column q.l q.lo q.j → GraftL n root rest
  d_graft_l u = record { t = del column q.l; k = q.j; r = q.r; lo = q.lo; hi = q.hi; half = right_keep u.made.frame (le_refl q.j) (right_of q.held); from = q.held.from; ord = del_ord q.lo q.j column q.l q.held.l_ord; holds = u.made.holds }

  abbrev pub d_graft_r : {n : List ℕ} {rest slot : ℕ} → Gone m n rest slot column q.r (suc q.j) q.hi → GraftR n root rest
  d_graft_r u = record { l = q.l; k = q.j; t = del column q.r; lo = q.lo; hi = q.hi; half = left_keep u.made.frame (le_refl (suc q.j)) (left_of q.held); to = q.held.to; bound = q.held.bound; ord = del_ord (suc q.j) q.hi column q.r q.held.r_ord; holds = u.made.holds }

  pub d_done_l : {n o : List ℕ} {rest slot top : ℕ} → column < q.j → Gone m n rest slot column q.l q.lo q.j → Made n o top (bal (del column q.l) root q.j q.r) q.lo q.hi → Gone m o top slot column (node q.l root q.j q.r) q.lo q.hi
  d_done_l {n} {o} {rest} {slot} {top} h u v =
      let e = found_l column q.l root q.j q.r h in
      record {
        made = subst (λ t. Made m o top t q.lo q.hi) (sym e.tree) (then (frame_wide q.lo q.hi (le_refl q.lo) (omega (arith, q.held.to)) u.made.frame) v);
        is = u.is ∙ sym e.slot;
        lone = lone_keep v.frame u.lone;
      }

  pub d_done_r : {n o : List ℕ} {rest slot top : ℕ} → q.j < column → Gone m n rest slot column q.r (suc q.j) q.hi → Made n o top (bal q.l root q.j (del column q.r)) q.lo q.hi → Gone m o top slot column (node q.l root q.j q.r) q.lo q.hi
  d_done_r {n} {o} {rest} {slot} {top} h u v =
      let e = found_r column q.l root q.j q.r h in
      record {
        made = subst (λ t. Made m o top t q.lo q.hi) (sym e.tree) (then (frame_wide q.lo q.hi (omega (arith, q.held.from)) (le_refl q.hi) u.made.frame) v);
        is = u.is ∙ sym e.slot;
        lone = lone_keep v.frame u.lone;
      }

  -- the slot itself, once it is cleared
  abbrev pub pair : {n : List ℕ} {a b : ℕ} → a ≡ left m root → b ≡ right m root → Frame m n q.j (suc q.j) → Pair n a b
  pair {n} {a} {b} d e f = record {
    l = q.l;
    k = q.j;
    r = q.r;
    lo = q.lo;
    hi = q.hi;
    l_held = keep_below q.lo q.j a q.l f (le_refl q.j) q.held.l_ord (subst (λ z. Holds m z q.l) (sym d) q.held.l_held);
    r_held = keep_above (suc q.j) q.hi b q.r f (le_refl (suc q.j)) q.held.r_ord (subst (λ z. Holds m z q.r) (sym e) q.held.r_held);
    from = q.held.from;
    to = q.held.to;
    bound = q.held.bound;
    l_ord = q.held.l_ord;
    r_ord = q.held.r_ord;
  }

  pub d_here : {n o : List ℕ} {top : ℕ} → q.j ≡ column → Frame m n q.j (suc q.j) → Made n o top (join q.l q.r) q.lo q.hi → Gone m o top root column (node q.l root q.j q.r) q.lo q.hi
  d_here {n} {o} {top} h f v =
      let e = found_here column q.l root q.j q.r h in
      record {
        made = subst (λ t. Made m o top t q.lo q.hi) (sym e.tree) (then (frame_wide q.lo q.hi q.held.from q.held.to f) v);
        is = sym e.slot;
        lone = lone_keep v.frame (lone_keep f (record { at = q.held.at; some = q.held.some; key_is = q.held.key_is ∙ h }));
      }
