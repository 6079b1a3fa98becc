-- What a search of a tree finds: the least column at or above the one asked, the column itself, the greatest below it.
use Rattle.std.specs.Prelude.{◌≡◌, refl, ◌⊎◌, List, [], ◌∷◌, ◌++◌, ℕ, ◌≤◌, ◌<◌, suc}
use Rattle.std.proofs.Common.{sym, ◌∙◌, ap, subst, ⊎_elim, inl, inr, arith}
use Rattle.avl.specs.Mem.{word}
use Rattle.avl.specs.Tree.{Tree, Ord, On, slot_of, same_of, before_of, from_of, slots, Entry}
use Rattle.avl.specs.Tree.Tree.{leaf, node}
use Rattle.avl.specs.TreeLaws.{lt_or, found_l, found_r, found_here, seen_leaf, seen_l, seen_r, seen_here, on_to_l, on_to_r, on_to_here}
use Rattle.avl.specs.Holds.{key, Holds}
use Rattle.avl.specs.Members.{In}

pub entry_ord : (lo hi x j : ℕ) (t : Tree) → Ord lo t hi → Entry x j t → (lo ≤ j) × (j < hi)
entry_ord lo hi x j leaf o e = absurd e
entry_ord lo hi x j (node l s i r) o e = ⊎_elim (λ h. (omega (arith, h.1), omega (arith, h.1)))
    (λ g. ⊎_elim (λ h. let z = entry_ord lo i x j l o.2 h in (z.0, omega arith)) (λ h. let z = entry_ord (suc i) hi x j r o.3 h in (omega arith, z.1)) g) e

-- nothing is at k or above, or the least that is
pub record Least (k : ℕ) (t : Tree) (s : ℕ) : Type 0 where
  pub j : ℕ
  pub entry : Entry s j t
  pub from : k ≤ j
  pub least : (x i : ℕ) → Entry x i t → k ≤ i → j ≤ i
  pub on : On j t
  pub is : slot_of j t ≡ s

pub record Below (k : ℕ) (t : Tree) : Type 0 where
  pub all : (x i : ℕ) → Entry x i t → i < k

pub from_spec : (lo hi k : ℕ) (t : Tree) (d : ℕ) → Ord lo t hi → ((from_of k t d ≡ d) × Below k t) ⊎ (Least k t (from_of k t d))
from_spec lo hi k leaf d o = inl ((seen_leaf k d d d).from, record { all = λ x i e. absurd e })
from_spec lo hi k (node l s i r) d o = ⊎_elim
    (λ (h : k < i).
    let e = (seen_l k l s i r d d d h).from in
    ⊎_elim
    (λ (g : (from_of k l s ≡ s) × Below k l). inr (record {
      j = i;
      entry = inl (e ∙ g.0, refl);
      from = omega arith;
      least = λ x y n b. ⊎_elim (λ z. omega (arith, z.1)) (λ z. ⊎_elim (λ w. absurd (omega (arith, g.1.all x y w))) (λ w. omega (arith, entry_ord (suc i) hi x y r o.3 w)) z) n;
      on = on_to_here i l s i r refl;
      is = (found_here i l s i r refl).slot ∙ sym (e ∙ g.0);
    }))
    (λ (g : Least k l (from_of k l s)).
    let q = entry_ord lo i (from_of k l s) g.j l o.2 g.entry in
    let u : g.j < i = q.1 in
    inr (record {
      j = g.j;
      entry = subst (λ z. Entry z g.j (node l s i r)) (sym e) (inr (inl g.entry));
      from = g.from;
      least = λ x y n b. ⊎_elim (λ z. omega (arith, z.1, q)) (λ z. ⊎_elim (λ w. g.least x y w b) (λ w. omega (arith, q, entry_ord (suc i) hi x y r o.3 w)) z) n;
      on = on_to_l g.j l s i r u g.on;
      is = (found_l g.j l s i r u).slot ∙ (g.is ∙ sym e);
    }))
    (from_spec lo i k l s o.2))
    (λ (f : i ≤ k). ⊎_elim
    (λ (h : i < k).
    let e = (seen_r k l s i r d d d h).from in
    ⊎_elim
    (λ (g : (from_of k r d ≡ d) × Below k r). inl (e ∙ g.0, record { all = λ x y n. ⊎_elim (λ z. omega (arith, z.1)) (λ z. ⊎_elim (λ w. omega (arith, entry_ord lo i x y l o.2 w)) (λ w. g.1.all x y w) z) n }))
    (λ (g : Least k r (from_of k r d)).
    let q = entry_ord (suc i) hi (from_of k r d) g.j r o.3 g.entry in
    let u : i < g.j = q.0 in
    inr (record {
      j = g.j;
      entry = subst (λ z. Entry z g.j (node l s i r)) (sym e) (inr (inr g.entry));
      from = g.from;
      least = λ x y n b. ⊎_elim (λ z. absurd (omega (arith, z.1))) (λ z. ⊎_elim (λ w. absurd (omega (arith, entry_ord lo i x y l o.2 w))) (λ w. g.least x y w b) z) n;
      on = on_to_r g.j l s i r u g.on;
      is = (found_r g.j l s i r u).slot ∙ (g.is ∙ sym e);
    }))
    (from_spec (suc i) hi k r d o.3))
    (λ (h : k ≤ i).
    let w : i ≡ k = omega arith in
    let e = (seen_here k l s i r d d d w).from in
    inr (record { j = i; entry = inl (e, refl); from = h; least = λ x y n b. omega arith; on = on_to_here i l s i r refl; is = (found_here i l s i r refl).slot ∙ sym e }))
    (lt_or i k))
    (lt_or k i)

-- a held tree's entries have their columns in the words
pub entry_key : (m : List ℕ) (p x j : ℕ) (t : Tree) → Holds m p t → Entry x j t → key m x ≡ j
entry_key m p x j leaf h e = absurd e
entry_key m p x j (node l s i r) h e = ⊎_elim (λ z. ap (λ y. key m y) z.0 ∙ (h.key_is ∙ sym z.1))
    (λ z. ⊎_elim (λ w. entry_key m (word m s 11) x j l h.l_held w) (λ w. entry_key m (word m s 12) x j r h.r_held w) z) e

in_or : (x : ℕ) (xs ys : List ℕ) → In x (xs ++ ys) → In x xs ⊎ In x ys
in_or x [] ys i = inr i
in_or x (z ∷ xs) ys i = ⊎_elim (λ e. inl (inl e)) (λ g. ⊎_elim (λ h. inl (inr h)) (λ h. inr h) (in_or x xs ys g)) i

pub entry_of : (x : ℕ) (t : Tree) → In x (slots t) → (j : ℕ) × Entry x j t
entry_of x leaf i = absurd i
entry_of x (node l s k r) i = ⊎_elim (λ h. let e = entry_of x l h in (e.0, inr (inl e.1)))
    (λ g. ⊎_elim (λ e. (k, inl (e, refl))) (λ h. let e = entry_of x r h in (e.0, inr (inr e.1))) g)
    (in_or x (slots l) (s ∷ slots r) i)

-- ---- the column itself, and the greatest below it
pub same_spec : (lo hi k : ℕ) (t : Tree) (d : ℕ) → Ord lo t hi → (Entry (same_of k t d) k t) ⊎ ((same_of k t d ≡ d) × ((x : ℕ) → Entry x k t → ⊥))
same_spec lo hi k leaf d o = inr ((seen_leaf k d d d).same, λ x e. e)
same_spec lo hi k (node l s i r) d o = ⊎_elim
    (λ (h : k < i).
    let e = (seen_l k l s i r d d d h).same in
    ⊎_elim (λ (g : Entry (same_of k l d) k l). inl (subst (λ z. Entry z k (node l s i r)) (sym e) (inr (inl g))))
    (λ (g : (same_of k l d ≡ d) × ((x : ℕ) → Entry x k l → ⊥)). inr (e ∙ g.0, λ x n. ⊎_elim (λ z. omega (arith, z.1)) (λ z. ⊎_elim (λ w. g.1 x w) (λ w. omega (arith, entry_ord (suc i) hi x k r o.3 w)) z) n))
    (same_spec lo i k l d o.2))
    (λ (f : i ≤ k). ⊎_elim
    (λ (h : i < k).
    let e = (seen_r k l s i r d d d h).same in
    ⊎_elim (λ (g : Entry (same_of k r d) k r). inl (subst (λ z. Entry z k (node l s i r)) (sym e) (inr (inr g))))
    (λ (g : (same_of k r d ≡ d) × ((x : ℕ) → Entry x k r → ⊥)). inr (e ∙ g.0, λ x n. ⊎_elim (λ z. omega (arith, z.1)) (λ z. ⊎_elim (λ w. omega (arith, entry_ord lo i x k l o.2 w)) (λ w. g.1 x w) z) n))
    (same_spec (suc i) hi k r d o.3))
    (λ (h : k ≤ i). let w : i ≡ k = omega arith in inl (inl ((seen_here k l s i r d d d w).same, sym w)))
    (lt_or i k))
    (lt_or k i)

pub record Greatest (k : ℕ) (t : Tree) (s : ℕ) : Type 0 where
  pub j : ℕ
  pub entry : Entry s j t
  pub to : j < k
  pub most : (x i : ℕ) → Entry x i t → i < k → i ≤ j

pub before_spec : (lo hi k : ℕ) (t : Tree) (d : ℕ) → Ord lo t hi → ((x : ℕ) → Entry x k t → ⊥) → ((before_of k t d ≡ d) × ((x i : ℕ) → Entry x i t → k < i)) ⊎ (Greatest k t (before_of k t d))
before_spec lo hi k leaf d o m = inl ((seen_leaf k d d d).before, λ x i e. absurd e)
before_spec lo hi k (node l s i r) d o m = ⊎_elim
    (λ (h : k < i).
    let e = (seen_l k l s i r d d d h).before in
    ⊎_elim
    (λ (g : (before_of k l d ≡ d) × ((x y : ℕ) → Entry x y l → k < y)). inl (e ∙ g.0, λ x y n. ⊎_elim (λ z. omega (arith, z.1)) (λ z. ⊎_elim (λ w. g.1 x y w) (λ w. omega (arith, entry_ord (suc i) hi x y r o.3 w)) z) n))
    (λ (g : Greatest k l (before_of k l d)). inr (record {
      j = g.j;
      entry = subst (λ z. Entry z g.j (node l s i r)) (sym e) (inr (inl g.entry));
      to = g.to;
      most = λ x y n b. ⊎_elim (λ z. absurd (omega (arith, z.1))) (λ z. ⊎_elim (λ w. g.most x y w b) (λ w. absurd (omega (arith, entry_ord (suc i) hi x y r o.3 w))) z) n;
    }))
    (before_spec lo i k l d o.2 (λ x n. m x (inr (inl n)))))
    (λ (f : i ≤ k). ⊎_elim
    (λ (h : i < k).
    let e = (seen_r k l s i r d d d h).before in
    ⊎_elim
    (λ (g : (before_of k r s ≡ s) × ((x y : ℕ) → Entry x y r → k < y)). inr (record {
      j = i;
      entry = inl (e ∙ g.0, refl);
      to = h;
      most = λ x y n b. ⊎_elim (λ z. omega (arith, z.1)) (λ z. ⊎_elim (λ w. omega (arith, entry_ord lo i x y l o.2 w)) (λ w. absurd (omega (arith, g.1 x y w))) z) n;
    }))
    (λ (g : Greatest k r (before_of k r s)).
    let q = entry_ord (suc i) hi (before_of k r s) g.j r o.3 g.entry in
    inr (record {
      j = g.j;
      entry = subst (λ z. Entry z g.j (node l s i r)) (sym e) (inr (inr g.entry));
      to = g.to;
      most = λ x y n b. ⊎_elim (λ z. omega (arith, z.1, q)) (λ z. ⊎_elim (λ w. omega (arith, q, entry_ord lo i x y l o.2 w)) (λ w. g.most x y w b) z) n;
    }))
    (before_spec (suc i) hi k r s o.3 (λ x n. m x (inr (inr n)))))
    (λ (h : k ≤ i). absurd (m s (inl (refl, omega arith))))
    (lt_or i k))
    (lt_or k i)
