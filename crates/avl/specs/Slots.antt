-- A tree's slots through insertion and removal; laws of members.
use Rattle.std.specs.Prelude.{◌≡◌, refl, ◌≢◌, ◌⊎◌, List, [], ◌∷◌, ◌++◌, ℕ, ◌≤◌, ◌<◌}
use Rattle.std.proofs.Common.{sym, ◌∙◌, ap, subst, ⊎_elim, inl, inr, append_assoc, arith}
use Rattle.avl.specs.Tree.{Tree, ht, rot_r, rot_l, tilt_l, tilt_r, bal, ins, min_slot, cut_min, join, del, On, slot_of, slots}
use Rattle.avl.specs.Tree.Tree.{leaf, node}
use Rattle.avl.specs.TreeLaws.{lt_or, pick_cases, bal_cases, ins_l, ins_r, ins_leaf, found_l, found_r, found_here, on_l, on_r, on_leaf, join_nil_r, join_nil_l, join_both}
use Rattle.avl.specs.Members.{Place, In, Same, Out, Once}

rot_r_slots : (t : Tree) → slots (rot_r t) ≡ slots t
rot_r_slots leaf = refl
rot_r_slots (node leaf y j c) = refl
rot_r_slots (node (node a x k b) y j c) = sym (append_assoc (slots a) (x ∷ slots b) (y ∷ slots c))

rot_l_slots : (t : Tree) → slots (rot_l t) ≡ slots t
rot_l_slots leaf = refl
rot_l_slots (node a x k leaf) = refl
rot_l_slots (node a x k (node b y j c)) = append_assoc (slots a) (x ∷ slots b) (y ∷ slots c)

tilt_l_slots : (t : Tree) → slots (tilt_l t) ≡ slots t
tilt_l_slots leaf = refl
tilt_l_slots (node a x k b) = pick_cases (λ u. slots u ≡ slots (node a x k b)) (ht a) (ht b) _ _ (λ _. rot_l_slots (node a x k b)) (λ _. refl)

tilt_r_slots : (t : Tree) → slots (tilt_r t) ≡ slots t
tilt_r_slots leaf = refl
tilt_r_slots (node b y j c) = pick_cases (λ u. slots u ≡ slots (node b y j c)) (ht c) (ht b) _ _ (λ _. rot_r_slots (node b y j c)) (λ _. refl)

pub bal_slots : (l : Tree) (s k : ℕ) (r : Tree) → slots (bal l s k r) ≡ slots l ++ s ∷ slots r
bal_slots l s k r =
    bal_cases (λ u. slots u ≡ slots l ++ s ∷ slots r) l s k r
    (λ _. rot_r_slots (node (tilt_l l) s k r) ∙ ap (λ z. z ++ s ∷ slots r) (tilt_l_slots l))
    (λ _. rot_l_slots (node l s k (tilt_r r)) ∙ ap (λ z. slots l ++ s ∷ z) (tilt_r_slots r))
    (λ _ _. refl)

pub cut_min_slots : (t : Tree) → 0 < ht t → slots t ≡ min_slot t ∷ slots (cut_min t)
cut_min_slots leaf h = absurd (omega arith)
cut_min_slots (node leaf s k r) h = refl
cut_min_slots (node (node a x i b) s k r) h =
    ap (λ z. z ++ s ∷ slots r) (cut_min_slots (node a x i b) (omega arith)) ∙ ap (λ z. min_slot (node a x i b) ∷ z) (sym (bal_slots (cut_min (node a x i b)) s k r))

append_nil : (xs : List ℕ) → xs ++ [] ≡ xs
append_nil [] = refl
append_nil (x ∷ xs) = ap (λ z. x ∷ z) (append_nil xs)

pub join_slots : (l r : Tree) → slots (join l r) ≡ slots l ++ slots r
join_slots leaf r = ap slots (join_nil_l r)
join_slots (node a x i b) leaf = ap slots (join_nil_r (node a x i b)) ∙ sym (append_nil (slots (node a x i b)))
join_slots (node a x i b) (node c y j d) =
    ap slots (join_both (node a x i b) (node c y j d) (omega arith) (omega arith))
    ∙ (bal_slots (node a x i b) (min_slot (node c y j d)) _ (cut_min (node c y j d))
    ∙ ap (λ z. slots (node a x i b) ++ z) (sym (cut_min_slots (node c y j d) (omega arith))))

place_l : {xs ys : List ℕ} {s : ℕ} (t : ℕ) (zs : List ℕ) → Place xs ys s → Place (xs ++ t ∷ zs) (ys ++ t ∷ zs) s
place_l {s = s} t zs p = record {
  us = p.us;
  bs = p.bs ++ t ∷ zs;
  whole_is = ap (λ z. z ++ t ∷ zs) p.whole_is ∙ append_assoc p.us (s ∷ p.bs) (t ∷ zs);
  less_is = ap (λ z. z ++ t ∷ zs) p.less_is ∙ append_assoc p.us p.bs (t ∷ zs);
}

place_r : {xs ys : List ℕ} {s : ℕ} (t : ℕ) (zs : List ℕ) → Place xs ys s → Place (zs ++ t ∷ xs) (zs ++ t ∷ ys) s
place_r {s = s} t zs p = record {
  us = zs ++ t ∷ p.us;
  bs = p.bs;
  whole_is = ap (λ z. zs ++ t ∷ z) p.whole_is ∙ sym (append_assoc zs (t ∷ p.us) (s ∷ p.bs));
  less_is = ap (λ z. zs ++ t ∷ z) p.less_is ∙ sym (append_assoc zs (t ∷ p.us) p.bs);
}

place_eq : {xs ys xs' ys' : List ℕ} {s : ℕ} → xs' ≡ xs → ys' ≡ ys → Place xs ys s → Place xs' ys' s
place_eq a b p = record { us = p.us; bs = p.bs; whole_is = a ∙ p.whole_is; less_is = b ∙ p.less_is }

pub ins_place : (s k : ℕ) (t : Tree) → Place (slots (ins s k t)) (slots t) s
ins_place s k leaf = record { us = []; bs = []; whole_is = ap slots (ins_leaf s k); less_is = refl }
ins_place s k (node l t j r) = ⊎_elim
    (λ (h : k < j). place_eq (ap slots (ins_l s k l t j r h) ∙ bal_slots (ins s k l) t j r) refl (place_l t (slots r) (ins_place s k l)))
    (λ (h : j ≤ k). place_eq (ap slots (ins_r s k l t j r h) ∙ bal_slots l t j (ins s k r)) refl (place_r t (slots l) (ins_place s k r)))
    (lt_or k j)

at_slot : {xs ys : List ℕ} {s t : ℕ} → t ≡ s → Place xs ys s → Place xs ys t
at_slot {xs} {ys} e p = subst (λ z. Place xs ys z) (sym e) p

pub del_place : (k : ℕ) (t : Tree) → On k t → Place (slots t) (slots (del k t)) (slot_of k t)
del_place k leaf o = absurd (on_leaf k o)
del_place k (node l s j r) o = ⊎_elim
    (λ (h : k < j). let f = found_l k l s j r h in at_slot f.slot (place_eq refl (ap slots f.tree ∙ bal_slots (del k l) s j r) (place_l s (slots r) (del_place k l (on_l k l s j r h o)))))
    (λ (g : j ≤ k). ⊎_elim
    (λ (h : j < k). let f = found_r k l s j r h in at_slot f.slot (place_eq refl (ap slots f.tree ∙ bal_slots l s j (del k r)) (place_r s (slots l) (del_place k r (on_r k l s j r h o)))))
    (λ (h : k ≤ j). let e : j ≡ k = omega arith in let f = found_here k l s j r e in at_slot f.slot (record { us = slots l; bs = slots r; whole_is = refl; less_is = ap slots f.tree ∙ join_slots l r }))
    (lt_or j k))
    (lt_or k j)

pub in_mid : (s : ℕ) (us bs : List ℕ) → In s (us ++ s ∷ bs)
in_mid s [] bs = inl refl
in_mid s (a ∷ us) bs = inr (in_mid s us bs)

pub in_more : (x s : ℕ) (us bs : List ℕ) → In x (us ++ bs) → In x (us ++ s ∷ bs)
in_more x s [] bs h = inr h
in_more x s (a ∷ us) bs h = ⊎_elim (λ e. inl e) (λ g. inr (in_more x s us bs g)) h

pub in_less : (x s : ℕ) (us bs : List ℕ) → x ≢ s → In x (us ++ s ∷ bs) → In x (us ++ bs)
in_less x s [] bs n h = ⊎_elim (λ e. absurd (n e)) (λ g. g) h
in_less x s (a ∷ us) bs n h = ⊎_elim (λ e. inl e) (λ g. inr (in_less x s us bs n g)) h

pub out_in : (x : ℕ) (xs : List ℕ) → Out x xs → In x xs → ⊥
out_in x [] o h = h
out_in x (y ∷ xs) o h = ⊎_elim (λ e. o.0 e) (λ g. out_in x xs o.1 g) h

pub in_out : (x : ℕ) (xs : List ℕ) → (In x xs → ⊥) → Out x xs
in_out x [] f = tt
in_out x (y ∷ xs) f = ((λ e. f (inl e)), in_out x xs (λ h. f (inr h)))

out_less : (x s : ℕ) (us bs : List ℕ) → Out x (us ++ s ∷ bs) → Out x (us ++ bs)
out_less x s [] bs o = o.1
out_less x s (a ∷ us) bs o = (o.0, out_less x s us bs o.1)

out_mid : (x s : ℕ) (us bs : List ℕ) → Out x (us ++ s ∷ bs) → x ≢ s
out_mid x s [] bs o = o.0
out_mid x s (a ∷ us) bs o = out_mid x s us bs o.1

pub once_less : (s : ℕ) (us bs : List ℕ) → Once (us ++ s ∷ bs) → Once (us ++ bs) × Out s (us ++ bs)
once_less s [] bs o = (o.1, o.0)
once_less s (a ∷ us) bs o =
    let h = once_less s us bs o.1 in
    ((out_less a s us bs o.0, h.0), ((λ e. out_mid a s us bs o.0 (sym e)), h.1))

pub split : (s : ℕ) (xs : List ℕ) → In s xs → (us : List ℕ) × (bs : List ℕ) × (xs ≡ us ++ s ∷ bs)
split s [] h = absurd h
split s (x ∷ xs) h = ⊎_elim (λ e. ([], xs, ap (λ z. z ∷ xs) (sym e))) (λ g. let r = split s xs g in (x ∷ r.0, r.1, ap (λ z. x ∷ z) r.2)) h

pub same_less : (s : ℕ) (us bs cs ds : List ℕ) → Once (us ++ s ∷ bs) → Once (cs ++ s ∷ ds) → Same (us ++ s ∷ bs) (cs ++ s ∷ ds) → Same (us ++ bs) (cs ++ ds)
same_less s us bs cs ds o q e = record {
  to = λ x h. in_less x s cs ds (λ z. out_in s (us ++ bs) (once_less s us bs o).1 (subst (λ y. In y (us ++ bs)) z h)) (e.to x (in_more x s us bs h));
  back = λ x h. in_less x s us bs (λ z. out_in s (cs ++ ds) (once_less s cs ds q).1 (subst (λ y. In y (cs ++ ds)) z h)) (e.back x (in_more x s cs ds h));
}

pub in_case : (x s : ℕ) (us bs : List ℕ) → In x (us ++ s ∷ bs) → (x ≡ s) ⊎ In x (us ++ bs)
in_case x s [] bs i = i
in_case x s (u ∷ us) bs i = ⊎_elim (λ e. inr (inl e)) (λ g. ⊎_elim (λ e. inl e) (λ h. inr (inr h)) (in_case x s us bs g)) i
