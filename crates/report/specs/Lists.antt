-- Laws of insertion and removal in lists.
use Rattle.std.specs.Prelude.{◌≡◌, refl, List, [], ◌∷◌, ◌++◌, map, ℕ, zero, suc, ◌+◌, ◌≤◌, length, take, drop}
use Rattle.std.proofs.Common.{sym, ap, ap₂, ◌∙◌, append-nil, arith, length-append, length-drop, take-append-drop, drop_of_length-le, length-take-le, take_all, drop-drop, take_at, drop_at}
use Rattle.std.proofs.lemmas.List.{map-append}
use Rattle.std.proofs.Math.Seq.{take-nil}
use Rattle.report.specs.Report.{insert_at, remove_at}

module _ {A : Type 0} where
  pub drop_take : (n m : ℕ) (l : List A) → drop n (take (n + m) l) ≡ take m (drop n l)
  drop_take zero m l = let e : zero + m ≡ m = omega arith in rw e
  drop_take (suc n) m [] = let e : suc n + m ≡ suc (n + m) = omega arith in rw e (sym (take-nil m))
  drop_take (suc n) m (x ∷ l) = let e : suc n + m ≡ suc (n + m) = omega arith in rw e (drop_take n m l)

  pub remove_cons : (i n : ℕ) (x : A) (l : List A) → remove_at (suc i) n (x ∷ l) ≡ x ∷ remove_at i n l
  remove_cons i n x l = let e : suc i + n ≡ suc (i + n) = omega arith in ap (λ (k : ℕ). (x ∷ take i l) ++ drop k (x ∷ l)) e

  -- there is none at that place
  pub remove_none : (i : ℕ) (l : List A) → length l ≤ i → remove_at i 1 l ≡ l
  remove_none i l h = ap₂ (λ (x y : List A). x ++ y) (take_all i l h) (drop_of_length-le l {i = i + 1} (omega (arith, h))) ∙ append-nil l

  pub length_insert : (i : ℕ) (new l : List A) → i ≤ length l → length (insert_at i new l) ≡ length new + length l
  length_insert i new l h = omega (arith, length-append (take i l) (new ++ drop i l), length-append new (drop i l), length-take-le i l h, length-drop i l)

  pub length_remove : (i n : ℕ) (l : List A) → i + n ≤ length l → length (remove_at i n l) + n ≡ length l
  length_remove i n l h = omega (arith, length-append (take i l) (drop (i + n) l), length-take-le i l (omega arith), length-drop (i + n) l)

  -- removing what was just inserted
  pub removed_again : (i : ℕ) (new l : List A) → i ≤ length l → remove_at i (length new) (insert_at i new l) ≡ l
  removed_again i new l h =
      let n = length-take-le i l h in
      let front : take i (insert_at i new l) ≡ take i l = take_at (take i l) (new ++ drop i l) i n in
      let back : drop (i + length new) (insert_at i new l) ≡ drop i l
      = sym (drop-drop (length new) i (insert_at i new l)) ∙ ap (λ (r : List A). drop (length new) r) (drop_at (take i l) (new ++ drop i l) i n) ∙ drop_at new (drop i l) (length new) refl in
      ap₂ (λ (x y : List A). x ++ y) front back ∙ take-append-drop i l

module _ {A B : Type 0} (f : A → B) where
  pub map_take : (i : ℕ) (l : List A) → map f (take i l) ≡ take i (map f l)
  map_take zero l = refl
  map_take (suc i) [] = refl
  map_take (suc i) (x ∷ l) = ap (λ (r : List B). f x ∷ r) (map_take i l)

  pub map_drop : (i : ℕ) (l : List A) → map f (drop i l) ≡ drop i (map f l)
  map_drop zero l = refl
  map_drop (suc i) [] = refl
  map_drop (suc i) (x ∷ l) = map_drop i l

  pub map_insert : (i : ℕ) (new l : List A) → map f (insert_at i new l) ≡ insert_at i (map f new) (map f l)
  map_insert i new l =
      map-append f (take i l) (new ++ drop i l)
      ∙ ap₂ (λ (x y : List B). x ++ y) (map_take i l) (map-append f new (drop i l) ∙ ap (λ (r : List B). map f new ++ r) (map_drop i l))

  pub map_remove : (i n : ℕ) (l : List A) → map f (remove_at i n l) ≡ remove_at i n (map f l)
  map_remove i n l = map-append f (take i l) (drop (i + n) l) ∙ ap₂ (λ (x y : List B). x ++ y) (map_take i l) (map_drop (i + n) l)
