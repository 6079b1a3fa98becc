-- Members of lists that `map` and `each` make.
use Rattle.std.specs.Prelude.{◌≡◌, refl, ◌⊎◌, List, [], ◌∷◌, ◌++◌, map}
use Rattle.std.proofs.Common.{sym, ap, subst, inl, inr, append_assoc}
use mathlib.Core.List.Memᴰ.{append_cases as in_append}
use mathlib.Core.List.Memᴰ.{append_left as in_left}
use mathlib.Core.List.Memᴰ.{append_right as in_right}
use mathlib.Core.List.Memᴰ.{cases_cons as in_cons}
use mathlib.Core.List.Memᴰ.{head as here}
use mathlib.Core.List.Memᴰ.{not-nil as not_in_nil}
use mathlib.Core.List.Memᴰ.{tail as there}
use mathlib.Core.List.{Memᴰ as In}
use Rattle.layout.specs.Choice.{each}

module _ {A B : Type 0} where
  pub in_map : (f : A → B) {a : A} {l : List A} → In a l → In (f a) (map f l)
  in_map f (here p) = here (ap f p)
  in_map f (there m) = there (in_map f m)

  pub map_in : (f : A → B) (l : List A) {b : B} → In b (map f l) → (a : A) × In a l × (b ≡ f a)
  map_in f [] m = absurd (not_in_nil m)
  map_in f (x ∷ l) {b} m = go (in_cons m) (λ n. map_in f l n)
    where
      go : (b ≡ f x) ⊎ In b (map f l) → (In b (map f l) → (a : A) × In a l × (b ≡ f a)) → (a : A) × In a (x ∷ l) × (b ≡ f a)
      go (inl p) ih = (x, here refl, p)
      go (inr n) ih = let r = ih n in (r.0, there r.1, r.2)

  pub in_each : (f : A → List B) {a : A} {l : List A} {b : B} → In a l → In b (f a) → In b (each f l)
  in_each f {b = b} (here {x} {xs} p) m = in_left (each f xs) (subst (λ z. In b (f z)) p m)
  in_each f (there {x} {xs} n) m = in_right (f x) (in_each f n m)

  pub each_in : (f : A → List B) (l : List A) {b : B} → In b (each f l) → (a : A) × In a l × In b (f a)
  each_in f [] m = absurd (not_in_nil m)
  each_in f (x ∷ l) {b} m = go (in_append (f x) m) (λ n. each_in f l n)
    where
      go : In b (f x) ⊎ In b (each f l) → (In b (each f l) → (a : A) × In a l × In b (f a)) → (a : A) × In a (x ∷ l) × In b (f a)
      go (inl n) ih = (x, here refl, n)
      go (inr n) ih = let r = ih n in (r.0, there r.1, r.2)

  pub each_append : (f : A → List B) (l m : List A) → each f (l ++ m) ≡ each f l ++ each f m
  each_append f [] m = refl
  each_append f (x ∷ l) m = rw (each_append f l m) (sym (append_assoc (f x) (each f l) (each f m)))

pub each_one : {A : Type 0} (l : List A) → each (λ x. x ∷ []) l ≡ l
each_one [] = refl
each_one {A} (x ∷ l) = ap (λ (r : List A). x ∷ r) (each_one l)
