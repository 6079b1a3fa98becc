-- The rule's test of two candidates by their columns, and tests over lists of slots.
use mathlib.Core.Path.{◌≡◌, refl, sym, ◌∙◌, ap, subst}
use mathlib.Core.Logic.{◌⊎◌, inl, inr, ⊎_elim}
use mathlib.Core.Bool.{Bool, true, false, not, ◌||◌, or-false}
use mathlib.Core.List.{List, [], ◌∷◌, ◌++◌, map}
use Prim.Native.Nat.{ℕ, suc, ◌≤◌, ◌<◌}
use native.Mathlib.Omega.{arith}
use lib.ListN.{length}
use borrow.Author.Tests.{eq-eqb, ne_eqb, lt-ltb, le-ltb}
use Rattle.cost.specs.Cost.{Cost, cheap, cheaper}
use Rattle.cost.specs.Order.{Cheap, cheap_is, is_cheap}
use Rattle.cost.proofs.Order.{not_cheap}
use Rattle.cost.specs.Logic.{no_both, or_cases, or_left, or_right, not_true, not_false, false_if}
use Rattle.layout.specs.Frontier.{Cand, covers, any, keep, cons_if}
use Rattle.avl.specs.TreeLaws.{lt_or}
use Rattle.avl.specs.Members.{In}
use Rattle.frontier.specs.Candidates.{Pending}

module _ (y x : Cand Pending) where
  pub covers_same : y.column ≡ x.column → covers y x ≡ cheap y.cost x.cost
  unfolding covers
  covers_same e = let h : x.column ≤ y.column = omega arith in rw (eq-eqb y.column x.column e, le-ltb y.column x.column h) (or-false (cheap y.cost x.cost))

  pub covers_below : y.column < x.column → covers y x ≡ cheaper y.cost x.cost
  unfolding covers
  covers_below h = rw (ne_eqb y.column x.column (λ e. omega arith), lt-ltb y.column x.column h)

  pub covers_above : x.column < y.column → covers y x ≡ false
  unfolding covers
  covers_above h = let g : x.column ≤ y.column = omega arith in rw (ne_eqb y.column x.column (λ e. omega arith), le-ltb y.column x.column g)

pub cheaper_not : (a b : Cost) → cheaper a b ≡ not (cheap b a)
unfolding cheaper
cheaper_not a b = refl

-- ---- which stay beside x and which do not, none of them covering x
module _ (x y : Cand Pending) where
  pub stays_low : y.column < x.column → not (covers x y) ≡ true
  stays_low h = not_false (covers x y) (covers_above x y h)

  pub stays_cheap : x.column ≤ y.column → covers y x ≡ false → cheap y.cost x.cost ≡ true → not (covers x y) ≡ true
  stays_cheap h n t = not_false (covers x y) (⊎_elim
      (λ (a : x.column < y.column). covers_below x y a ∙ (cheaper_not x.cost y.cost ∙ ap not t))
      (λ (a : y.column ≤ x.column). let e : y.column ≡ x.column = omega arith in no_both (covers y x) (covers_same y x e ∙ t) n)
      (lt_or x.column y.column))

  pub goes_dear : x.column ≤ y.column → cheap y.cost x.cost ≡ false → covers x y ≡ true
  goes_dear h t = ⊎_elim
      (λ (a : x.column < y.column). covers_below x y a ∙ (cheaper_not x.cost y.cost ∙ ap not t))
      (λ (a : y.column ≤ x.column). let e : x.column ≡ y.column = omega arith in covers_same x y e ∙ is_cheap x.cost y.cost (not_cheap y.cost x.cost t))
      (lt_or x.column y.column)

  -- one that stays and does not cover x: at a higher column it costs no more, at a lower one no less
  pub stay_le : x.column ≤ y.column → not (covers x y) ≡ true → Cheap y.cost x.cost
  stay_le h n = go (cheap y.cost x.cost) refl
    where
      go : (t : Bool) → cheap y.cost x.cost ≡ t → Cheap y.cost x.cost
      go true e = cheap_is y.cost x.cost e
      go false e = no_both (covers x y) (goes_dear h e) (not_true (covers x y) n)

  pub stay_ge : y.column ≤ x.column → covers y x ≡ false → Cheap x.cost y.cost
  stay_ge h n = ⊎_elim
      (λ (a : y.column < x.column). low a (cheap x.cost y.cost) refl)
      (λ (a : x.column ≤ y.column). let e : y.column ≡ x.column = omega arith in not_cheap y.cost x.cost (sym (covers_same y x e) ∙ n))
      (lt_or y.column x.column)
    where
      low : y.column < x.column → (t : Bool) → cheap x.cost y.cost ≡ t → Cheap x.cost y.cost
      low a true e = cheap_is x.cost y.cost e
      low a false e = no_both (covers y x) (covers_below y x a ∙ (cheaper_not y.cost x.cost ∙ ap not e)) n

-- ---- tests over lists of slots
pub record Some (f : ℕ → Bool) (xs : List ℕ) : Type 0 where
  pub x : ℕ
  pub at : In x xs
  pub is : f x ≡ true

pub any_some : (f : ℕ → Bool) (xs : List ℕ) → any f xs ≡ true → Some f xs
any_some f [] e = no_both false e refl
any_some f (x ∷ xs) e = go (any_some f xs) (or_cases (f x) (any f xs) e)
  where
    go : (any f xs ≡ true → Some f xs) → (f x ≡ true) ⊎ (any f xs ≡ true) → Some f (x ∷ xs)
    go ih (inl h) = record { x = x; at = inl refl; is = h }
    go ih (inr h) = let r = ih h in record { x = r.x; at = inr r.at; is = r.is }

pub some_any : (f : ℕ → Bool) (x : ℕ) (xs : List ℕ) → In x xs → f x ≡ true → any f xs ≡ true
some_any f x [] i e = absurd i
some_any f x (y ∷ xs) i e = ⊎_elim (λ (z : x ≡ y). or_left (f y) (any f xs) (subst (λ w. f w ≡ true) z e)) (λ g. or_right (f y) (any f xs) (some_any f x xs g e)) i

pub any_none : (f : ℕ → Bool) (xs : List ℕ) → any f xs ≡ false → (x : ℕ) → In x xs → f x ≡ false
any_none f xs e x i = false_if (f x) (λ h. no_both (any f xs) (some_any f x xs i h) e)

pub none_any : (f : ℕ → Bool) (xs : List ℕ) → ((x : ℕ) → In x xs → f x ≡ true → ⊥) → any f xs ≡ false
none_any f xs g = false_if (any f xs) (λ h. let r = any_some f xs h in g r.x r.at r.is)

pub keep_in : (f : ℕ → Bool) (xs : List ℕ) (x : ℕ) → In x (keep f xs) → In x xs × (f x ≡ true)
keep_in f [] x i = absurd i
keep_in f (y ∷ xs) x i = go (f y) refl (keep_in f xs x) i
  where
    go : (t : Bool) → f y ≡ t → (In x (keep f xs) → In x xs × (f x ≡ true)) → In x (cons_if t y (keep f xs)) → In x (y ∷ xs) × (f x ≡ true)
    go true e ih h = ⊎_elim (λ (z : x ≡ y). (inl z, ap f z ∙ e)) (λ g. let q = ih g in (inr q.0, q.1)) h
    go false e ih h = let q = ih h in (inr q.0, q.1)

pub keep_all : (f : ℕ → Bool) (xs : List ℕ) → ((x : ℕ) → In x xs → f x ≡ true) → keep f xs ≡ xs
keep_all f [] g = refl
keep_all f (x ∷ xs) g = rw (g x (inl refl)) (ap (λ z. x ∷ z) (keep_all f xs (λ y i. g y (inr i))))

pub keep_drop : (f : ℕ → Bool) (s : ℕ) (us bs : List ℕ) → f s ≡ false → keep f (us ++ s ∷ bs) ≡ keep f (us ++ bs)
keep_drop f s [] bs e = rw e
keep_drop f s (u ∷ us) bs e = ap (λ z. cons_if (f u) u z) (keep_drop f s us bs e)

pub keep_le : (f : ℕ → Bool) (xs : List ℕ) → length (keep f xs) ≤ length xs
keep_le f [] = omega arith
keep_le f (x ∷ xs) = go (f x) (keep_le f xs)
  where
    go : (t : Bool) → length (keep f xs) ≤ length xs → length (cons_if t x (keep f xs)) ≤ suc (length xs)
    go true h = omega arith
    go false h = omega arith

pub keep_less : (f : ℕ → Bool) (s : ℕ) (xs : List ℕ) → In s xs → f s ≡ false → length (keep f xs) < length xs
keep_less f s [] i e = absurd i
keep_less f s (x ∷ xs) i e = ⊎_elim
    (λ (z : s ≡ x). first (f x) (sym (ap f z) ∙ e))
    (λ g. later (f x) (keep_less f s xs g e)) i
  where
    first : (t : Bool) → t ≡ false → length (cons_if t x (keep f xs)) < suc (length xs)
    first true q = no_both true refl q
    first false q = omega (arith, keep_le f xs)

    later : (t : Bool) → length (keep f xs) < length xs → length (cons_if t x (keep f xs)) < suc (length xs)
    later true h = omega arith
    later false h = omega arith

-- ---- tests of slots and of their candidates
module _ {B : Type 0} where
  pub any_map : (f : B → Bool) (g : ℕ → B) (xs : List ℕ) → any f (map g xs) ≡ any (λ x. f (g x)) xs
  any_map f g [] = refl
  any_map f g (x ∷ xs) = ap (λ z. f (g x) || z) (any_map f g xs)

  pub keep_map : (f : B → Bool) (g : ℕ → B) (xs : List ℕ) → keep f (map g xs) ≡ map g (keep (λ x. f (g x)) xs)
  keep_map f g [] = refl
  keep_map f g (x ∷ xs) = go (f (g x)) (keep_map f g xs)
    where
      go : (t : Bool) → keep f (map g xs) ≡ map g (keep (λ x. f (g x)) xs) → cons_if t (g x) (keep f (map g xs)) ≡ map g (cons_if t x (keep (λ x. f (g x)) xs))
      go true e = ap (λ z. g x ∷ z) e
      go false e = e

  pub map_append : (g : ℕ → B) (xs ys : List ℕ) → map g (xs ++ ys) ≡ map g xs ++ map g ys
  map_append g [] ys = refl
  map_append g (x ∷ xs) ys = ap (λ z. g x ∷ z) (map_append g xs ys)

  pub map_same : (f g : ℕ → B) (xs : List ℕ) → ((x : ℕ) → In x xs → f x ≡ g x) → map f xs ≡ map g xs
  map_same f g [] h = refl
  map_same f g (x ∷ xs) h = rw (h x (inl refl), map_same f g xs (λ y i. h y (inr i)))
