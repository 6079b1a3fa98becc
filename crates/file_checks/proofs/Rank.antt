-- Where no node leads back to itself, every reference goes down in rank.
use mathlib.Core.Path.{◌≡◌, refl, sym, ap, subst}
use mathlib.Core.Logic.{by_cases}
use mathlib.Core.List.{List}
use Prim.Native.Nat.{ℕ, zero, suc, ◌+◌, ◌≤◌, ◌<◌, max}
use native.Mathlib.Omega.{arith}
use native.Mathlib.Decide.{ℕ_discrete, dec_lt}
use lib.ListN.{length}
use lib.Dec.{ltb}
use borrow.Author.Tests.{lt-ltb, le-ltb}
use Rattle.file_tables.specs.Tables.{Tables}
use Rattle.file_checks.specs.Circle.{Refers, Circle}
use Rattle.file_checks.specs.Descent.{Closed, Ends, ends, Ranked}
use Rattle.file_checks.specs.Search.{pick, degree, target}
use Rattle.file_checks.specs.Judged.{Accepted}
use Rattle.file_checks.proofs.Enumerated.{nth_of, nth_refers, closed}
use Rattle.file_checks.proofs.Decided.{all_end}

top : (d : ℕ) → d < suc d
top d = omega arith

up : {k d : ℕ} → k < d → k < suc d
up h = omega arith

-- more than each of d numbers
most : (d : ℕ) → ((k : ℕ) → k < d → ℕ) → ℕ
most zero g = 0
most (suc d) g = max (suc (g d (top d))) (most d (λ k h. g k (up h)))

most_over : (d : ℕ) (g : (k : ℕ) → k < d → ℕ) (k : ℕ) → k < d → (m : ℕ) → ((l : k < d) → g k l ≡ m) → m < most d g
unfolding most
most_over zero g k h m e = absurd (omega arith)
most_over (suc d) g k h m e =
    by_cases (ℕ_discrete k d)
    (λ ek. let z : g d (top d) ≡ m = at d (sym ek) (top d) in omega arith)
    (λ ne. let z : m < most d (λ k l. g k (up l)) = rest ne (most_over d (λ k l. g k (up l)) k) in omega arith)
  where
    at : (d' : ℕ) → d' ≡ k → (l : d' < suc d) → g d' l ≡ m
    at d' q = subst (λ (y : ℕ). (l : y < suc d) → g y l ≡ m) (sym q) e

    rest : (k ≡ d → ⊥) → (k < d → (m : ℕ) → ((l : k < d) → g k (up l) ≡ m) → m < most d (λ k l. g k (up l))) → m < most d (λ k l. g k (up l))
    rest ne less = less (omega arith) m (λ l. e (up l))

same_most : (d : ℕ) (f g : (k : ℕ) → k < d → ℕ) → ((k : ℕ) (h l : k < d) → f k h ≡ g k l) → most d f ≡ most d g
unfolding most
same_most zero f g e = refl
same_most (suc d) f g e =
    let a : f d (top d) ≡ g d (top d) = e d (top d) (top d) in
    let b : most d (λ k h. f k (up h)) ≡ most d (λ k h. g k (up h)) = same_most d (λ k h. f k (up h)) (λ k h. g k (up h)) (λ k h l. e k (up h) (up l)) in
    omega arith

module _ (t : List (List ℕ)) (e : List ℕ) where
  -- how far it is at most to an end
  height : {i : ℕ} → Ends t e i → ℕ
  height {i} (ends f) = most (degree t i) (λ k h. height (f (target t e i k) (nth_refers t e i k h)))

  same_height : {i : ℕ} (p q : Ends t e i) → height p ≡ height q
  unfolding height
  same_height {i} (ends f) (ends g) =
      same_most (degree t i) _ _ (λ k h l. same_height (f (target t e i k) (nth_refers t e i k h)) (g (target t e i k) (nth_refers t e i k l)))

  falls : {i j : ℕ} (p : Ends t e i) (q : Ends t e j) → Refers t e i j → height q < height p
  unfolding height
  falls {i} {j} (ends f) q r =
      let n = nth_of t e i r in
      most_over (degree t i) _ n.nth n.below (height q) (λ l. at n.there (f (target t e i n.nth) (nth_refers t e i n.nth l)))
    where
      at : {x : ℕ} → x ≡ j → (p : Ends t e x) → height p ≡ height q
      at {x} ex = subst (λ (y : ℕ). (p : Ends t e y) → height p ≡ height q) (sym ex) (λ p. same_height p q)

-- ---- ranks below the number of nodes: how many nodes stand lower

under : ℕ → ℕ → ℕ
under x m = pick (ltb x m) 1 0

under_yes : (x m : ℕ) → x < m → under x m ≡ 1
unfolding under
under_yes x m h = rw (lt-ltb x m h)

under_no : (x m : ℕ) → m ≤ x → under x m ≡ 0
unfolding under
under_no x m h = rw (le-ltb x m h)

under_most : (x m : ℕ) → under x m ≤ 1
under_most x m = by_cases (dec_lt x m) (λ h. omega (arith, under_yes x m h)) (λ h. omega (arith, under_no x m (omega arith)))

under_le : (x a b : ℕ) → a ≤ b → under x a ≤ under x b
under_le x a b h =
    by_cases (dec_lt x a) (λ l. omega (arith, under_yes x a l, under_yes x b (omega arith))) (λ l. omega (arith, under_no x a (omega arith)))

lower : (ℕ → ℕ) → ℕ → ℕ → ℕ
lower f zero m = 0
lower f (suc n) m = under (f n) m + lower f n m

module _ (f : ℕ → ℕ) where
  lower_most : (n m : ℕ) → lower f n m ≤ n
  unfolding lower
  lower_most zero m = omega arith
  lower_most (suc n) m = omega (arith, under_most (f n) m, lower_most n m)

  lower_le : (n a b : ℕ) → a ≤ b → lower f n a ≤ lower f n b
  unfolding lower
  lower_le zero a b h = omega arith
  lower_le (suc n) a b h = omega (arith, under_le (f n) a b h, lower_le n a b h)

  lower_less : (n i j : ℕ) → j < n → f j < f i → lower f n (f j) < lower f n (f i)
  unfolding lower
  lower_less zero i j h l = absurd (omega arith)
  lower_less (suc n) i j h l =
      by_cases (ℕ_discrete j n)
      (λ ej. let en : f n ≡ f j = ap f (sym ej) in
      omega (arith, under_no (f n) (f j) (omega arith), under_yes (f n) (f i) (omega arith), lower_le n (f j) (f i) (omega arith)))
      (λ ne. omega (arith, under_le (f n) (f j) (f i) (omega arith), lower_less n i j (omega arith) l))

  lower_bound : (n i : ℕ) → i < n → lower f n (f i) < n
  unfolding lower
  lower_bound zero i h = absurd (omega arith)
  lower_bound (suc n) i h =
      by_cases (ℕ_discrete i n)
      (λ ei. let en : f n ≡ f i = ap f (sym ei) in omega (arith, under_no (f n) (f i) (omega arith), lower_most n (f i)))
      (λ ne. omega (arith, under_most (f n) (f i), lower_bound n i (omega arith)))

module _ (t : List (List ℕ)) (e : List ℕ) (z : Closed t e) (nc : Circle t e → ⊥) where
  height_at : (i : ℕ) → Dec (i < length t) → ℕ
  height_at i (yes h) = height t e (all_end t e z nc i h)
  height_at i (no h) = 0

  high : ℕ → ℕ
  high i = height_at i (dec_lt i (length t))

  high_is : (i : ℕ) → i < length t → (p : Ends t e i) → high i ≡ height t e p
  unfolding high height_at
  high_is i h p = go (dec_lt i (length t))
    where
      go : (d : Dec (i < length t)) → height_at i d ≡ height t e p
      go (yes l) = same_height t e (all_end t e z nc i l) p
      go (no l) = absurd (l h)

  high_falls : (i j : ℕ) → i < length t → Refers t e i j → high j < high i
  high_falls i j h r =
      let l = z.within i j h r in
      let p = all_end t e z nc i h in
      let q = all_end t e z nc j l in
      omega (arith, falls t e p q r, high_is i h p, high_is j l q)

  pub ranked : Ranked t e
  ranked =
      record {
        rank = λ i. lower high (length t) (high i);
        descends = λ i j h r. lower_less high (length t) i j (z.within i j h r) (high_falls i j h r);
        bounded = λ i h. lower_bound high (length t) i h;
      }

-- ---- of accepted tables

module _ (t : Tables) (a : Accepted t) where
  pub accepted_closed : Closed t.nodes t.edges
  accepted_closed = closed t a.references

  pub accepted_ranked : Ranked t.nodes t.edges
  accepted_ranked = ranked t.nodes t.edges accepted_closed a.no_circle
