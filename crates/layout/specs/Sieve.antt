-- The frontier over any test `le` that is reflexive and transitive: survivors are exactly the unbeaten ones in order of presentation, and pruning composes.
use Rattle.std.specs.Prelude.{◌≡◌, ◌⊎◌, ◌&&◌, ◌||◌, cond}
use Rattle.std.proofs.Math.Path.{refl, sym, ap, ap₂, fun_ext}
use Rattle.std.proofs.Common.{◌∙◌, ⊎_elim}
use Rattle.std.proofs.Math.Logic.{inl, inr}
use Rattle.std.proofs.Math.Bool.{Bool, true, false, not, or-false, or-true, or_assoc, and-false}
use mathlib.Core.List.{List, [], ◌∷◌, ◌++◌, append-nil, append_assoc}
use mathlib.Core.List.Memᴰ.{append_cases as in_append}
use mathlib.Core.List.Memᴰ.{append_left as in_left}
use mathlib.Core.List.Memᴰ.{append_right as in_right}
use mathlib.Core.List.Memᴰ.{cases_cons as in_cons}
use mathlib.Core.List.Memᴰ.{head as here}
use mathlib.Core.List.Memᴰ.{not-nil as not_in_nil}
use mathlib.Core.List.Memᴰ.{tail as there}
use mathlib.Core.List.{Memᴰ as In}
use Rattle.cost.specs.Logic.{no_both, same_test, or_left, or_right, or_cases, and_left, and_right, and_both, not_true, not_false, false_if}
use Rattle.layout.specs.Frontier.{cons_if, any, keep, present, load, build}

module _ {A : Type 0} where
  pub any_in : (f : A → Bool) (l : List A) → any f l ≡ true → (a : A) × In a l × (f a ≡ true)
  any_in f [] e = no_both false e refl
  any_in f (x ∷ l) e = go (λ h. any_in f l h) (or_cases (f x) (any f l) e)
    where
      go : (any f l ≡ true → (a : A) × In a l × (f a ≡ true)) → (f x ≡ true) ⊎ (any f l ≡ true) → (a : A) × In a (x ∷ l) × (f a ≡ true)
      go ih (inl h) = (x, here refl, h)
      go ih (inr h) = let r = ih h in (r.0, there r.1, r.2)

  pub in_any : (f : A → Bool) {a : A} {l : List A} → In a l → f a ≡ true → any f l ≡ true
  in_any f {a} (here {x} {xs} p) e = or_left (f x) (any f xs) (rw (← p) e)
  in_any f (there {x} {xs} m) e = or_right (f x) (any f xs) (in_any f m e)

  pub any_append : (f : A → Bool) (l m : List A) → any f (l ++ m) ≡ (any f l || any f m)
  any_append f [] m = refl
  any_append f (x ∷ l) m = rw (any_append f l m) (sym (or_assoc (f x) (any f l) (any f m)))

  pub keep_append : (f : A → Bool) (l m : List A) → keep f (l ++ m) ≡ keep f l ++ keep f m
  keep_append f [] m = refl
  keep_append f (x ∷ l) m = go (f x) (keep_append f l m)
    where
      go : (b : Bool) → keep f (l ++ m) ≡ keep f l ++ keep f m → cons_if b x (keep f (l ++ m)) ≡ cons_if b x (keep f l) ++ keep f m
      go true e = ap (λ (r : List A). x ∷ r) e
      go false e = e

  pub keep_cong : (f g : A → Bool) (l : List A) → ((a : A) → In a l → f a ≡ g a) → keep f l ≡ keep g l
  keep_cong f g [] h = refl
  keep_cong f g (x ∷ l) h = rw (h x (here refl), keep_cong f g l (λ a m. h a (there m)))

  pub keep_all : (l : List A) → keep (λ a. true) l ≡ l
  keep_all [] = refl
  keep_all (x ∷ l) = ap (λ (r : List A). x ∷ r) (keep_all l)

  pub keep_keep : (f g : A → Bool) (l : List A) → keep f (keep g l) ≡ keep (λ a. g a && f a) l
  keep_keep f g [] = refl
  keep_keep f g (x ∷ l) = go (g x) (keep_keep f g l)
    where
      go : (b : Bool) → keep f (keep g l) ≡ keep (λ a. g a && f a) l → keep f (cons_if b x (keep g l)) ≡ cons_if (b && f x) x (keep (λ a. g a && f a) l)
      go true e = ap (cons_if (f x) x) e
      go false e = e

  pub keep_in : (f : A → Bool) (l : List A) {a : A} → In a (keep f l) → In a l × (f a ≡ true)
  keep_in f [] m = absurd (not_in_nil m)
  keep_in f (x ∷ l) {a} m = go (f x) refl m (λ n. keep_in f l n)
    where
      low : (In a (keep f l) → In a l × (f a ≡ true)) → In a (keep f l) → In a (x ∷ l) × (f a ≡ true)
      low ih n = let r = ih n in (there r.0, r.1)

      top : (f x ≡ true) → (In a (keep f l) → In a l × (f a ≡ true)) → (a ≡ x) ⊎ In a (keep f l) → In a (x ∷ l) × (f a ≡ true)
      top e ih (inl p) = (here p, rw p e)
      top e ih (inr n) = low ih n

      go : (b : Bool) → f x ≡ b → In a (cons_if b x (keep f l)) → (In a (keep f l) → In a l × (f a ≡ true)) → In a (x ∷ l) × (f a ≡ true)
      go true e n ih = top e ih (in_cons n)
      go false e n ih = low ih n

  pub in_keep : (f : A → Bool) {a : A} (l : List A) → In a l → f a ≡ true → In a (keep f l)
  in_keep f {a} l (here {x} {xs} p) e = go (f x) (rw (← p) e)
    where
      go : (b : Bool) → b ≡ true → In a (cons_if b x (keep f xs))
      go true q = here p
      go false q = no_both false q refl
  in_keep f {a} l (there {x} {xs} m) e = go (f x) (in_keep f xs m e)
    where
      go : (b : Bool) → In a (keep f xs) → In a (cons_if b x (keep f xs))
      go true n = there n
      go false n = n

module _ {A : Type 0} where
  pub any_none : (f : A → Bool) {a : A} {l : List A} → any f l ≡ false → In a l → f a ≡ false
  any_none f {a} {l} e m = false_if (f a) (λ h. no_both (any f l) (in_any f m h) e)

  pub cons_if_append : (b : Bool) (x : A) (l : List A) → cons_if b x [] ++ l ≡ cons_if b x l
  cons_if_append true x l = refl
  cons_if_append false x l = refl

-- the frontier
module _ {A : Type 0} (le : A → A → Bool) where
  -- strictly: x makes y superfluous and not the other way
  abbrev pub lt : A → A → Bool
  lt x y = le x y && not (le y x)

  -- said without a state: x stays if no earlier one makes it superfluous and no later one does so strictly
  abbrev pub stay : (A → Bool) → List A → List A
  stay b [] = []
  stay b (x ∷ xs) = cons_if (not (b x) && not (any (λ y. lt y x) xs)) x (stay (λ y. b y || le x y) xs)

  pub load_append : (l xs ys : List A) → load le l (xs ++ ys) ≡ load le (load le l xs) ys
  unfolding load
  load_append l [] ys = refl
  load_append l (x ∷ xs) ys = load_append (present le l x) xs ys

  pub build_one : (x : A) → build le (x ∷ []) ≡ x ∷ []
  unfolding build load present
  build_one x = refl

  pub stay_cong : (b c : A → Bool) (xs : List A) → ((a : A) → b a ≡ c a) → stay b xs ≡ stay c xs
  stay_cong b c xs h = ap (λ (f : A → Bool). stay f xs) (fun_ext h)

  -- none of l strictly before another
  abbrev pub Level : List A → Type 0
  Level l = (a b : A) → In a l → In b l → lt a b ≡ false

  pub present_in : (l : List A) (x : A) {a : A} → In a (present le l x) → In a l ⊎ (a ≡ x)
  unfolding present
  present_in l x {a} m = go (any (λ k. le k x) l) m
    where
      tip : In a (keep (λ k. not (le x k)) l) ⊎ In a (x ∷ []) → In a l ⊎ (a ≡ x)
      tip (inl n) = inl (keep_in (λ k. not (le x k)) l n).0
      tip (inr (here p)) = inr p
      tip (inr (there n)) = absurd (not_in_nil n)

      go : (b : Bool) → In a (cond b l (keep (λ k. not (le x k)) l ++ (x ∷ []))) → In a l ⊎ (a ≡ x)
      go true n = inl n
      go false n = tip (in_append (keep (λ k. not (le x k)) l) n)

  pub load_in : (l xs : List A) {a : A} → In a (load le l xs) → In a l ⊎ In a xs
  unfolding load
  load_in l [] m = inl m
  load_in l (x ∷ xs) {a} m = go (load_in (present le l x) xs m)
    where
      low : In a l ⊎ (a ≡ x) → In a l ⊎ In a (x ∷ xs)
      low (inl n) = inl n
      low (inr p) = inr (here p)

      go : In a (present le l x) ⊎ In a xs → In a l ⊎ In a (x ∷ xs)
      go (inl n) = low (present_in l x n)
      go (inr n) = inr (there n)

  pub build_in : (xs : List A) {a : A} → In a (build le xs) → In a xs
  unfolding build
  build_in xs {a} m = go (load_in [] xs m)
    where
      go : In a [] ⊎ In a xs → In a xs
      go (inl n) = absurd (not_in_nil n)
      go (inr n) = n

  module _ (le_refl : (a : A) → le a a ≡ true) (le_trans : (a b c : A) → le a b ≡ true → le b c ≡ true → le a c ≡ true) where
    -- a survivor makes y superfluous
    abbrev pub Covered : List A → A → Type 0
    Covered l y = (s : A) × In s l × (le s y ≡ true)

    present_new : (l : List A) (x : A) → Covered (present le l x) x
    unfolding present
    present_new l x = go (any (λ k. le k x) l) refl
      where
        go : (b : Bool) → any (λ k. le k x) l ≡ b → Covered (cond b l (keep (λ k. not (le x k)) l ++ (x ∷ []))) x
        go true e = any_in (λ k. le k x) l e
        go false e = (x, in_right (keep (λ k. not (le x k)) l) (here refl), le_refl x)

    present_old : (l : List A) (x y : A) → Covered l y → Covered (present le l x) y
    unfolding present
    present_old l x y c = go (any (λ k. le k x) l)
      where
        K : List A
        K = keep (λ k. not (le x k)) l

        by : (b : Bool) → le x c.0 ≡ b → Covered (K ++ (x ∷ [])) y
        by true e = (x, in_right K (here refl), le_trans x c.0 y e c.2)
        by false e = (c.0, in_left (x ∷ []) (in_keep (λ k. not (le x k)) l c.1 (not_false (le x c.0) e)), c.2)

        go : (b : Bool) → Covered (cond b l (K ++ (x ∷ []))) y
        go true = c
        go false = by (le x c.0) refl

    load_old : (l xs : List A) (y : A) → Covered l y → Covered (load le l xs) y
    unfolding load
    load_old l [] y c = c
    load_old l (x ∷ xs) y c = load_old (present le l x) xs y (present_old l x y c)

    load_new : (l xs : List A) (y : A) → In y xs → Covered (load le l xs) y
    unfolding load
    load_new l [] y m = absurd (not_in_nil m)
    load_new l (x ∷ xs) y m = go (in_cons m) (λ n. load_new (present le l x) xs y n)
      where
        go : (y ≡ x) ⊎ In y xs → (In y xs → Covered (load le (present le l x) xs) y) → Covered (load le (present le l x) xs) y
        go (inl p) ih = load_old (present le l x) xs y (rw p (present_new l x))
        go (inr n) ih = ih n

    pub build_covers : (xs : List A) (y : A) → In y xs → Covered (build le xs) y
    unfolding build
    build_covers xs y m = load_new [] xs y m

    pub le_lt : (a b c : A) → le a b ≡ true → lt b c ≡ true → lt a c ≡ true
    le_lt a b c p q =
        and_both (le a c) (not (le c a)) (le_trans a b c p (and_left (le b c) (not (le c b)) q))
        (not_false (le c a) (false_if (le c a) (λ h.
        no_both (le c b) (le_trans c a b h p) (not_true (le c b) (and_right (le b c) (not (le c b)) q)))))

    pub level_nil : Level []
    level_nil a b m n = absurd (not_in_nil m)

    pub present_level : (l : List A) (x : A) → Level l → Level (present le l x)
    unfolding present
    present_level l x h = go (any (λ k. le k x) l) refl
      where
        K : List A
        K = keep (λ k. not (le x k)) l

        self : lt x x ≡ false
        self = rw (le_refl x)

        old_new : any (λ k. le k x) l ≡ false → (a : A) → In a l → lt a x ≡ false
        old_new e a m = rw (any_none (λ k. le k x) e m)

        new_old : (b : A) → In b K → lt x b ≡ false
        new_old b m = rw (not_true (le x b) (keep_in (λ k. not (le x k)) l m).1)

        one : any (λ k. le k x) l ≡ false → (a b : A) → In a K ⊎ In a (x ∷ []) → In b K ⊎ In b (x ∷ []) → lt a b ≡ false
        one e a b (inl m) (inl n) = h a b (keep_in (λ k. not (le x k)) l m).0 (keep_in (λ k. not (le x k)) l n).0
        one e a b (inl m) (inr (here p)) = rw p (old_new e a (keep_in (λ k. not (le x k)) l m).0)
        one e a b (inr (here p)) (inl n) = rw p (new_old b n)
        one e a b (inr (here p)) (inr (here q)) = rw (p, q) self
        one e a b (inl m) (inr (there n)) = absurd (not_in_nil n)
        one e a b (inr (there m)) (inl n) = absurd (not_in_nil m)
        one e a b (inr (there m)) (inr (here q)) = absurd (not_in_nil m)
        one e a b (inr (here p)) (inr (there n)) = absurd (not_in_nil n)
        one e a b (inr (there m)) (inr (there n)) = absurd (not_in_nil n)

        go : (b : Bool) → any (λ k. le k x) l ≡ b → Level (cond b l (K ++ (x ∷ [])))
        go true e = h
        go false e = λ a b m n. one e a b (in_append K m) (in_append K n)

    pub load_is : (l xs : List A) → Level l → load le l xs ≡ keep (λ k. not (any (λ y. lt y k) xs)) l ++ stay (λ y. any (λ k. le k y) l) xs
    unfolding load present
    load_is l [] h = sym (append-nil (keep (λ k. true) l) ∙ keep_all l)
    load_is l (x ∷ xs) h = load_is (present le l x) xs (present_level l x h) ∙ go (any (λ k. le k x) l) refl
      where
        P : A → Bool
        P k = not (any (λ y. lt y k) xs)

        q : A → Bool
        q k = not (le x k)

        K : List A
        K = keep q l

        S : List A
        S = stay (λ y. any (λ k. le k y) l || le x y) xs

        -- pruned
        quiet : any (λ k. le k x) l ≡ true → (k : A) → In k l → lt x k ≡ false
        quiet e k m = let r = any_in (λ k. le k x) l e in
            false_if (lt x k) (λ g. no_both (lt r.0 k) (le_lt r.0 x k r.2 g) (h r.0 k r.1 m))

        known : any (λ k. le k x) l ≡ true → (y : A) → any (λ k. le k y) l ≡ (any (λ k. le k y) l || le x y)
        known e y = let r = any_in (λ k. le k x) l e in
            same_test (any (λ k. le k y) l) (any (λ k. le k y) l || le x y) (λ g. or_left (any (λ k. le k y) l) (le x y) g)
            (λ g. ⊎_elim (λ t. t) (λ t. in_any (λ k. le k y) r.1 (le_trans r.0 x y r.2 t)) (or_cases (any (λ k. le k y) l) (le x y) g))

        -- kept
        first : any (λ k. le k x) l ≡ false → (k : A) → In k l → (q k && P k) ≡ not (lt x k || any (λ y. lt y k) xs)
        first e k m = rw (any_none (λ k. le k x) e m) (two (le x k) (any (λ y. lt y k) xs))
          where
            two : (a b : Bool) → (not a && not b) ≡ not ((a && true) || b)
            two true b = refl
            two false b = refl

        later : (y : A) → any (λ k. le k y) (K ++ (x ∷ [])) ≡ (any (λ k. le k y) l || le x y)
        later y = any_append (λ k. le k y) K (x ∷ []) ∙ rw (or-false (le x y)) (same_test (any (λ k. le k y) K || le x y) (any (λ k. le k y) l || le x y) up down)
          where
            up : (any (λ k. le k y) K || le x y) ≡ true → (any (λ k. le k y) l || le x y) ≡ true
            up g = ⊎_elim (λ t. let r = any_in (λ k. le k y) K t in or_left (any (λ k. le k y) l) (le x y) (in_any (λ k. le k y) (keep_in q l r.1).0 r.2))
                (λ t. or_right (any (λ k. le k y) l) (le x y) t) (or_cases (any (λ k. le k y) K) (le x y) g)

            by : (k : A) → In k l → le k y ≡ true → (b : Bool) → le x k ≡ b → (any (λ k. le k y) K || le x y) ≡ true
            by k m t true f = or_right (any (λ k. le k y) K) (le x y) (le_trans x k y f t)
            by k m t false f = or_left (any (λ k. le k y) K) (le x y) (in_any (λ k. le k y) (in_keep q l m (not_false (le x k) f)) t)

            down : (any (λ k. le k y) l || le x y) ≡ true → (any (λ k. le k y) K || le x y) ≡ true
            down g = ⊎_elim (λ t. let r = any_in (λ k. le k y) l t in by r.0 r.1 r.2 (le x r.0) refl)
                (λ t. or_right (any (λ k. le k y) K) (le x y) t) (or_cases (any (λ k. le k y) l) (le x y) g)

        go : (b : Bool) → any (λ k. le k x) l ≡ b
            → keep P (cond b l (K ++ (x ∷ []))) ++ stay (λ y. any (λ k. le k y) (cond b l (K ++ (x ∷ [])))) xs
            ≡ keep (λ k. not (lt x k || any (λ y. lt y k) xs)) l ++ cons_if (not b && P x) x S
        go true e = ap₂ ◌++◌ (keep_cong P (λ k. not (lt x k || any (λ y. lt y k) xs)) l (λ k m. rw (quiet e k m)))
            (stay_cong _ _ xs (known e))
        go false e =
            ap₂ ◌++◌ (keep_append P K (x ∷ []) ∙ ap (λ (r : List A). r ++ cons_if (P x) x []) (keep_keep P q l ∙ keep_cong _ _ l (first e))) (stay_cong _ _ xs later)
            ∙ append_assoc (keep (λ k. not (lt x k || any (λ y. lt y k) xs)) l) (cons_if (P x) x []) S
            ∙ ap (λ (r : List A). keep (λ k. not (lt x k || any (λ y. lt y k) xs)) l ++ r) (cons_if_append (P x) x S)

    -- the frontier is what stays
    pub build_is : (xs : List A) → build le xs ≡ stay (λ y. false) xs
    unfolding build
    build_is xs = load_is [] xs level_nil

    stay_in : (b : A → Bool) (xs : List A) {a : A} → In a (stay b xs) → In a xs
    stay_in b [] m = m
    stay_in b (x ∷ xs) {a} m = go (not (b x) && not (any (λ y. lt y x) xs)) m (λ n. stay_in (λ y. b y || le x y) xs n)
      where
        S : List A
        S = stay (λ y. b y || le x y) xs

        top : (a ≡ x) ⊎ In a S → (In a S → In a xs) → In a (x ∷ xs)
        top (inl p) ih = here p
        top (inr n) ih = there (ih n)

        go : (t : Bool) → In a (cons_if t x S) → (In a S → In a xs) → In a (x ∷ xs)
        go true n ih = top (in_cons n) ih
        go false n ih = there (ih n)

    pub stay_stay : (b c : A → Bool) (xs : List A) → stay b (stay c xs) ≡ stay (λ y. b y || c y) xs
    stay_stay b c [] = refl
    stay_stay b c (x ∷ xs) = go (λ f. stay_stay f (λ y. c y || le x y) xs) (c x) (any (λ y. lt y x) xs) refl
      where
        S : List A
        S = stay (λ y. c y || le x y) xs

        R : List A
        R = stay (λ y. (b y || c y) || le x y) xs

        shuffle : (p q r : Bool) → ((p || r) || (q || r)) ≡ ((p || q) || r)
        shuffle true q r = refl
        shuffle false true true = refl
        shuffle false true false = refl
        shuffle false false true = refl
        shuffle false false false = refl

        IH : Type 0
        IH = (f : A → Bool) → stay f S ≡ stay (λ y. f y || (c y || le x y)) xs

        inner : IH → stay (λ y. b y || le x y) S ≡ R
        inner ih = ih (λ y. b y || le x y) ∙ stay_cong _ _ xs (λ y. shuffle (b y) (c y) (le x y))

        plain : IH → stay b S ≡ R
        plain ih = ih b ∙ stay_cong _ _ xs (λ y. sym (or_assoc (b y) (c y) (le x y)))

        none : any (λ y. lt y x) xs ≡ false → any (λ y. lt y x) S ≡ false
        none e = false_if (any (λ y. lt y x) S) (λ h. let r = any_in (λ y. lt y x) S h in
            no_both (any (λ y. lt y x) xs) (in_any (λ y. lt y x) (stay_in (λ y. c y || le x y) xs r.1) r.2) e)

        go : IH → (p q : Bool) → any (λ y. lt y x) xs ≡ q → stay b (cons_if (not p && not q) x S) ≡ cons_if (not (b x || p) && not q) x R
        go ih true q e = plain ih ∙ rw (or-true (b x))
        go ih false true e = plain ih ∙ rw (and-false (not (b x || false)))
        go ih false false e = rw (none e, or-false (b x), inner ih)

    any_build : (k : A) (ys : List A) → any (λ y. lt y k) (build le ys) ≡ any (λ y. lt y k) ys
    any_build k ys = same_test (any (λ y. lt y k) (build le ys)) (any (λ y. lt y k) ys)
        (λ h. let r = any_in (λ y. lt y k) (build le ys) h in in_any (λ y. lt y k) (build_in ys r.1) r.2)
        (λ h. let r = any_in (λ y. lt y k) ys h in
        let s = build_covers ys r.0 r.1 in
        in_any (λ y. lt y k) s.1 (le_lt s.0 r.0 k s.2 r.2))

    pub build_level : (xs : List A) → Level (build le xs)
    unfolding build load
    build_level xs = go [] xs level_nil
      where
        go : (l xs : List A) → Level l → Level (load le l xs)
        go l [] h = h
        go l (x ∷ xs) h = go (present le l x) xs (present_level l x h)

    pub build_build : (xs : List A) → build le (build le xs) ≡ build le xs
    build_build xs = build_is (build le xs) ∙ ap (stay (λ y. false)) (build_is xs) ∙ stay_stay (λ y. false) (λ y. false) xs ∙ sym (build_is xs)

    load_build : (l ys : List A) → Level l → load le l (build le ys) ≡ load le l ys
    unfolding build
    load_build l ys h = load_is l (build le ys) h ∙ ap₂ ◌++◌ (keep_cong _ _ l (λ k m. ap not (any_build k ys)))
        (ap (stay (λ y. any (λ k. le k y) l)) (build_is ys) ∙ stay_stay (λ y. any (λ k. le k y) l) (λ y. false) ys
        ∙ stay_cong _ _ ys (λ y. or-false (any (λ k. le k y) l)))
        ∙ sym (load_is l ys h)

    pub build_left : (xs ys : List A) → build le (build le xs ++ ys) ≡ build le (xs ++ ys)
    unfolding build
    build_left xs ys = load_append [] (build le xs) ys ∙ ap (λ (r : List A). load le r ys) (build_build xs) ∙ sym (load_append [] xs ys)

    pub build_right : (xs ys : List A) → build le (xs ++ build le ys) ≡ build le (xs ++ ys)
    unfolding build
    build_right xs ys = load_append [] xs (build le ys) ∙ load_build (build le xs) ys (build_level xs) ∙ sym (load_append [] xs ys)
