-- What may be left out of what is presented, and what may be pruned before: the laws by which frontiers are put together.
use Rattle.std.specs.Prelude.{◌≡◌, Bool, ◌&&◌, ◌||◌}
use Rattle.std.proofs.Math.Path.{refl, sym, ap}
use Rattle.std.proofs.Common.{ap₂, subst, ◌∙◌}
use Rattle.std.proofs.Math.Bool.{true, false, not, cond, or-false}
use mathlib.Core.List.{List, [], ◌∷◌, ◌++◌, map, map-append, append-nil, append_assoc}
use mathlib.Core.List.Memᴰ.{append_left as in_left}
use mathlib.Core.List.Memᴰ.{append_right as in_right}
use mathlib.Core.List.Memᴰ.{head as here}
use mathlib.Core.List.Memᴰ.{tail as there}
use mathlib.Core.List.{Memᴰ as In}
use Rattle.cost.specs.Logic.{no_both, and_left, and_right, and_both, not_true, not_false, false_if}
use Rattle.layout.specs.Choice.{each}
use Rattle.layout.specs.Frontier.{cons_if, any, keep, present, load, build}
use Rattle.layout.specs.Sieve.{lt, stay, load_append, stay_cong, build_is, stay_stay, build_covers, build_level, le_lt, build_left, build_right, any_in, in_any, any_none}
use Rattle.layout.specs.Listed.{each_append, in_each}

-- what may be left out of a build
module _ {A : Type 0} (le : A → A → Bool) (le_refl : (a : A) → le a a ≡ true) (le_trans : (a b c : A) → le a b ≡ true → le b c ≡ true → le a c ≡ true) where
  -- what an earlier one makes superfluous
  drop_early : (P B Q : List A) → ((z : A) → In z B → (w : A) × In w P × (le w z ≡ true)) → build le (P ++ (B ++ Q)) ≡ build le (P ++ Q)
  unfolding present build load
  drop_early P [] Q h = refl
  drop_early P (z ∷ B) Q h =
      load_append le [] P (z ∷ (B ++ Q)) ∙ ap (λ (r : List A). load le r (B ++ Q)) known ∙ sym (load_append le [] P (B ++ Q)) ∙ drop_early P B Q (λ y m. h y (there m))
    where
      known : present le (build le P) z ≡ build le P
      known =
          let r = h z (here refl) in
          let s = build_covers le le_refl le_trans P r.0 r.1 in
          ap (λ (t : Bool). cond t (build le P) (keep (λ k. not (le z k)) (build le P) ++ (z ∷ []))) (in_any (λ k. le k z) s.1 (le_trans s.0 r.0 z s.2 r.2))

  lt_le : (a b c : A) → lt le a b ≡ true → le b c ≡ true → lt le a c ≡ true
  lt_le a b c p q =
      and_both (le a c) (not (le c a)) (le_trans a b c (and_left (le a b) (not (le b a)) p) q)
      (not_false (le c a) (false_if (le c a) (λ h. no_both (le b a) (le_trans b c a q h) (not_true (le b a) (and_right (le a b) (not (le b a)) p)))))

  stay_ext : (b c : A → Bool) (xs : List A) → ((a : A) → In a xs → b a ≡ c a) → stay le b xs ≡ stay le c xs
  stay_ext b c [] h = refl
  stay_ext b c (x ∷ xs) h = ap₂ (λ (t : Bool) (r : List A). cons_if (not t && not (any (λ y. lt le y x) xs)) x r) (h x (here refl))
      (stay_ext (λ y. b y || le x y) (λ y. c y || le x y) xs (λ a m. ap (λ (t : Bool). t || le x a) (h a (there m))))

  -- what a later one strictly makes superfluous
  drop_one : (z : A) (Q : List A) → (w : A) × In w Q × (lt le w z ≡ true) → build le (z ∷ Q) ≡ build le Q
  drop_one z Q r =
      build_is le le_refl le_trans (z ∷ Q)
      ∙ ap (λ (t : Bool). cons_if (not t) z (stay le (λ y. le z y) Q)) (in_any (λ y. lt le y z) r.1 r.2)
      ∙ stay_cong le _ _ Q (λ y. sym (or-false (le z y)))
      ∙ sym (stay_stay le le_refl le_trans (λ y. le z y) (λ y. false) Q)
      ∙ stay_ext (λ y. le z y) (λ y. false) (stay le (λ y. false) Q) unmoved
      ∙ stay_stay le le_refl le_trans (λ y. false) (λ y. false) Q
      ∙ sym (build_is le le_refl le_trans Q)
    where
      unmoved : (y : A) → In y (stay le (λ y. false) Q) → le z y ≡ false
      unmoved y m = false_if (le z y) (λ h.
          let s = build_covers le le_refl le_trans Q r.0 r.1 in
          no_both (lt le s.0 y) (le_lt le le_refl le_trans s.0 r.0 y s.2 (lt_le r.0 z y r.2 h))
          (build_level le le_refl le_trans Q s.0 y s.1 (subst (λ (l : List A). In y l) (sym (build_is le le_refl le_trans Q)) m)))

  drop_late : (B Q : List A) → ((z : A) → In z B → (w : A) × In w Q × (lt le w z ≡ true)) → build le (B ++ Q) ≡ build le Q
  drop_late [] Q h = refl
  drop_late (z ∷ B) Q h = drop_one z (B ++ Q) (let r = h z (here refl) in (r.0, in_right B r.1, r.2)) ∙ drop_late B Q (λ y m. h y (there m))

  pub build_both : (xs xs' ys ys' : List A) → build le xs ≡ build le xs' → build le ys ≡ build le ys' → build le (xs ++ ys) ≡ build le (xs' ++ ys')
  build_both xs xs' ys ys' p q =
      sym (build_left le le_refl le_trans xs ys) ∙ ap (λ (r : List A). build le (r ++ ys)) p ∙ build_left le le_refl le_trans xs' ys
      ∙ sym (build_right le le_refl le_trans xs' ys) ∙ ap (λ (r : List A). build le (xs' ++ r)) q ∙ build_right le le_refl le_trans xs' ys'

  pub build_each : {B : Type 0} (f g : B → List A) (l : List B) → ((b : B) → build le (f b) ≡ build le (g b)) → build le (each f l) ≡ build le (each g l)
  build_each f g [] h = refl
  build_each f g (x ∷ l) h = build_both (f x) (g x) (each f l) (each g l) (h x) (build_each f g l h)

-- to prune first changes nothing, where what follows one that is pruned is pruned by what follows its survivor
module _ {A B : Type 0} (la : A → A → Bool) (lb : B → B → Bool) (lb_refl : (a : B) → lb a a ≡ true) (lb_trans : (a b c : B) → lb a b ≡ true → lb b c ≡ true → lb a c ≡ true)
    (G : A → List B)
    (weak : (k x : A) → la k x ≡ true → (z : B) → In z (G x) → (w : B) × In w (G k) × (lb w z ≡ true))
    (strict : (k x : A) → lt la k x ≡ true → (z : B) → In z (G x) → (w : B) × In w (G k) × (lt lb w z ≡ true)) where
  removed : (x : A) (l : List A) (Q : List B) → ((k : A) → In k l → la k x ≡ false)
      → build lb (each G (keep (λ k. not (la x k)) l) ++ (G x ++ Q)) ≡ build lb (each G l ++ (G x ++ Q))
  removed x [] Q h = refl
  removed x (k ∷ l) Q h = go (la x k) refl (removed x l Q (λ j m. h j (there m)))
    where
      K : List A
      K = keep (λ k. not (la x k)) l

      T : List B
      T = G x ++ Q

      go : (t : Bool) → la x k ≡ t → build lb (each G K ++ T) ≡ build lb (each G l ++ T) → build lb (each G (cons_if (not t) k K) ++ T) ≡ build lb ((G k ++ each G l) ++ T)
      go true e ih = ih ∙ sym (ap (build lb) (append_assoc (G k) (each G l) T) ∙ drop_late lb lb_refl lb_trans (G k) (each G l ++ T) (λ z m.
          let r = strict x k (and_both (la x k) (not (la k x)) e (not_false (la k x) (h k (here refl)))) z m in (r.0, in_right (each G l) (in_left Q r.1), r.2)))
      go false e ih =
          ap (build lb) (append_assoc (G k) (each G K) T)
          ∙ build_both lb lb_refl lb_trans (G k) (G k) (each G K ++ T) (each G l ++ T) refl ih
          ∙ sym (ap (build lb) (append_assoc (G k) (each G l) T))

  load_through : (l xs : List A) → build lb (each G (load la l xs)) ≡ build lb (each G (l ++ xs))
  unfolding load present
  load_through l [] = ap (λ (r : List A). build lb (each G r)) (sym (append-nil l))
  load_through l (x ∷ xs) = load_through (present la l x) xs ∙ go (any (λ k. la k x) l) refl
    where
      K : List A
      K = keep (λ k. not (la x k)) l

      go : (t : Bool) → any (λ k. la k x) l ≡ t → build lb (each G (cond t l (K ++ (x ∷ [])) ++ xs)) ≡ build lb (each G (l ++ (x ∷ xs)))
      go true e =
          ap (build lb) (each_append G l xs)
          ∙ sym (drop_early lb lb_refl lb_trans (each G l) (G x) (each G xs) (λ z m.
          let r = any_in (λ k. la k x) l e in
          let s = weak r.0 x r.2 z m in (s.0, in_each G r.1 s.1, s.2)))
          ∙ sym (ap (build lb) (each_append G l (x ∷ xs)))
      go false e =
          ap (λ (r : List A). build lb (each G r)) (append_assoc K (x ∷ []) xs)
          ∙ ap (build lb) (each_append G K (x ∷ xs))
          ∙ removed x l (each G xs) (λ k m. any_none (λ k. la k x) e m)
          ∙ sym (ap (build lb) (each_append G l (x ∷ xs)))

  pub build_through : (xs : List A) → build lb (each G (build la xs)) ≡ build lb (each G xs)
  unfolding build
  build_through xs = load_through [] xs

-- a map that the test does not see
module _ {A B : Type 0} (le : A → A → Bool) (lb : B → B → Bool) (f : A → B) (same : (x y : A) → lb (f x) (f y) ≡ le x y) where
  any_map : (x : A) (l : List A) → any (λ k. lb k (f x)) (map f l) ≡ any (λ k. le k x) l
  any_map x [] = refl
  any_map x (k ∷ l) = rw (same k x, any_map x l)

  keep_map : (x : A) (l : List A) → keep (λ k. not (lb (f x) k)) (map f l) ≡ map f (keep (λ k. not (le x k)) l)
  keep_map x [] = refl
  keep_map x (k ∷ l) = rw (same x k) (go (le x k) (keep_map x l))
    where
      go : (t : Bool) → keep (λ m. not (lb (f x) m)) (map f l) ≡ map f (keep (λ m. not (le x m)) l)
          → cons_if (not t) (f k) (keep (λ m. not (lb (f x) m)) (map f l)) ≡ map f (cons_if (not t) k (keep (λ m. not (le x m)) l))
      go true e = e
      go false e = ap (λ (r : List B). f k ∷ r) e

  pub present_map : (l : List A) (x : A) → present lb (map f l) (f x) ≡ map f (present le l x)
  unfolding present
  present_map l x = rw (any_map x l, keep_map x l) (go (any (λ k. le k x) l))
    where
      go : (t : Bool) → cond t (map f l) (map f (keep (λ k. not (le x k)) l) ++ (f x ∷ [])) ≡ map f (cond t l (keep (λ k. not (le x k)) l ++ (x ∷ [])))
      go true = refl
      go false = sym (map-append f (keep (λ k. not (le x k)) l) (x ∷ []))

  load_map : (l xs : List A) → load lb (map f l) (map f xs) ≡ map f (load le l xs)
  unfolding load
  load_map l [] = refl
  load_map l (x ∷ xs) = ap (λ (r : List B). load lb r (map f xs)) (present_map l x) ∙ load_map (present le l x) xs

  pub build_map : (xs : List A) → build lb (map f xs) ≡ map f (build le xs)
  unfolding build
  build_map xs = load_map [] xs
