-- Document 01's pruning and removal rule to the letter is `present`, of frontiers as they come about.
use Rattle.std.specs.Prelude.{◌≡◌, ◌⊎◌, ◌&&◌, ◌||◌, ℕ, ◌≤◌, ◌<◌, eqb}
use Rattle.std.proofs.Math.Path.{refl, ap}
use Rattle.std.proofs.Common.{sym, ◌∙◌, inl, inr, ⊎_elim, ltb-true, ltb-false, eqb-true, lt-ltb, eq-eqb}
use Rattle.std.proofs.Math.Bool.{Bool, true, false, not, cond}
use Rattle.std.proofs.Math.Option.{Option, none, some}
use mathlib.Core.List.{List, [], ◌∷◌, ◌++◌}
use mathlib.Core.List.Memᴰ.{cases_cons as in_cons}
use mathlib.Core.List.Memᴰ.{head as here}
use mathlib.Core.List.Memᴰ.{not-nil as not_in_nil}
use mathlib.Core.List.Memᴰ.{tail as there}
use mathlib.Core.List.{Memᴰ as In}
use native.Mathlib.Omega.{arith}
use Rattle.std.proofs.Math.Dec.{ltb}
use Rattle.std.proofs.lemmas.Bool.{eqb-false}
use Rattle.cost.specs.Cost.{cheap, cheaper}
use Rattle.cost.specs.Logic.{no_both, same_test, or_left, or_right, or_cases, and_left, and_right, and_both, not_true, not_false, false_if}
use Rattle.cost.specs.Order.{Cheap, cheap_trans, cheap_is, is_cheap}
use Rattle.cost.proofs.Order.{not_cheap}
use Rattle.layout.specs.Frontier.{any, keep, present, load, build, Cand, covers}
use Rattle.layout.specs.Pruning.{at_column, higher, below, holds, pruned, removes, presents}
use Rattle.layout.specs.Sieve.{lt, Level, any_in, in_any, any_none, keep_cong, level_nil, present_level}
use Rattle.layout.specs.Covers.{covers_is, is_covers}
use Rattle.layout.proofs.Covers.{covers_refl, covers_trans}
use Rattle.layout.proofs.Least.{cheaper_by}

module _ {P : Type 0} where
  -- what the two look-ups find
  abbrev At : ℕ → List (Cand P) → Option (Cand P) → Type 0
  At c l none = (m : Cand P) → In m l → m.column ≡ c → ⊥
  At c l (some k) = In k l × (k.column ≡ c)

  abbrev Below : ℕ → List (Cand P) → Option (Cand P) → Type 0
  Below c l none = (m : Cand P) → In m l → c ≤ m.column
  Below c l (some k) = In k l × (k.column < c) × ((m : Cand P) → In m l → m.column < c → m.column ≤ k.column)

  -- a fact of the head and of the rest is a fact of each
  heads : (Q : Cand P → Type 0) (k : Cand P) (l : List (Cand P)) → Q k → ((m : Cand P) → In m l → Q m) → (m : Cand P) → In m (k ∷ l) → Q m
  heads Q k l p f m i = go (in_cons i)
    where
      go : (m ≡ k) ⊎ In m l → Q m
      go (inl e) = rw e p
      go (inr j) = f m j

  at_column_is : (c : ℕ) (l : List (Cand P)) → At c l (at_column c l)
  at_column_is c [] = λ m i. absurd (not_in_nil i)
  at_column_is c (k ∷ l) = go (eqb k.column c) refl (at_column c l) (at_column_is c l)
    where
      go : (t : Bool) → eqb k.column c ≡ t → (o : Option (Cand P)) → At c l o → At c (k ∷ l) (cond t (some k) o)
      go true e o a = (here refl, eqb-true _ _ e)
      go false e none a = heads (λ m. m.column ≡ c → ⊥) k l (eqb-false _ _ e) a
      go false e (some m) a = (there a.0, a.1)

  below_is : (c : ℕ) (l : List (Cand P)) → Below c l (below c l)
  below_is c [] = λ m i. absurd (not_in_nil i)
  below_is c (k ∷ l) = go (ltb k.column c) refl (below c l) (below_is c l)
    where
      two : ltb k.column c ≡ true → (m : Cand P) → Below c l (some m) → (u : Bool) → ltb k.column m.column ≡ u → Below c (k ∷ l) (some (cond u m k))
      two e m b true f = (there b.0, b.1, heads (λ n. n.column < c → n.column ≤ m.column) k l (λ h. omega (arith, ltb-true k.column m.column f)) b.2)
      two e m b false f = (here refl, ltb-true _ _ e, heads (λ n. n.column < c → n.column ≤ k.column) k l (λ h. omega arith) (λ n i h. omega (arith, b.2 n i h, ltb-false k.column m.column f)))

      go : (t : Bool) → ltb k.column c ≡ t → (o : Option (Cand P)) → Below c l o → Below c (k ∷ l) (cond t (higher k o) o)
      go true e none b = (here refl, ltb-true _ _ e, heads (λ n. n.column < c → n.column ≤ k.column) k l (λ h. omega arith) (λ n i h. omega (arith, b n i)))
      go true e (some m) b = two e m b (ltb k.column m.column) refl
      go false e none b = heads (λ n. c ≤ n.column) k l (ltb-false _ _ e) b
      go false e (some m) b = (there b.0, b.1, heads (λ n. n.column < c → n.column ≤ m.column) k l (λ h. omega (arith, ltb-false k.column c e)) b.2)

  -- of two kept ones the one at the higher column costs no more
  pub falls : (l : List (Cand P)) → Level covers l → (a b : Cand P) → In a l → In b l → a.column ≤ b.column → Cheap b.cost a.cost
  unfolding covers cheaper
  falls l h a b i j k = go (cheap b.cost a.cost) refl
    where
      go : (t : Bool) → cheap b.cost a.cost ≡ t → Cheap b.cost a.cost
      go true e = cheap_is _ _ e
      go false e = no_both (lt covers a b) (and_both (covers a b) (not (covers b a))
          (is_covers a b (record {
            column_le = k;
            cost_le = not_cheap b.cost a.cost e;
            tie = λ p q. no_both (cheap b.cost a.cost) (is_cheap b.cost a.cost (record { overflow_le = omega arith; burden_le = λ r. omega arith })) e;
          }))
          (not_false (covers b a) (false_if (covers b a) (λ t. no_both (cheap b.cost a.cost) (is_cheap b.cost a.cost (covers_is b a t).cost_le) e)))) (h a b i j)

  pub pruned_is : (l : List (Cand P)) (x : Cand P) → Level covers l → any (λ k. covers k x) l ≡ pruned l x
  unfolding covers
  pruned_is l x h = go (at_column x.column l) (at_column_is x.column l) (below x.column l) (below_is x.column l)
    where
      S : Option (Cand P) → Bool
      S o = holds (λ k. cheap k.cost x.cost) o

      B : Option (Cand P) → Bool
      B u = holds (λ k. cheaper k.cost x.cost) u

      same : (o : Option (Cand P)) → At x.column l o → (k : Cand P) → In k l → (eqb k.column x.column && cheap k.cost x.cost) ≡ true → S o ≡ true
      same none a k i t = absurd (a k i (eqb-true _ _ (and_left (eqb k.column x.column) _ t)))
      same (some m) a k i t =
          let q : k.column ≡ x.column = eqb-true _ _ (and_left (eqb k.column x.column) _ t) in
          is_cheap m.cost x.cost (cheap_trans (falls l h k m i a.0 (omega (arith, a.1))) (cheap_is k.cost x.cost (and_right (eqb k.column x.column) _ t)))

      low : (u : Option (Cand P)) → Below x.column l u → (k : Cand P) → In k l → (ltb k.column x.column && cheaper k.cost x.cost) ≡ true → B u ≡ true
      low none b k i t =
          let q : k.column < x.column = ltb-true _ _ (and_left (ltb k.column x.column) _ t) in
          absurd (omega (arith, b k i))
      low (some m) b k i t =
          let q : k.column < x.column = ltb-true _ _ (and_left (ltb k.column x.column) _ t) in
          cheaper_by m.cost k.cost x.cost (falls l h k m i b.0 (b.2 k i q)) (and_right (ltb k.column x.column) _ t)

      same_back : (o : Option (Cand P)) → At x.column l o → S o ≡ true → any (λ k. covers k x) l ≡ true
      same_back none a t = no_both false t refl
      same_back (some m) a t = in_any (λ k. covers k x) a.0 (or_left (eqb m.column x.column && cheap m.cost x.cost) _ (and_both _ _ (eq-eqb _ _ a.1) t))

      low_back : (u : Option (Cand P)) → Below x.column l u → B u ≡ true → any (λ k. covers k x) l ≡ true
      low_back none b t = no_both false t refl
      low_back (some m) b t = in_any (λ k. covers k x) b.0 (or_right (eqb m.column x.column && cheap m.cost x.cost) _ (and_both _ _ (lt-ltb _ _ b.1) t))

      go : (o : Option (Cand P)) → At x.column l o → (u : Option (Cand P)) → Below x.column l u → any (λ k. covers k x) l ≡ (S o || B u)
      go o a u b = same_test (any (λ k. covers k x) l) (S o || B u)
          (λ t. let r = any_in (λ k. covers k x) l t in
          ⊎_elim (λ s. or_left (S o) (B u) (same o a r.0 r.1 s)) (λ s. or_right (S o) (B u) (low u b r.0 r.1 s))
          (or_cases (eqb r.0.column x.column && cheap r.0.cost x.cost) (ltb r.0.column x.column && cheaper r.0.cost x.cost) r.2))
          (λ t. ⊎_elim (same_back o a) (low_back u b) (or_cases (S o) (B u) t))

  pub removes_is : (l : List (Cand P)) (x : Cand P) → any (λ k. covers k x) l ≡ false → (k : Cand P) → In k l → covers x k ≡ removes x k
  unfolding covers cheaper
  removes_is l x e k i = same_test (covers x k) (removes x k) there' back
    where
      R : Bool
      R = ltb x.column k.column && cheaper x.cost k.cost

      n : covers k x ≡ false
      n = any_none (λ k. covers k x) e i

      there' : covers x k ≡ true → removes x k ≡ true
      there' t = ⊎_elim (λ s. or_left (eqb k.column x.column) R (eq-eqb k.column x.column (sym (eqb-true _ _ (and_left (eqb x.column k.column) _ s)))))
          (λ s. or_right (eqb k.column x.column) R s) (or_cases (eqb x.column k.column && cheap x.cost k.cost) R t)

      -- at the same column x costs less, else k would have pruned it
      cost : k.column ≡ x.column → (t : Bool) → cheap k.cost x.cost ≡ t → cheap x.cost k.cost ≡ true
      cost q true f = no_both (covers k x) (or_left (eqb k.column x.column && cheap k.cost x.cost) _ (and_both (eqb k.column x.column) _ (eq-eqb _ _ q) f)) n
      cost q false f = is_cheap x.cost k.cost (not_cheap k.cost x.cost f)

      back : removes x k ≡ true → covers x k ≡ true
      back t = ⊎_elim (λ s. let q : k.column ≡ x.column = eqb-true _ _ s in
          or_left (eqb x.column k.column && cheap x.cost k.cost) R (and_both (eqb x.column k.column) (cheap x.cost k.cost) (eq-eqb x.column k.column (sym q)) (cost q (cheap k.cost x.cost) refl)))
          (λ s. or_right (eqb x.column k.column && cheap x.cost k.cost) R s) (or_cases (eqb k.column x.column) R t)

  -- the rule to the letter
  pub presents_is : (l : List (Cand P)) (x : Cand P) → Level covers l → present covers l x ≡ presents l x
  unfolding presents present
  presents_is l x h = go (any (λ k. covers k x) l) refl ∙ ap (λ (t : Bool). cond t l (keep (λ k. not (removes x k)) l ++ (x ∷ []))) (pruned_is l x h)
    where
      go : (t : Bool) → any (λ k. covers k x) l ≡ t → cond t l (keep (λ k. not (covers x k)) l ++ (x ∷ [])) ≡ cond t l (keep (λ k. not (removes x k)) l ++ (x ∷ []))
      go true e = refl
      go false e = ap (λ (r : List (Cand P)). r ++ (x ∷ [])) (keep_cong _ _ l (λ k i. ap not (removes_is l x e k i)))

  -- where one is kept at the same column, any lower column may be looked at for the nearest: that changes nothing
  pub same_decides : (l : List (Cand P)) → Level covers l → (x k a : Cand P) → In k l → In a l → k.column ≡ x.column → a.column ≤ x.column → cheaper a.cost x.cost ≡ true → cheap k.cost x.cost ≡ true
  unfolding cheaper
  same_decides l h x k a i j e f t = is_cheap k.cost x.cost (cheap_trans (falls l h a k j i (omega arith)) (not_cheap x.cost a.cost (not_true (cheap x.cost a.cost) t)))

  -- candidates presented one after the other by the letter
  abbrev pub presents_all : List (Cand P) → List (Cand P) → List (Cand P)
  presents_all l [] = l
  presents_all l (x ∷ xs) = presents_all (presents l x) xs

  letter : (l xs : List (Cand P)) → Level covers l → load covers l xs ≡ presents_all l xs
  unfolding load
  letter l [] h = refl
  letter l (x ∷ xs) h = letter (present covers l x) xs (present_level covers covers_refl covers_trans l x h) ∙ ap (λ (r : List (Cand P)). presents_all r xs) (presents_is l x h)

  -- so a frontier built from nothing is by the letter
  pub build_letter : (xs : List (Cand P)) → build covers xs ≡ presents_all [] xs
  unfolding build
  build_letter xs = letter [] xs (level_nil covers covers_refl covers_trans)
