-- The least cost, then the earliest presented: it is never pruned.
use Rattle.std.specs.Prelude.{◌≡◌, Bool, not}
use Rattle.std.proofs.Math.Path.{refl, ap}
use Rattle.std.proofs.Common.{sym, ◌∙◌, arith}
use Rattle.std.proofs.Math.Bool.{true, false, cond}
use Rattle.std.proofs.Math.Option.{Option, none, some}
use mathlib.Core.List.{List, [], ◌∷◌}
use mathlib.Core.List.Memᴰ.{head as here}
use mathlib.Core.List.Memᴰ.{not-nil as not_in_nil}
use mathlib.Core.List.Memᴰ.{tail as there}
use mathlib.Core.List.{Memᴰ as In}
use Rattle.cost.specs.Cost.{Cost, cheap, cheaper}
use Rattle.cost.specs.Logic.{no_both, and_left, and_right, and_both, not_true, not_false, false_if}
use Rattle.cost.specs.Order.{Cheap, cheap_refl, cheap_trans, cheap_is, is_cheap}
use Rattle.cost.proofs.Order.{not_cheap}
use Rattle.layout.specs.Frontier.{present, load, build, Cand, covers, least_from, least}
use Rattle.layout.specs.Sieve.{lt}
use Rattle.layout.specs.Covers.{covers_is, is_covers}
use Rattle.layout.specs.Listed.{each_one}
use Rattle.layout.specs.Through.{build_through}

pub cheaper_by : (a b c : Cost) → Cheap a b → cheaper b c ≡ true → cheaper a c ≡ true
unfolding cheaper
cheaper_by a b c h t = not_false (cheap c a) (false_if (cheap c a) (λ e. no_both (cheap c b) (is_cheap c b (cheap_trans (cheap_is c a e) h)) (not_true (cheap c b) t)))

module _ {P : Type 0} where
  -- the first of the cheapest is never pruned
  abbrev no_dearer : Cand P → Cand P → Bool
  no_dearer x y = cheap x.cost y.cost

  no_dearer_refl : (x : Cand P) → no_dearer x x ≡ true
  no_dearer_refl x = is_cheap x.cost x.cost (cheap_refl x.cost)

  no_dearer_trans : (x y z : Cand P) → no_dearer x y ≡ true → no_dearer y z ≡ true → no_dearer x z ≡ true
  no_dearer_trans x y z p q = is_cheap x.cost z.cost (cheap_trans (cheap_is x.cost y.cost p) (cheap_is y.cost z.cost q))

  pub covers_cheap : (x y : Cand P) → covers x y ≡ true → cheap x.cost y.cost ≡ true
  covers_cheap x y t = is_cheap x.cost y.cost (covers_is x y t).cost_le

  -- strictly before is strictly cheaper
  pub lt_cheaper : (x y : Cand P) → lt covers x y ≡ true → cheap y.cost x.cost ≡ false
  lt_cheaper x y t = false_if (cheap y.cost x.cost) (λ h.
      let b = covers_is x y (and_left (covers x y) (not (covers y x)) t) in
      let c = cheap_is y.cost x.cost h in
      let o : x.cost.overflow ≡ y.cost.overflow = omega (arith, b.cost_le.overflow_le, c.overflow_le) in
      let e : x.column ≡ y.column = b.tie o (omega (arith, b.cost_le.burden_le o, c.burden_le (sym o))) in
      no_both (covers y x) (is_covers y x (record { column_le = omega arith; cost_le = c; tie = λ p q. sym e })) (not_true (covers y x) (and_right (covers x y) (not (covers y x)) t)))

  abbrev head : List (Cand P) → Option (Cand P)
  head [] = none
  head (x ∷ l) = some x

  load_least : (b : Cand P) (l : List (Cand P)) → load no_dearer (b ∷ []) l ≡ least_from b l ∷ []
  unfolding load present cheaper
  load_least b [] = refl
  load_least b (x ∷ l) = ap (λ (r : List (Cand P)). load no_dearer r l) (one (cheap b.cost x.cost) refl) ∙ go (cheap b.cost x.cost) (load_least b l) (load_least x l)
    where
      one : (t : Bool) → cheap b.cost x.cost ≡ t → present no_dearer (b ∷ []) x ≡ cond (not t) x b ∷ []
      one true q = rw q
      one false q = rw (q, is_cheap x.cost b.cost (not_cheap b.cost x.cost q))

      go : (t : Bool) → load no_dearer (b ∷ []) l ≡ least_from b l ∷ [] → load no_dearer (x ∷ []) l ≡ least_from x l ∷ [] → load no_dearer (cond (not t) x b ∷ []) l ≡ least_from (cond (not t) x b) l ∷ []
      go true f g = f
      go false f g = g

  head_least : (xs : List (Cand P)) → head (build no_dearer xs) ≡ least xs
  unfolding build load present
  head_least [] = refl
  head_least (x ∷ l) = ap head (load_least x l)

  pub least_build : (xs : List (Cand P)) → least (build covers xs) ≡ least xs
  least_build xs = sym (head_least (build covers xs)) ∙ ap head same ∙ head_least xs
    where
      found : (k x : Cand P) → no_dearer k x ≡ true → (z : Cand P) → In z (x ∷ []) → (w : Cand P) × In w (k ∷ []) × (no_dearer w z ≡ true)
      found k x t z (here p) = (k, here refl, rw p t)
      found k x t z (there m) = absurd (not_in_nil m)

      below : (k x : Cand P) → lt no_dearer k x ≡ true → (z : Cand P) → In z (x ∷ []) → (w : Cand P) × In w (k ∷ []) × (lt no_dearer w z ≡ true)
      below k x t z (here p) = (k, here refl, rw p t)
      below k x t z (there m) = absurd (not_in_nil m)

      strictly : (k x : Cand P) → lt covers k x ≡ true → lt no_dearer k x ≡ true
      strictly k x t = and_both (no_dearer k x) (not (no_dearer x k)) (covers_cheap k x (and_left (covers k x) (not (covers x k)) t)) (not_false (no_dearer x k) (lt_cheaper k x t))

      same : build no_dearer (build covers xs) ≡ build no_dearer xs
      same = ap (build no_dearer) (sym (each_one (build covers xs)))
          ∙ build_through covers no_dearer no_dearer_refl no_dearer_trans (λ x. x ∷ []) (λ k x t. found k x (covers_cheap k x t)) (λ k x t. below k x (strictly k x t)) xs
          ∙ ap (build no_dearer) (each_one xs)
