-- The rule's answer: every layout before it in choice order is dearer, none after it is cheaper. There is always one, and it is cheapest (proofs/First).
use Rattle.std.specs.Prelude.{◌≡◌, Bool, cond}
use Rattle.std.proofs.Math.Path.{refl}
use Rattle.std.proofs.Common.{subst}
use Rattle.std.proofs.Math.Bool.{true, false, not}
use Rattle.std.proofs.Math.Option.{some, none-ne-some, some-injective}
use mathlib.Core.List.{List, [], ◌∷◌, foldl}
use mathlib.Core.List.Memᴰ.{head as here}
use mathlib.Core.List.Memᴰ.{not-nil as not_in_nil}
use mathlib.Core.List.Memᴰ.{tail as there}
use mathlib.Core.List.{Memᴰ as In}
use Rattle.cost.specs.Cost.{cheap, cheaper}
use Rattle.cost.specs.Logic.{no_both, not_true, not_false, false_if}
use Rattle.cost.specs.Order.{Cheap, cheap_refl, cheap_trans, cheap_is, is_cheap}
use Rattle.cost.proofs.Order.{not_cheap}
use Rattle.layout.specs.Rules.{Rules}
use Rattle.layout.specs.Layout.{Plan}
use Rattle.layout.specs.Choice.{price, first}

abbrev pub first_from : Rules → Plan → List Plan → Plan
first_from R p l = foldl (λ best q. cond (cheaper (price R q) (price R best)) q best) p l

-- all before p are dearer, none after it is cheaper
pub data First (R : Rules) (p : Plan) : List Plan → Type 0 where
  now : {l : List Plan} → ((q : Plan) → In q l → cheaper (price R q) (price R p) ≡ false) → First R p (p ∷ l)
  later : {q : Plan} {l : List Plan} → cheaper (price R p) (price R q) ≡ true → First R p l → First R p (q ∷ l)

module _ (R : Rules) where
  dearer : (p q r : Plan) → cheap (price R r) (price R p) ≡ false → Cheap (price R r) (price R q) → cheaper (price R p) (price R q) ≡ true
  unfolding cheaper
  dearer p q r e h = not_false _ (false_if (cheap (price R q) (price R p)) (λ t. no_both (cheap (price R r) (price R p)) (is_cheap _ _ (cheap_trans h (cheap_is (price R q) (price R p) t))) e))

  from_first : (p : Plan) (l : List Plan) → First R (first_from R p l) (p ∷ l) × Cheap (price R (first_from R p l)) (price R p)
  unfolding cheaper
  from_first p [] = (now (λ q m. absurd (not_in_nil m)), cheap_refl (price R p))
  from_first p (q ∷ l) = go (cheap (price R p) (price R q)) refl (from_first p l) (from_first q l)
    where
      put_in : (w : Plan) → Cheap (price R p) (price R q) → First R w (p ∷ l) → First R w (p ∷ q ∷ l)
      put_in w h (now f) = now g
        where
          g : (r : Plan) → In r (q ∷ l) → cheaper (price R r) (price R p) ≡ false
          g r (here e) = rw (e, is_cheap (price R p) (price R q) h)
          g r (there m) = f r m
      put_in w h (later t f) = later t (later (dearer w q p (not_true _ t) h) f)

      go : (t : Bool) → cheap (price R p) (price R q) ≡ t → First R (first_from R p l) (p ∷ l) × Cheap (price R (first_from R p l)) (price R p) → First R (first_from R q l) (q ∷ l) × Cheap (price R (first_from R q l)) (price R q)
          → First R (first_from R (cond (not t) q p) l) (p ∷ q ∷ l) × Cheap (price R (first_from R (cond (not t) q p) l)) (price R p)
      go true e f g = (put_in (first_from R p l) (cheap_is (price R p) (price R q) e) f.0, f.1)
      go false e f g = (
        later (not_false _ (false_if (cheap (price R p) (price R (first_from R q l))) (λ t.
            no_both (cheap (price R p) (price R q)) (is_cheap _ _ (cheap_trans (cheap_is (price R p) (price R (first_from R q l)) t) g.1)) e))) g.0,
        cheap_trans g.1 (not_cheap (price R p) (price R q) e),
      )

  pub first_means : (l : List Plan) (p : Plan) → first R l ≡ some p → First R p l
  first_means [] p e = absurd (none-ne-some p e)
  first_means (q ∷ l) p e = subst (λ (r : Plan). First R r (q ∷ l)) (some-injective (first_from R q l) p e) (from_first q l).0
