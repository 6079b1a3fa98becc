-- The rule's answer: there is always one, every layout before it in choice order is dearer, none after it is cheaper, and it is cheapest.
use Rattle.std.specs.Prelude.{◌≡◌, Bool}
use Rattle.std.proofs.Math.Path.{refl, sym}
use Rattle.std.proofs.Math.Bool.{true, false, not}
use Rattle.std.proofs.Math.Option.{some}
use mathlib.Core.List.{List, [], ◌∷◌}
use mathlib.Core.List.Memᴰ.{head as here}
use mathlib.Core.List.Memᴰ.{not-nil as not_in_nil}
use mathlib.Core.List.Memᴰ.{tail as there}
use mathlib.Core.List.{Memᴰ as In}
use Rattle.cost.specs.Cost.{cheap, cheaper}
use Rattle.cost.specs.Logic.{not_true}
use Rattle.cost.specs.Order.{Cheap, cheap_refl, cheap_is}
use Rattle.cost.proofs.Order.{not_cheap}
use Rattle.layout.specs.Document.{Doc}
use Rattle.layout.specs.Rules.{Rules}
use Rattle.layout.specs.Layout.{Plan}
use Rattle.layout.specs.Choice.{layouts, price, first, chosen}
use Rattle.layout.specs.Cheapest.{Cheapest}
use Rattle.layout.specs.Members.{layouts_allowed, allowed_layouts, some_allowed}
use Rattle.layout.specs.First.{first_from, First, now, later, first_means}

module _ (R : Rules) where
  -- it is in the list, and costs no more than any of it
  pub first_in : (l : List Plan) (p : Plan) → first R l ≡ some p → In p l
  first_in l p e = go (first_means R l p e)
    where
      go : {m : List Plan} → First R p m → In p m
      go (now h) = here refl
      go (later t f) = there (go f)

  pub first_cheap : (l : List Plan) (p : Plan) → first R l ≡ some p → (q : Plan) → In q l → Cheap (price R p) (price R q)
  unfolding cheaper
  first_cheap l p e q i = go (first_means R l p e) i
    where
      not_cheaper : (r : Plan) → not (cheap (price R p) (price R r)) ≡ false → Cheap (price R p) (price R r)
      not_cheaper r h = cheap_is (price R p) (price R r) (sides (cheap (price R p) (price R r)) h)
        where
          sides : (t : Bool) → not t ≡ false → t ≡ true
          sides true h = refl
          sides false h = sym h

      go : {m : List Plan} → First R p m → In q m → Cheap (price R p) (price R q)
      go (now h) (here e) = rw e (cheap_refl (price R p))
      go (now h) (there i) = not_cheaper q (h q i)
      go (later {q = r} t f) (here e) = rw e (not_cheap (price R r) (price R p) (not_true _ t))
      go (later t f) (there i) = go f i

  first_some : (l : List Plan) {p : Plan} → In p l → (q : Plan) × (first R l ≡ some q)
  first_some [] i = absurd (not_in_nil i)
  first_some (p ∷ l) i = (first_from R p l, refl)

  pub chosen_some : (d : Doc) → (p : Plan) × (chosen R d ≡ some p)
  chosen_some d = first_some (layouts R d 0 0) (allowed_layouts R (some_allowed R d 0 0))

  pub chosen_first : (d : Doc) (p : Plan) → chosen R d ≡ some p → First R p (layouts R d 0 0)
  chosen_first d p e = first_means R (layouts R d 0 0) p e

  pub chosen_cheapest : (d : Doc) (p : Plan) → chosen R d ≡ some p → Cheapest R d p
  chosen_cheapest d p e = record {
    allowed = layouts_allowed R d 0 0 (first_in (layouts R d 0 0) p e);
    least_overflow = λ q a. (first_cheap (layouts R d 0 0) p e q (allowed_layouts R a)).overflow_le;
    least_burden = λ q a. (first_cheap (layouts R d 0 0) p e q (allowed_layouts R a)).burden_le;
  }
