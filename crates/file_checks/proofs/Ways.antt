-- Ways from node to node.
use mathlib.Core.Path.{◌≡◌, refl, sym, subst}
use mathlib.Core.Logic.{◌⊎◌, inl, inr, ⊎_elim, by_cases}
use mathlib.Core.List.{List, []}
use Prim.Native.Nat.{ℕ, ◌<◌}
use native.Mathlib.Omega.{arith}
use native.Mathlib.Decide.{dec_lt}
use lib.ListN.{length, get_or, get_or-eq_default}
use Rattle.file_tables.specs.Tables.{kind}
use Rattle.file_checks.specs.References.{preferred}
use Rattle.file_checks.specs.Circle.{Refers, child, Leads, one, more, Circle}
use Rattle.file_checks.specs.Search.{Down, once, again}
use Rattle.file_checks.specs.Descent.{Ends, ends}

module _ (t : List (List ℕ)) (e : List ℕ) where
  -- the first reference of a way
  record First (i k : ℕ) : Type 0 where
    to : ℕ
    refers : Refers t e i to
    rest : (to ≡ k) ⊎ Leads t e to k

  first : {i k : ℕ} → Leads t e i k → First i k
  first (one r) = record { to = _; refers = r; rest = inl refl }
  first (more {k = k} l r) =
      let z = first l in
      record { to = z.to; refers = z.refers; rest = inr (⊎_elim (λ ej. one (subst (λ (y : ℕ). Refers t e y k) (sym ej) r)) (λ l'. more l' r) z.rest) }

  -- a node that ends does not lead back to itself
  pub no_way_back : {i : ℕ} → Ends t e i → Leads t e i i → ⊥
  no_way_back {i} (ends f) l =
      let z = first l in
      no_way_back (f z.to z.refers)
      (⊎_elim (λ (ej : z.to ≡ i). one (subst (λ (y : ℕ). Refers t e y z.to) (sym ej) z.refers)) (λ l'. more l' z.refers) z.rest)

  front : {i j k : ℕ} → Refers t e i j → Leads t e j k → Leads t e i k
  front r (one q) = more (one r) q
  front r (more l q) = more (front r l) q

  down_leads : {y x : ℕ} → Down t y x → Leads t e y x
  down_leads (once h) = one (child (preferred h))
  down_leads (again h d) = front (child (preferred h)) (down_leads d)

  -- a Choice stands in the table
  choice_inside : (y : ℕ) → kind (get_or t y []) ≡ 9 → y < length t
  choice_inside y h =
      by_cases (dec_lt y (length t)) (λ l. l)
      (λ nl. absurd (let z : get_or t y [] ≡ [] = get_or-eq_default t [] (omega arith) in let k : kind (get_or t y []) ≡ 0 = rw z in omega arith))

  starts : {y x : ℕ} → Down t y x → y < length t
  starts {y} (once h) = choice_inside y h
  starts {y} (again h d) = choice_inside y h

  -- with no circle none goes round by preferred nodes either
  pub no_way_down : (Circle t e → ⊥) → (y : ℕ) → Down t y y → ⊥
  no_way_down nc y d = nc (record { node = y; inside = starts d; back = down_leads d })
