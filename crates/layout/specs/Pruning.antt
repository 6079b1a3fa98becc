-- Document 01, "Candidate and frontier", to the letter: what is looked up, when a presented candidate is pruned, and what it removes.
use Rattle.std.specs.Prelude.{Bool, false, not, ◌&&◌, ◌||◌, cond, List, [], ◌∷◌, ◌++◌, ℕ, ltb, eqb}
use Rattle.std.proofs.Math.Option.{Option, none, some}
use Rattle.cost.specs.Cost.{cheap, cheaper}
use Rattle.layout.specs.Frontier.{Cand, keep}

module _ {P : Type 0} where
  -- the one kept at column c
  abbrev pub at_column : ℕ → List (Cand P) → Option (Cand P)
  at_column c [] = none
  at_column c (k ∷ l) = cond (eqb k.column c) (some k) (at_column c l)

  abbrev pub higher : Cand P → Option (Cand P) → Option (Cand P)
  higher k none = some k
  higher k (some m) = some (cond (ltb k.column m.column) m k)

  -- the one kept at the nearest column lower than c
  abbrev pub below : ℕ → List (Cand P) → Option (Cand P)
  below c [] = none
  below c (k ∷ l) = cond (ltb k.column c) (higher k (below c l)) (below c l)

  abbrev pub holds : (Cand P → Bool) → Option (Cand P) → Bool
  holds f none = false
  holds f (some k) = f k

  -- "pruned if the one kept at the same column costs no more, or the nearest lower column costs strictly less"
  abbrev pub pruned : List (Cand P) → Cand P → Bool
  pruned l x = holds (λ k. cheap k.cost x.cost) (at_column x.column l) || holds (λ k. cheaper k.cost x.cost) (below x.column l)

  -- "otherwise it removes the same column and the higher columns that cost strictly more"
  abbrev pub removes : Cand P → Cand P → Bool
  removes x k = eqb k.column x.column || (ltb x.column k.column && cheaper x.cost k.cost)

  -- "survivors are in order of presentation"
  unfoldable pub presents : List (Cand P) → Cand P → List (Cand P)
  presents l x = cond (pruned l x) l (keep (λ k. not (removes x k)) l ++ (x ∷ []))
