-- Document 01, "Candidate and frontier": candidates, what one presented does to those kept, the frontier of a document, and its answer.
use Rattle.std.specs.Prelude.{Bool, true, false, not, ◌&&◌, ◌||◌, cond, List, [], ◌∷◌, ◌++◌, map, ℕ, ◌+◌, ltb, eqb}
use Rattle.std.proofs.Math.Option.{Option, none, some}
use Rattle.cost.specs.Cost.{Cost, add, cheap, cheaper}
use Rattle.cost.specs.Charge.{penalty_cost}
use Rattle.layout.specs.Document.{Doc, empty, text, newline, cat, nest, align, choice, annotate, penalty}
use Rattle.layout.specs.Rules.{Rules}
use Rattle.layout.specs.Layout.{Plan, blank, put, line, join, mark, fee, last}
use Rattle.layout.specs.Choice.{each}
use Rattle.layout.specs.Running.{cost_from}

-- lists and tests
module _ {A : Type 0} where
  abbrev pub cons_if : Bool → A → List A → List A
  cons_if true x l = x ∷ l
  cons_if false x l = l

  abbrev pub any : (A → Bool) → List A → Bool
  any f [] = false
  any f (x ∷ l) = f x || any f l

  abbrev pub keep : (A → Bool) → List A → List A
  keep f [] = []
  keep f (x ∷ l) = cons_if (f x) x (keep f l)

-- survivors, in order of presentation; le x y: x makes y superfluous
module _ {A : Type 0} (le : A → A → Bool) where
  -- one presented: pruned if one that is kept makes it superfluous, else it removes those that it makes superfluous
  unfoldable pub present : List A → A → List A
  present l x = cond (any (λ k. le k x) l) l (keep (λ k. not (le x k)) l ++ (x ∷ []))

  -- many presented to those kept
  unfoldable pub load : List A → List A → List A
  load l [] = l
  load l (x ∷ xs) = load (present l x) xs

  unfoldable pub build : List A → List A
  build xs = load [] xs

-- a candidate; P: what stands for its layout
pub record Cand (P : Type 0) : Type 0 where
  pub cost : Cost
  pub column : ℕ
  pub plan : P

module _ {P : Type 0} where
  -- k, kept, prunes x: at the same column it costs no more, or at a lower one strictly less
  unfoldable pub covers : Cand P → Cand P → Bool
  covers k x = (eqb k.column x.column && cheap k.cost x.cost) || (ltb k.column x.column && cheaper k.cost x.cost)

  -- the least cost, then the earliest presented
  abbrev pub least_from : Cand P → List (Cand P) → Cand P
  least_from b [] = b
  least_from b (x ∷ l) = least_from (cond (cheaper x.cost b.cost) x b) l

  abbrev pub least : List (Cand P) → Option (Cand P)
  least [] = none
  least (x ∷ l) = some (least_from x l)

-- a layout as a candidate, and what Seq, Annotate and Penalty make of candidates
abbrev pub cand : Rules → ℕ → Plan → Cand Plan
cand R c p = record { cost = cost_from R p c; column = last p c; plan = p }

abbrev pub after : Cand Plan → Cand Plan → Cand Plan
after l r = record { cost = add l.cost r.cost; column = r.column; plan = join l.plan r.plan }

abbrev pub marked : ℕ → Cand Plan → Cand Plan
marked k x = record { cost = x.cost; column = x.column; plan = mark k x.plan }

abbrev pub charged : ℕ → Cand Plan → Cand Plan
charged n x = record { cost = add x.cost (penalty_cost n); column = x.column; plan = fee n x.plan }

-- the frontier of a document at a column and an indent
unfoldable pub front : Rules → Doc → ℕ → ℕ → List (Cand Plan)
front R empty c i = cand R c blank ∷ []
front R (text t) c i = cand R c (put t) ∷ []
front R newline c i = cand R c (line i) ∷ []
front R (cat a b) c i = build covers (each (λ l. map (after l) (front R b l.column i)) (front R a c i))
front R (nest n d) c i = front R d c (R.lower (i + n))
front R (align d) c i = front R d c (R.lower c)
front R (choice a b) c i = build covers (front R a c i ++ front R b c i)
front R (annotate k d) c i = build covers (map (marked k) (front R d c i))
front R (penalty n d) c i = build covers (map (charged n) (front R d c i))
