-- The candidates of a frontier: in a slot's words, in the struct that presents one, and the survivors as a list.
use Rattle.std.specs.Prelude.{◌≡◌, List, [], ◌∷◌, map, ℕ, zero, suc, ◌+◌, ◌-◌, ◌<◌, length, Option, Some, None}
use Rattle.cost.specs.Cost.{Cost}
use Rattle.cost.specs.Value.{halves, value}
use Rattle.cost.specs.declared.ConsumerCost.{ConsumerCost}
use Rattle.layout.specs.Frontier.{Cand, covers, present}
use Rattle.avl.specs.Mem.{word, put, At}
use Rattle.avl.specs.Holds.{top}
use Rattle.avl.specs.Links.{link_of}
use Rattle.frontier.specs.declared.ScratchCandidate.{ScratchCandidate}
use Rattle.frontier.specs.declared.Builder.{Builder}

-- what stands for a candidate's layout: its precedence, and its pending plan as a kind and two words
pub record Pending : Type 0 where
  pub precedence : ℕ
  pub kind : ℕ
  pub first : ℕ
  pub second : ℕ

-- the candidate that the struct carries
abbrev pub carried : ScratchCandidate → Cand Pending
carried c = record { cost = value c.cost; column = c.last; plan = record { precedence = c.precedence; kind = c.kind; first = c.first; second = c.second } }

-- the candidate in slot s
abbrev pub cost_at : List ℕ → ℕ → Cost
cost_at m s = record { overflow = halves (word m s 0) (word m s 1); burden = word m s 2 }

abbrev pub candidate_at : List ℕ → ℕ → Cand Pending
candidate_at m s = record { cost = cost_at m s; column = word m s 3; plan = record { precedence = word m s 4; kind = word m s 5; first = word m s 6; second = word m s 7 } }

-- the words with the cost in slot s, and with the precedence and the pending plan
abbrev pub written_cost : List ℕ → ℕ → ConsumerCost → List ℕ
written_cost m s c = put (put (put m s 0 c.overflow_high) s 1 c.overflow_low) s 2 c.burden

abbrev pub written_plan : List ℕ → ℕ → ℕ → ℕ → ℕ → ℕ → List ℕ
written_plan m s precedence kind first second = put (put (put (put m s 4 precedence) s 5 kind) s 6 first) s 7 second

-- the links of the order of presentation
abbrev pub prev : List ℕ → ℕ → ℕ
prev m s = word m s 8

abbrev pub next : List ℕ → ℕ → ℕ
next m s = word m s 9

-- n slots, from c on
abbrev pub chain : List ℕ → ℕ → ℕ → List ℕ
chain m c zero = []
chain m c (suc n) = c ∷ chain m (next m c) n

-- the survivors, in order of presentation
unfoldable pub survivors : List ℕ → Builder → List (Cand Pending)
survivors m b = map (candidate_at m) (chain m b.head b.live)

-- how many are pruned when x is presented to those of l: of l and x, those that are not left
abbrev pub pruned_by : List (Cand Pending) → Cand Pending → ℕ
pruned_by l x = length l + 1 - length (present covers l x)

-- a slot with a candidate in it
pub record Stands (m : List ℕ) (s : ℕ) : Type 0 where
  pub at : At m s
  pub column : word m s 3 < top

-- a walk along the order: from the link on stand the candidates xs
pub record Stop (m : List ℕ) (c : Option ℕ) (x : Cand Pending) (R : ℕ → Type 0) : Type 0 where
  pub slot : ℕ
  pub is : c ≡ Some slot
  pub stands : Stands m slot
  pub here : candidate_at m slot ≡ x
  pub rest : R slot

abbrev pub Rest : List ℕ → Option ℕ → List (Cand Pending) → Type 0
Rest m c [] = c ≡ None
Rest m c (x ∷ xs) = Stop m c x (λ s. Rest m (link_of (next m s)) xs)

pub record Going (m : List ℕ) (c : Option ℕ) (xs : List (Cand Pending)) : Type 0 where
  pub rest : Rest m c xs
