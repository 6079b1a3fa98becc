-- What the machine's plans name: earlier plans, and texts that are there.
use Rattle.std.specs.Prelude.{List, [], ◌∷◌, ◌≡◌, ℕ, suc, ◌<◌, length}
use Rattle.layout.specs.Table.{Text}
use Rattle.machine.specs.Model.{Prepared, PlanNode, PlanEmpty, PlanText, PlanNewline, PlanConcat, PlanAnnotate, PlanPenalty, PendingPlan, Existing, Made, Candidate, Scratch, State}
use Rattle.machine.specs.Solve.{Solved}
use Rattle.machine_right.specs.Relations.{Some}
use Rattle.machine_right.specs.Sound.{Each}

-- texts below t, plans below n
abbrev pub Names : ℕ → ℕ → PlanNode → Type 0
Names t n PlanEmpty = Unit {0}
Names t n (PlanText x) = x < t
Names t n (PlanNewline i) = Unit {0}
Names t n (PlanConcat l r) = (l < n) × (r < n)
Names t n (PlanAnnotate a c) = c < n
Names t n (PlanPenalty a c) = c < n

abbrev pub PendingNames : ℕ → ℕ → PendingPlan → Type 0
PendingNames t n (Existing i) = i < n
PendingNames t n (Made p) = Names t n p

-- each plan names those before it, with n before the first
abbrev pub NamesFrom : ℕ → ℕ → List PlanNode → Type 0
NamesFrom t n [] = Unit {0}
NamesFrom t n (x ∷ l) = Names t n x × NamesFrom t (suc n) l

abbrev pub Waiting : ℕ → ℕ → List Scratch → Type 0
Waiting t n cs = Each (λ c. PendingNames t n c.plan.plan) cs

abbrev pub Standing : ℕ → List Candidate → Type 0
Standing n cs = Each (λ c. c.plan.plan < n) cs

-- where a result or a memo entry stands, there is a plan
pub record Numbered (t : ℕ) (S : State) : Type 0 where
  pub plans_name : NamesFrom t 0 S.plans
  pub kept_name : Standing (length S.plans) S.retained
  pub pending_name : Waiting t (length S.plans) S.pending
  pub builder_names : Waiting t (length S.plans) S.builder
  pub results_plan : Some S.results → 0 < length S.plans
  pub memo_plan : Some S.memo → 0 < length S.plans

-- the texts that a table names are below t
pub record TextsBelow (t : ℕ) (P : Prepared) : Type 0 where
  pub node_text : (n x : ℕ) → P.table.node n ≡ Text x → x < t
  pub space_text_below : P.space_text < t

-- the plans that are found, with the number of the one that is chosen
pub record Rooted (t : ℕ) (c : Solved) : Type 0 where
  pub names : NamesFrom t 0 c.plans
  pub root_below : c.root < length c.plans
