-- ExactSolver::solve: the tasks are worked off from the root on, and the best candidate of the root's frontier is taken.
use Rattle.std.specs.Prelude.{Bool, ◌&&◌, ◌||◌, cond, List, [], ◌∷◌, ℕ, zero, suc, ◌+◌, ◌-◌, ltb, length}
use Rattle.cost.specs.Cost.{Cost, zero_cost, cheap, cheaper}
use Rattle.layout.specs.Rules.{Rules}
use Rattle.machine.specs.Events.{Prog, ret, emit, ◌>>=◌, ◌>>◌, say, PlanNodes, Never}
use Rattle.machine.specs.Model.{Prepared, children, PlanNode, Candidate, within_range, memo_key, State, blank_state}
use Rattle.machine.specs.Model.{Task, Eval, CompleteAlias, CompleteUnion, CompleteChoiceSet, CompleteAnnotate, CompletePenalty, ContinueSequence, CompleteSequenceRight}
use Rattle.machine.specs.Solver.{push_exact_task, pop_exact_result, step}

-- how many left candidates wait after the one at work, where the task on top is a sequence's right part
abbrev pub lefts_of : List Task → ℕ
lefts_of [] = 0
lefts_of (Eval q ∷ ts) = 0
lefts_of (CompleteAlias q ∷ ts) = 0
lefts_of (CompleteUnion q ∷ ts) = 0
lefts_of (CompleteChoiceSet q n ∷ ts) = 0
lefts_of (CompleteAnnotate q n ∷ ts) = 0
lefts_of (CompletePenalty q n ∷ ts) = 0
lefts_of (ContinueSequence q n ∷ ts) = 0
lefts_of (CompleteSequenceRight q n accumulated left_offset start ∷ ts) = accumulated.len - (left_offset + 1)

module _ (R : Rules) (P : Prepared) where
  abbrev pub child_count : ℕ → ℕ
  child_count n = length (children (P.table.node n))

  -- ---- tasks worked off, step by step. ev: how an Eval on top is

  module _ (ev : State → Prog State) where
    -- a right part, at this left candidate and at g more: ends in the sequence's continuation
    unfoldable pub rights : ℕ → State → Prog State
    rights zero S = step R P S
    rights (suc g) S = do
      S₁ ← step R P S
      S₂ ← ev S₁
      rights g S₂

    -- a sequence's continuation, with k children left
    unfoldable pub continued : ℕ → State → Prog State
    continued zero S = step R P S
    continued (suc k) S = do
      S₁ ← step R P S
      S₂ ← ev S₁
      S₃ ← rights (lefts_of S₂.tasks) S₂
      continued k S₃

    -- the task on top, with all that it leads to
    unfoldable pub work_off : List Task → State → Prog State
    work_off [] S = ret S
    work_off (Eval q ∷ ts) S = ev S
    work_off (CompleteAlias q ∷ ts) S = step R P S
    work_off (CompleteUnion q ∷ ts) S = step R P S
    work_off (CompleteChoiceSet q n ∷ ts) S = step R P S
    work_off (CompleteAnnotate q n ∷ ts) S = step R P S
    work_off (CompletePenalty q n ∷ ts) S = step R P S
    work_off (ContinueSequence q n ∷ ts) S = continued (child_count q.node - n) S
    work_off (CompleteSequenceRight q n accumulated left_offset start ∷ ts) S = do
      S₁ ← rights (accumulated.len - (left_offset + 1)) S
      continued (child_count q.node - (n + 1)) S₁

    -- the k tasks on top
    unfoldable pub work_off_all : ℕ → State → Prog State
    work_off_all zero S = ret S
    work_off_all (suc k) S = do
      S₁ ← work_off S.tasks S
      work_off_all k S₁

  -- an Eval on top: its step, and then the tasks that this pushed; to a depth above the node's chains of references
  unfoldable pub evaluated : ℕ → State → Prog State
  evaluated zero S = emit Never (ret S)
  evaluated (suc f) S = do
    S₁ ← step R P S
    work_off_all (evaluated f) (length S₁.tasks + 1 - length S.tasks) S₁

  -- all tasks. The Rust takes the task on top until none is left; a definition must recur on what falls, so this one recurs along the references.
  -- It is the Rust's loop: where there is a task, its step and then the rest, and the end where there is none (machine_right, Rest: rest-step, rest-none)
  unfoldable pub rest : State → Prog State
  rest S = work_off_all (evaluated P.depth) (length S.tasks) S

-- ---- the best candidate

-- SolvedCore: the number and the cost of the plan that is chosen, and the plans
pub record Solved : Type 0 where
  pub root : ℕ
  pub cost : Cost
  pub plans : List PlanNode

-- less by (cost, precedence)
unfoldable pub before : Candidate → Candidate → Bool
before x y = cheaper x.cost y.cost || (cheap x.cost y.cost && ltb x.plan.precedence y.plan.precedence)

-- min_by_key
unfoldable pub least_key : Candidate → List Candidate → Candidate
least_key c [] = c
least_key c (x ∷ xs) = least_key (cond (before x c) x c) xs

abbrev pub best_of : List Candidate → State → Prog Solved
best_of [] S = emit Never (ret (record { root = 0; cost = zero_cost; plans = S.plans }))
best_of (c ∷ cs) S = do
  say (PlanNodes (length S.plans))
  ret (record { root = (least_key c cs).plan.plan; cost = (least_key c cs).cost; plans = S.plans })

module _ (R : Rules) (P : Prepared) where
  -- the run of the tasks, from the root on
  unfoldable pub solve_tasks : Prog State
  solve_tasks = do
    S ← push_exact_task (Eval (memo_key P.root 0 0)) blank_state
    rest R P S

  unfoldable pub take_best : State → Prog Solved
  take_best S = do
    G ← pop_exact_result S
    best_of (within_range G.state.retained G.range) G.state

  unfoldable pub solve : Prog Solved
  solve = do
    S ← solve_tasks
    take_best S
