-- What the rows of working memory stand for, and the state of the machine that registers and slices hold.
use Rattle.std.specs.Prelude.{List, [], ◌∷◌, map, ℕ, zero, suc, ◌%◌, ◌^◌, take, get_or}
use Rattle.cost.specs.Cost.{Cost}
use Rattle.cost.specs.Value.{halves, value}
use Rattle.layout.specs.Frontier.{Cand}
use Rattle.memo.specs.declared.CandidateRange.{CandidateRange}
use Rattle.memo.specs.declared.MemoKey.{MemoKey}
use Rattle.memo.specs.Entries.{listed}
use Rattle.plan.specs.declared.PlanNode.{PlanNode as Node}
use Rattle.plan.specs.declared.PlanNode.TheVariants.{Empty, Text, Newline, Concat, Annotate, Penalty}
use Rattle.plan.specs.declared.PendingPlan.{PendingPlan as Pended}
use Rattle.plan.specs.declared.PendingPlan.TheVariants.{Existing as Stands, New}
use Rattle.plan.specs.Arena.{arena}
use Rattle.frontier.specs.Candidates.{Pending, survivors}
use Rattle.machine.specs.Model.{PlanNode, PlanEmpty, PlanText, PlanNewline, PlanConcat, PlanAnnotate, PlanPenalty, PendingPlan, Existing, Made, Candidate, Scratch, scratch, range, memo_key}
use Rattle.machine.specs.Model.{Task, Eval, CompleteAlias, CompleteUnion, CompleteChoiceSet, CompleteAnnotate, CompletePenalty, ContinueSequence, CompleteSequenceRight, State}
use Rattle.solve_workspace.specs.declared.Registers.{Registers}
use Rattle.solve_workspace.specs.declared.Candidate.{Candidate as Kept}
use Rattle.solve_workspace.specs.declared.ExactTask.{ExactTask}
use Rattle.solve_workspace.specs.declared.ExactTask.TheVariants.{Eval as Evaluate, CompleteAlias as Alias, CompleteUnion as Union, CompleteChoiceSet as ChoiceSet, CompleteAnnotate as Annotating, CompletePenalty as Penalizing, ContinueSequence as Continue, CompleteSequenceRight as SequenceRight}

abbrev pub Row : Type 0
Row = List ℕ

abbrev pub at : Row → ℕ → ℕ
at r j = get_or r j 0

-- a word of 64 bits that holds a number of 32: its lower half
abbrev pub low : ℕ → ℕ
low x = x % 2 ^ 32

-- the first n rows as a stack, the last pushed first
abbrev pub pile : {A : Type 0} → (Row → A) → List Row → ℕ → List A
pile d rows zero = []
pile d rows (suc n) = d (get_or rows n []) ∷ pile d rows n

-- the first n rows, the oldest first
abbrev pub row_list : {A : Type 0} → (Row → A) → List Row → ℕ → List A
row_list d rows n = map d (take n rows)

-- ---- tasks: kind, node, column, indent; then child_index, result_start, annotation or amount; accumulated; left_offset; pending_start

abbrev pub task_of_kind : ℕ → MemoKey → ℕ → CandidateRange → ℕ → ℕ → Task
task_of_kind zero q x r o p = Eval q
task_of_kind (suc zero) q x r o p = CompleteAlias q
task_of_kind (suc (suc zero)) q x r o p = CompleteUnion q
task_of_kind (suc (suc (suc zero))) q x r o p = CompleteChoiceSet q x
task_of_kind (suc (suc (suc (suc zero)))) q x r o p = CompleteAnnotate q x
task_of_kind (suc (suc (suc (suc (suc zero))))) q x r o p = CompletePenalty q x
task_of_kind (suc (suc (suc (suc (suc (suc zero)))))) q x r o p = ContinueSequence q x
task_of_kind (suc (suc (suc (suc (suc (suc (suc k))))))) q x r o p = CompleteSequenceRight q x r o p

unfoldable pub task_of : Row → Task
task_of r = task_of_kind (at r 0) (memo_key (at r 1) (at r 2) (at r 3)) (at r 4) (range (at r 5) (at r 6)) (at r 7) (at r 8)

-- the machine's task that the code's stands for
abbrev pub meant : ExactTask → Task
meant (Evaluate q) = Eval q
meant (Alias q) = CompleteAlias q
meant (Union q) = CompleteUnion q
meant (ChoiceSet q n) = CompleteChoiceSet q n
meant (Annotating q a) = CompleteAnnotate q a.0
meant (Penalizing q n) = CompletePenalty q n
meant (Continue q n) = ContinueSequence q n
meant (SequenceRight q n s l o p) = CompleteSequenceRight q n (range s l) o p

-- ---- results: start, length

abbrev pub range_of : Row → CandidateRange
range_of r = range (at r 0) (at r 1)

-- ---- plans

abbrev pub node_of : Node → PlanNode
node_of Empty = PlanEmpty
node_of (Text t) = PlanText t.0
node_of (Newline i) = PlanNewline i
node_of (Concat l r) = PlanConcat l.0 r.0
node_of (Annotate a c) = PlanAnnotate a.0 c.0
node_of (Penalty n c) = PlanPenalty n c.0

abbrev pub plan_of : Pended → PendingPlan
plan_of (Stands p) = Existing p.0
plan_of (New x) = Made (node_of x)

-- a pending plan in words: kind, first, second
abbrev pub plan_of_kind : ℕ → ℕ → ℕ → PendingPlan
plan_of_kind zero a b = Made PlanEmpty
plan_of_kind (suc zero) a b = Made (PlanText a)
plan_of_kind (suc (suc zero)) a b = Made (PlanNewline a)
plan_of_kind (suc (suc (suc zero))) a b = Made (PlanConcat a b)
plan_of_kind (suc (suc (suc (suc zero)))) a b = Made (PlanAnnotate a b)
plan_of_kind (suc (suc (suc (suc (suc zero))))) a b = Made (PlanPenalty a b)
plan_of_kind (suc (suc (suc (suc (suc (suc k)))))) a b = Existing a

unfoldable pub plan_of_words : ℕ → ℕ → ℕ → PendingPlan
plan_of_words k a b = plan_of_kind (low k) (low a) (low b)

-- ---- candidates. All begin with overflow (two halves), burden and last column

abbrev pub cost_of : Row → Cost
cost_of r = record { overflow = halves (at r 0) (at r 1); burden = at r 2 }

-- pending: then kind, first and second of the plan
unfoldable pub scratch_of : Row → Scratch
scratch_of r = scratch (cost_of r) (low (at r 3)) (plan_of_words (at r 4) (at r 5) (at r 6))

-- kept: then precedence, and the plan's number
unfoldable pub candidate_of : Row → Candidate
candidate_of r = record { cost = cost_of r; column = low (at r 3); plan = record { precedence = at r 4; plan = low (at r 5) } }

-- the machine's candidate that the code's stands for
abbrev pub candidate : Kept → Candidate
candidate c = record { cost = value c.cost; column = c.last; plan = record { precedence = c.precedence; plan = c.plan.0 } }

-- in the frontier's slots
abbrev pub survivor : Cand Pending → Scratch
survivor c = record { cost = c.cost; column = c.column; plan = record { precedence = c.plan.precedence; plan = plan_of_words c.plan.kind c.plan.first c.plan.second } }

-- ---- the state

-- tasks, results, pending, memo entries, kept candidates, frontier slots, plans
unfoldable pub abs : Registers → List Row → List Row → List Row → List Row → List Row → List ℕ → List Row → State
abs s ts rs ps es ks fs ns = record {
  tasks = pile task_of ts s.tasks;
  results = pile range_of rs s.results;
  pending = row_list scratch_of ps s.pending;
  memo = listed es s.memo;
  retained = row_list candidate_of ks s.kept;
  builder = map survivor (survivors fs s.builder);
  plans = map node_of (arena ns s.plans);
  generated = s.stats.candidates_generated;
}
