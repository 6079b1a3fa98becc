-- ExactSolver, function by function: each step emits what the Rust tests and counts, in its order. No bound is known here.
use Rattle.std.specs.Prelude.{Bool, true, false, List, [], ◌∷◌, ◌++◌, map, ℕ, zero, suc, ◌+◌, ◌-◌, ltb, length, take, drop, get_or}
use Rattle.std.proofs.Math.Option.{Option, none, some}
use Rattle.cost.specs.Cost.{Cost, zero_cost, add}
use Rattle.cost.specs.Charge.{text_cost, newline_cost, penalty_cost}
use Rattle.cost.specs.declared.Reason.TheVariants.{Column, Indent, Overflow, Burden}
use Rattle.memo.specs.declared.MemoKey.{MemoKey}
use Rattle.memo.specs.declared.CandidateRange.{CandidateRange}
use Rattle.std.specs.Prelude.{Some as Found, None as Nothing}
use Rattle.memo.specs.Entries.{MemoLookup, lookup, stored}
use Rattle.layout.specs.Rules.{Rules}
use Rattle.layout.specs.Table.{Node, Empty, Break, HardLine, Text, Seq, Fill, Group, Align, Nest, Choice, Annotate, Penalty}
use Rattle.layout.specs.Frontier.{covers}
use Rattle.layout.specs.Frontier.{present as presented}
use Rattle.machine.specs.Events.{Prog, ret, emit, ◌>>=◌, ◌>>◌, say, need, Within, Hit, Miss, Generated, Pruned, Peak, Entries, Never, stack, memo, kept, frontier, plans}
use Rattle.machine.specs.Model.{ExactChoice, Prepared, children, PlanNode, PlanEmpty, PlanText, PlanNewline, PlanConcat, PlanAnnotate, PlanPenalty, PendingPlan, Existing, Made}
use Rattle.machine.specs.Model.{Candidate, Scratch, scratch, no_candidate, range, within_range, memo_key}
use Rattle.machine.specs.Model.{Task, Eval, CompleteAlias, CompleteUnion, CompleteChoiceSet, CompleteAnnotate, CompletePenalty, ContinueSequence, CompleteSequenceRight}
use Rattle.machine.specs.Model.{State, with_tasks, with_results, with_pending, with_memo, with_stores, with_builder, Got, got}

-- ---- stacks

unfoldable pub push_exact_task : Task → State → Prog State
push_exact_task x S = do
  need stack (length S.tasks + 1)
  ret (with_tasks (x ∷ S.tasks) S)

unfoldable pub push_exact_result : CandidateRange → State → Prog State
push_exact_result r S = do
  need stack (length S.results + 1)
  ret (with_results (r ∷ S.results) S)

unfoldable pub push_pending : Scratch → State → Prog State
push_pending c S = do
  need stack (length S.pending + 1)
  ret (with_pending (S.pending ++ (c ∷ [])) S)

-- "exact continuation result"
abbrev pub popped : List CandidateRange → State → Prog Got
popped [] S = emit Never (ret (got (range 0 0) S))
popped (r ∷ rs) S = ret (got r (with_results rs S))

abbrev pub pop_exact_result : State → Prog Got
pop_exact_result S = popped S.results S

-- ---- costs

-- ConsumerCost::checked_add
unfoldable pub checked_add : Cost → Cost → Prog Cost
checked_add a b = do
  say (Within Overflow (add a b).overflow)
  say (Within Burden (add a b).burden)
  ret (add a b)

-- ---- the frontier's builder

abbrev pub begin_builder : State → State
begin_builder S = with_builder [] S.generated S

-- a candidate as presented, the n-th
abbrev pub ranked : ℕ → Scratch → Scratch
ranked n c = record { cost = c.cost; column = c.column; plan = record { precedence = n; plan = c.plan.plan } }

-- one presented: itself or those that it removes are pruned; slots are used again, so the frontier needs what it is left with
unfoldable pub present : Scratch → State → Prog State
present c S =
    let kept_now = presented covers S.builder (ranked S.generated c) in do
      say Generated
      say (Pruned (length S.builder + 1 - length kept_now))
      need frontier (length kept_now)
      ret (with_builder kept_now (S.generated + 1) S)

unfoldable pub present_all : List Scratch → State → Prog State
present_all [] S = ret S
present_all (c ∷ cs) S = do
  S₁ ← present c S
  present_all cs S₁

-- the record that a pending plan makes, and the number that it then has, with n records before it
abbrev pub additional : PendingPlan → List PlanNode
additional (Existing i) = []
additional (Made p) = p ∷ []

abbrev pub plan_number : ℕ → PendingPlan → ℕ
plan_number n (Existing i) = i
plan_number n (Made p) = n

unfoldable pub additional_plans : List Scratch → List PlanNode
additional_plans [] = []
additional_plans (c ∷ cs) = additional c.plan.plan ++ additional_plans cs

-- commit_plan for each
unfoldable pub committed : ℕ → List Scratch → List Candidate
committed n [] = []
committed n (c ∷ cs) =
    record { cost = c.cost; column = c.column; plan = record { precedence = c.plan.precedence; plan = plan_number n c.plan.plan } }
    ∷ committed (n + length (additional c.plan.plan)) cs

unfoldable pub finish_builder : State → Prog Got
finish_builder S = do
  need plans (length S.plans + length (additional_plans S.builder))
  need kept (length S.retained + length S.builder)
  say (Peak (length S.builder))
  ret (got (range (length S.retained) (length S.builder))
      (with_stores (S.retained ++ committed (length S.plans) S.builder) (S.plans ++ additional_plans S.builder) S))

unfoldable pub singleton : Scratch → State → Prog Got
singleton c S = do
  S₁ ← present c (begin_builder S)
  finish_builder S₁

abbrev pub existing : Candidate → Scratch
existing c = scratch c.cost c.column (Existing c.plan.plan)

unfoldable pub present_range : CandidateRange → State → Prog State
present_range r S = present_all (map existing (within_range S.retained r)) S

unfoldable pub union_ranges : CandidateRange → CandidateRange → State → Prog Got
union_ranges preferred alternative S = do
  S₁ ← present_range preferred (begin_builder S)
  S₂ ← present_range alternative S₁
  finish_builder S₂

-- the candidates of a range, each wrapped and charged
unfoldable pub present_wrapped : (ℕ → PlanNode) → Cost → List Candidate → State → Prog State
present_wrapped wrapper additional [] S = ret S
present_wrapped wrapper additional (c ∷ cs) S = do
  cost ← checked_add c.cost additional
  S₁ ← present (scratch cost c.column (Made (wrapper c.plan.plan))) S
  present_wrapped wrapper additional cs S₁

unfoldable pub wrap_range : CandidateRange → (ℕ → PlanNode) → Cost → State → Prog Got
wrap_range r wrapper additional S = do
  S₁ ← present_wrapped wrapper additional (within_range S.retained r) (begin_builder S)
  finish_builder S₁

-- ---- the memo

unfoldable pub memo_insert : MemoKey → CandidateRange → State → Prog State
memo_insert q r S =
    let memo_now = stored S.memo (record { key = q; range = r }) in do
      need memo (length S.memo + 1)
      say (Entries (length memo_now))
      ret (with_memo memo_now S)

unfoldable pub complete_node : MemoKey → CandidateRange → State → Prog State
complete_node q r S = do
  S₁ ← memo_insert q r S
  push_exact_result r S₁

-- ---- sequences

-- a left candidate followed by each of the right ones
unfoldable pub push_joined : Candidate → List Candidate → State → Prog State
push_joined left [] S = ret S
push_joined left (right ∷ rights) S = do
  cost ← checked_add left.cost right.cost
  S₁ ← push_pending (scratch cost right.column (Made (PlanConcat left.plan.plan right.plan.plan))) S
  push_joined left rights S₁

-- the frontier of what is pending from start on
unfoldable pub build_pending : ℕ → State → Prog Got
build_pending start S = do
  S₁ ← present_all (drop start S.pending) (begin_builder S)
  finish_builder (with_pending (take start S₁.pending) S₁)

module _ (R : Rules) (P : Prepared) where
  -- PreparedConsumerCostModel::text
  unfoldable pub checked_text : ℕ → ℕ → Prog Cost
  checked_text column width = do
    say (Within Column (column + width))
    ret (text_cost R.charge column width)

  -- a newline to the indent; its cost always has its place
  abbrev pub newline : ℕ → Scratch
  newline indent = scratch (newline_cost R.charge R.newline_cost indent) indent (Made (PlanNewline indent))

  -- after n of the candidates from s on, a space or a newline
  unfoldable pub push_gaps : ℕ → ℕ → ℕ → State → Prog State
  push_gaps indent s zero S = ret S
  push_gaps indent s (suc n) S =
      let left = get_or S.retained s no_candidate in do
        space_cost ← checked_text left.column 1
        S₁ ← present (scratch space_cost (left.column + 1) (Made (PlanText P.space_text))) (begin_builder S)
        S₂ ← present (newline indent) S₁
        boundary ← finish_builder S₂
        S₃ ← push_joined left (within_range boundary.state.retained boundary.range) boundary.state
        push_gaps indent (s + 1) n S₃

  unfoldable pub fill_boundary : CandidateRange → ℕ → State → Prog Got
  fill_boundary r indent S = do
    S₁ ← push_gaps indent r.start r.len S
    build_pending (length S.pending) S₁

  -- ---- begin_node

  -- the completing task, and then a child
  unfoldable pub push_child : Task → MemoKey → State → Prog State
  push_child task child S = do
    S₁ ← push_exact_task task S
    push_exact_task (Eval child) S₁

  unfoldable pub complete_singleton : MemoKey → Scratch → State → Prog State
  complete_singleton q c S = do
    G ← singleton c S
    complete_node q G.range G.state

  unfoldable pub begin_empty : MemoKey → State → Prog State
  begin_empty q S = complete_singleton q (scratch zero_cost q.column (Made PlanEmpty)) S

  unfoldable pub begin_text : ℕ → MemoKey → State → Prog State
  begin_text t q S = do
    cost ← checked_text q.column (P.table.texts t).width
    complete_singleton q (scratch cost (q.column + (P.table.texts t).width) (Made (PlanText t))) S

  unfoldable pub begin_newline : MemoKey → State → Prog State
  begin_newline q S = complete_singleton q (newline q.indent) S

  unfoldable pub begin_sequence : List ℕ → MemoKey → State → Prog State
  begin_sequence [] q S = begin_empty q S
  begin_sequence (k ∷ ks) q S = push_child (ContinueSequence q 1) (memo_key k q.column q.indent) S

  -- preferred is to be evaluated first
  unfoldable pub begin_union : ℕ → ℕ → MemoKey → State → Prog State
  begin_union preferred alternative q S = do
    S₁ ← push_child (CompleteUnion q) (memo_key alternative q.column q.indent) S
    push_exact_task (Eval (memo_key preferred q.column q.indent)) S₁

  unfoldable pub begin_group : ℕ → Option ℕ → MemoKey → State → Prog State
  begin_group k (some flat) q S = begin_union flat k q S
  begin_group k none q S = push_child (CompleteAlias q) (memo_key k q.column q.indent) S

  -- the indent is tested before it is lowered
  unfoldable pub begin_nest : ℕ → ℕ → MemoKey → State → Prog State
  begin_nest amount k q S = do
    say (Within Indent (q.indent + amount))
    push_child (CompleteAlias q) (memo_key k q.column (R.lower (q.indent + amount))) S

  -- the skipped Choices
  unfoldable pub skip_choices : ℕ → Prog (Unit {0})
  skip_choices zero = ret tt
  skip_choices (suc n) = do
    say Miss
    skip_choices n

  -- the last is pushed first
  unfoldable pub push_alternatives : List ℕ → MemoKey → State → Prog State
  push_alternatives [] q S = ret S
  push_alternatives (k ∷ ks) q S = do
    S₁ ← push_alternatives ks q S
    push_exact_task (Eval (memo_key k q.column q.indent)) S₁

  unfoldable pub begin_choice : Option ExactChoice → ℕ → ℕ → MemoKey → State → Prog State
  begin_choice (some choice) preferred alternative q S = do
    skip_choices choice.skipped
    S₁ ← push_exact_task (CompleteChoiceSet q (length S.results)) S
    push_alternatives choice.alternatives q S₁
  begin_choice none preferred alternative q S = begin_union preferred alternative q S

  unfoldable pub begin_kind : Node → MemoKey → State → Prog State
  begin_kind Empty q S = begin_empty q S
  begin_kind (Text t) q S = begin_text t q S
  begin_kind Break q S = begin_newline q S
  begin_kind HardLine q S = begin_newline q S
  begin_kind (Seq ks) q S = begin_sequence ks q S
  begin_kind (Fill ks) q S = begin_sequence ks q S
  begin_kind (Group k) q S = begin_group k (P.table.flat k) q S
  begin_kind (Nest n k) q S = begin_nest n k q S
  begin_kind (Align k) q S = push_child (CompleteAlias q) (memo_key k q.column (R.lower q.column)) S
  begin_kind (Choice a b) q S = begin_choice (P.choices q.node) a b q S
  begin_kind (Annotate a k) q S = push_child (CompleteAnnotate q a) (memo_key k q.column q.indent) S
  begin_kind (Penalty n k) q S = push_child (CompletePenalty q n) (memo_key k q.column q.indent) S

  unfoldable pub begin_known : MemoLookup → MemoKey → State → Prog State
  begin_known (Found r) q S = do
    say Hit
    push_exact_result r S
  begin_known Nothing q S = do
    say Miss
    begin_kind (P.table.node q.node) q S

  unfoldable pub begin_node : MemoKey → State → Prog State
  begin_node q S = begin_known (lookup S.memo q) q S

  -- ---- execute_task

  unfoldable pub complete_alias : MemoKey → State → Prog State
  complete_alias q S = do
    G ← pop_exact_result S
    complete_node q G.range G.state

  unfoldable pub complete_union : MemoKey → State → Prog State
  complete_union q S = do
    alternative ← pop_exact_result S
    preferred ← pop_exact_result alternative.state
    G ← union_ranges preferred.range alternative.range preferred.state
    complete_node q G.range G.state

  -- several ranges, the last pushed presented last
  unfoldable pub present_ranges : List CandidateRange → State → Prog State
  present_ranges [] S = ret S
  present_ranges (r ∷ rs) S = do
    S₁ ← present_ranges rs S
    present_range r S₁

  -- the results above the lowest `start`
  unfoldable pub complete_choice_set : MemoKey → ℕ → State → Prog State
  complete_choice_set q start S = do
    S₁ ← present_ranges (take (length S.results - start) S.results) (begin_builder S)
    G ← finish_builder S₁
    complete_node q G.range (with_results (drop (length S.results - start) S.results) G.state)

  unfoldable pub complete_wrapped : MemoKey → (ℕ → PlanNode) → Cost → State → Prog State
  complete_wrapped q wrapper additional S = do
    child ← pop_exact_result S
    G ← wrap_range child.range wrapper additional child.state
    complete_node q G.range G.state

  -- a child at the column where a left candidate ends
  unfoldable pub push_right : MemoKey → ℕ → CandidateRange → ℕ → ℕ → State → Prog State
  push_right q child-index accumulated left_offset pending_start S =
      push_child (CompleteSequenceRight q child-index accumulated left_offset pending_start)
      (memo_key (get_or (children (P.table.node q.node)) child-index 0) (get_or S.retained (accumulated.start + left_offset) no_candidate).column q.indent) S

  -- with a gap before the child, in a Fill
  unfoldable pub gap_if_fill : Node → CandidateRange → ℕ → State → Prog Got
  gap_if_fill (Fill ks) r indent S = fill_boundary r indent S
  gap_if_fill Empty r indent S = ret (got r S)
  gap_if_fill Break r indent S = ret (got r S)
  gap_if_fill HardLine r indent S = ret (got r S)
  gap_if_fill (Text t) r indent S = ret (got r S)
  gap_if_fill (Seq ks) r indent S = ret (got r S)
  gap_if_fill (Group k) r indent S = ret (got r S)
  gap_if_fill (Align k) r indent S = ret (got r S)
  gap_if_fill (Nest n k) r indent S = ret (got r S)
  gap_if_fill (Choice a b) r indent S = ret (got r S)
  gap_if_fill (Annotate a k) r indent S = ret (got r S)
  gap_if_fill (Penalty n k) r indent S = ret (got r S)

  -- a child is left, or not
  unfoldable pub next_child : Bool → MemoKey → ℕ → CandidateRange → State → Prog State
  next_child false q child-index accumulated S = complete_node q accumulated S
  next_child true q child-index accumulated S = do
    G ← gap_if_fill (P.table.node q.node) accumulated q.indent S
    push_right q child-index G.range 0 (length G.state.pending) G.state

  unfoldable pub continue_sequence : MemoKey → ℕ → State → Prog State
  continue_sequence q child-index S = do
    accumulated ← pop_exact_result S
    next_child (ltb child-index (length (children (P.table.node q.node)))) q child-index accumulated.range accumulated.state

  -- another left candidate is left, or not
  unfoldable pub next_left : Bool → MemoKey → ℕ → CandidateRange → ℕ → ℕ → State → Prog State
  next_left true q child-index accumulated left_offset pending_start S = push_right q child-index accumulated (left_offset + 1) pending_start S
  next_left false q child-index accumulated left_offset pending_start S = do
    combined ← build_pending pending_start S
    S₁ ← push_exact_task (ContinueSequence q (child-index + 1)) combined.state
    push_exact_result combined.range S₁

  unfoldable pub complete_sequence_right : MemoKey → ℕ → CandidateRange → ℕ → ℕ → State → Prog State
  complete_sequence_right q child-index accumulated left_offset pending_start S = do
    right ← pop_exact_result S
    S₁ ← push_joined (get_or right.state.retained (accumulated.start + left_offset) no_candidate) (within_range right.state.retained right.range) right.state
    next_left (ltb (left_offset + 1) accumulated.len) q child-index accumulated left_offset pending_start S₁

  unfoldable pub execute_task : Task → State → Prog State
  execute_task (Eval q) S = begin_node q S
  execute_task (CompleteAlias q) S = complete_alias q S
  execute_task (CompleteUnion q) S = complete_union q S
  execute_task (CompleteChoiceSet q start) S = complete_choice_set q start S
  execute_task (CompleteAnnotate q annotation) S = complete_wrapped q (PlanAnnotate annotation) zero_cost S
  execute_task (CompletePenalty q amount) S = complete_wrapped q (PlanPenalty amount) (penalty_cost amount) S
  execute_task (ContinueSequence q child-index) S = continue_sequence q child-index S
  execute_task (CompleteSequenceRight q child-index accumulated left_offset pending_start) S =
      complete_sequence_right q child-index accumulated left_offset pending_start S

  -- the task on top is taken off and executed
  abbrev pub step_on : List Task → State → Prog State
  step_on [] S = ret S
  step_on (x ∷ ts) S = execute_task x (with_tasks ts S)

  unfoldable pub step : State → Prog State
  step S = step_on S.tasks S
