-- What the solver's operations come to: a rule for each, in the form "if Q holds of every way that it can go on, then Post Q".
use Rattle.std.specs.Prelude.{ℕ, ◌+◌, length}
use Rattle.std.proofs.Common.{add-one, sym}
use mathlib.Core.List.{List, [], ◌∷◌, ◌++◌}
use Rattle.std.proofs.Math.Path.{subst}
use Rattle.cost.specs.Cost.{Cost, add}
use Rattle.memo.specs.declared.CandidateRange.{CandidateRange}
use Rattle.layout.specs.Layout.{Plan}
use Rattle.layout.specs.Frontier.{Cand, covers, load}
use Rattle.layout.specs.Frontier.{present as presented}
use Rattle.layout.specs.Table.{Table}
use Rattle.machine.specs.Model.{PlanNode, Task, State, with_tasks, with_results, with_pending, with_builder, with_stores, Scratch, Candidate, Got, got, range, layouts_after}
use Rattle.machine.specs.Solver.{push_exact_task, push_exact_result, push_pending, popped, checked_add, present, present_all, ranked, finish_builder, committed, additional_plans}
use Rattle.machine_right.specs.Relations.{All2, nil, cons, Some, Ext, ext_by, Waits, Holds, Rise, rise_present, present_like, rising_committed, laid, laid_length, laid_append, commits, length_committed, Den, den_new}
use Rattle.machine_right.specs.Post.{Post, holds_of, says, post_bind}

pub task_post : (x : Task) (S : State) {Q : State → Type 0} → Q (with_tasks (x ∷ S.tasks) S) → Post Q (push_exact_task x S)
unfolding push_exact_task
task_post x S h = says tt (holds_of h)

pub result_post : (r : CandidateRange) (S : State) {Q : State → Type 0} → Q (with_results (r ∷ S.results) S) → Post Q (push_exact_result r S)
unfolding push_exact_result
result_post r S h = says tt (holds_of h)

pub pending_post : (c : Scratch) (S : State) {Q : State → Type 0} → Q (with_pending (S.pending ++ (c ∷ [])) S) → Post Q (push_pending c S)
unfolding push_pending
pending_post c S h = says tt (holds_of h)

pub add_post : (a b : Cost) {Q : Cost → Type 0} → Q (add a b) → Post Q (checked_add a b)
unfolding checked_add
add_post a b h = says tt (says tt (holds_of h))

pub pop_post : {W : CandidateRange → List (Cand Plan) → Type 0} (l : List CandidateRange) (S : State) {F : List (Cand Plan)} {Es : List (List (Cand Plan))} {Q : Got → Type 0} → All2 W l (F ∷ Es)
    → ((r : CandidateRange) (rs : List CandidateRange) → W r F → All2 W rs Es → Q (got r (with_results rs S))) → Post Q (popped l S)
pop_post l S (cons x xs) h = holds_of (h _ _ x xs)

module _ (T : Table) where
  pub present_post : (ps : List Plan) (c : Scratch) (S : State) {y : Cand Plan} {F : List (Cand Plan)} {Q : State → Type 0}
      → Waits T ps c y → All2 (Waits T ps) S.builder F → Rise 0 S.builder S.generated
      → ((b : List Scratch) (g : ℕ) → All2 (Waits T ps) b (presented covers F y) → Rise 0 b g → Q (with_builder b g S))
      → Post Q (present c S)
  unfolding present
  present_post ps c S w a u h =
      let up : Rise 0 (presented covers S.builder (ranked S.generated c)) (S.generated + 1) = rw (add-one S.generated) (rise_present 0 S.builder (ranked S.generated c) u) in
      says tt (says tt (says tt (holds_of (h _ _ (present_like a (record { same_cost = w.same_cost; same_column = w.same_column; same_plan = w.same_plan })) up))))

  pub present_all_post : (ps : List Plan) (cs : List Scratch) (S : State) {F G : List (Cand Plan)} {Q : State → Type 0}
      → All2 (Waits T ps) cs G → All2 (Waits T ps) S.builder F → Rise 0 S.builder S.generated
      → ((b : List Scratch) (g : ℕ) → All2 (Waits T ps) b (load covers F G) → Rise 0 b g → Q (with_builder b g S))
      → Post Q (present_all cs S)
  unfolding present_all load
  present_all_post ps [] S nil a u h = holds_of (h _ _ a u)
  present_all_post ps (c ∷ cs) S (cons w ws) a u h =
      post_bind (present_post ps c S w a u λ b g a' u'. present_all_post ps cs (with_builder b g S) ws a' u' h)

  -- a frontier is finished: what it leaves stands for it
  pub finish_post : (S : State) {F : List (Cand Plan)} {Q : Got → Type 0}
      → All2 (Waits T (laid T S.plans)) S.builder F → Some F → Rise 0 S.builder S.generated
      → ((k : List Candidate) (p : List PlanNode) → Ext S.retained k → Ext (laid T S.plans) (laid T p) → Den T k (laid T p) (length S.retained) (length S.builder) F
      → Q (got (range (length S.retained) (length S.builder)) (with_stores k p S)))
      → Post Q (finish_builder S)
  unfolding finish_builder
  finish_post S {F} a f u h =
      let c = commits T (laid T S.plans) S.builder a in
      let e = laid_append T S.plans (additional_plans S.builder) in
      let n = laid_length T S.plans in
      let xs = committed (length S.plans) S.builder in
      let hs : All2 (Holds T (laid T (S.plans ++ additional_plans S.builder))) xs F =
      subst (λ (z : List Plan). All2 (Holds T z) xs F) (sym e) (subst (λ (m : ℕ). All2 (Holds T (layouts_after T (laid T S.plans) (additional_plans S.builder))) (committed m S.builder) F) n c.holds) in
      says tt (says tt (says tt (holds_of (h _ _ (ext_by xs) (subst (λ (z : List Plan). Ext (laid T S.plans) z) (sym e) c.grown)
      (subst (λ (m : ℕ). Den T (S.retained ++ xs) (laid T (S.plans ++ additional_plans S.builder)) (length S.retained) m F) (length_committed (length S.plans) S.builder)
      (den_new S.retained hs f (rising_committed _ 0 S.builder _ u)))))))
