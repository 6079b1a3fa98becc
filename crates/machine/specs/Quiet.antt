-- The solver visits nothing, so its runs end with the visits that they began with; and of the materializer's sizes it needs nothing.
use Rattle.std.specs.Prelude.{◌≡◌, refl, Bool, length, take, drop}
use Rattle.std.proofs.Common.{ap, ◌∙◌, arith, ne_eqb}
use Rattle.std.proofs.Math.Bool.{true, false}
use Rattle.std.proofs.Math.Option.{Option, none, some}
use mathlib.Core.List.{List, [], ◌∷◌}
use Prim.Native.Nat.{ℕ, zero, suc, ◌+◌, ◌-◌, ◌≤◌, ◌<◌}
use Rattle.cost.specs.Cost.{Cost}
use Rattle.memo.specs.declared.MemoKey.{MemoKey}
use Rattle.memo.specs.declared.CandidateRange.{CandidateRange}
use Rattle.std.specs.Prelude.{Some as Found, None as Nothing}
use Rattle.memo.specs.Entries.{MemoLookup, lookup}
use Rattle.layout.specs.Rules.{Rules}
use Rattle.layout.specs.Table.{Node, Empty, Break, HardLine, Text, Seq, Fill, Group, Align, Nest, Choice, Annotate, Penalty}
use Rattle.machine.specs.Events.{Kind, stack, memo, kept, frontier, plans, visit, depth, output, spans, Bounds, Counts, Prog, ret, emit, ◌>>=◌, Out, done, stop, run, counted}
use Rattle.machine.specs.Events.{Event, Need, Within, Hit, Miss, Generated, Visit, Pruned, Peak, Entries, PlanNodes, Never}
use Rattle.machine.specs.Programs.{counts_after, done_is}
use Rattle.machine.specs.Enough.{index, peak, asks}
use Rattle.machine.specs.Model.{Prepared, ExactChoice, PlanNode, Candidate, Scratch, within_range, memo_key, State, blank_state}
use Rattle.machine.specs.Model.{Task, Eval, CompleteAlias, CompleteUnion, CompleteChoiceSet, CompleteAnnotate, CompletePenalty, ContinueSequence, CompleteSequenceRight}
use Rattle.machine.specs.Solver.{push_exact_task, push_exact_result, push_pending, popped, checked_add, present, present_all, begin_builder, finish_builder, singleton, present_range, union_ranges, present_wrapped, wrap_range, memo_insert, complete_node, push_joined, build_pending}
use Rattle.machine.specs.Solver.{checked_text, push_gaps, fill_boundary, push_child, complete_singleton, begin_empty, begin_text, begin_newline, begin_sequence, begin_union, begin_group, begin_nest, skip_choices, push_alternatives, begin_choice, begin_kind, begin_known, begin_node}
use Rattle.machine.specs.Solver.{complete_alias, complete_union, present_ranges, complete_choice_set, complete_wrapped, push_right, gap_if_fill, next_child, continue_sequence, next_left, complete_sequence_right, execute_task, step, step_on}
use Rattle.machine.specs.Solve.{Solved, rights, continued, work_off, work_off_all, evaluated, rest, best_of, solve_tasks, take_best, solve}

-- the sizes that are the solver's
abbrev Solvers : Kind → Type 0
Solvers stack = Unit {0}
Solvers memo = Unit {0}
Solvers kept = Unit {0}
Solvers frontier = Unit {0}
Solvers plans = Unit {0}
Solvers visit = ⊥
Solvers depth = ⊥
Solvers output = ⊥
Solvers spans = ⊥

abbrev Silent : Event → Type 0
Silent (Need x n) = Solvers x
Silent (Within r n) = Unit {0}
Silent Hit = Unit {0}
Silent Miss = Unit {0}
Silent Generated = Unit {0}
Silent Visit = ⊥
Silent (Pruned n) = Unit {0}
Silent (Peak n) = Unit {0}
Silent (Entries n) = Unit {0}
Silent (PlanNodes n) = Unit {0}
Silent Never = Unit {0}

-- no event is a visit, and none asks for one of the other sizes
data Quiet {A : Type 0} : Prog A → Type 0 where
  ends : {a : A} → Quiet (ret a)
  says : {e : Event} {p : Prog A} → Silent e → Quiet p → Quiet (emit e p)

quiet_bind : {A B : Type 0} {m : Prog A} {f : A → Prog B} → Quiet m → ((a : A) → Quiet (f a)) → Quiet (m >>= f)
quiet_bind (ends {a = a}) k = k a
quiet_bind (says s h) k = says s (quiet_bind h k)

-- ---- what the visits come to

silent_counted : (k : Counts) (e : Event) → Silent e → (counted k e).visits ≡ k.visits
silent_counted k (Need x n) s = refl
silent_counted k (Within r n) s = refl
silent_counted k Hit s = refl
silent_counted k Miss s = refl
silent_counted k Generated s = refl
silent_counted k Visit s = absurd s
silent_counted k (Pruned n) s = refl
silent_counted k (Peak n) s = refl
silent_counted k (Entries n) s = refl
silent_counted k (PlanNodes n) s = refl
silent_counted k Never s = refl

quiet_visits : {A : Type 0} (k : Counts) {m : Prog A} → Quiet m → (counts_after k m).visits ≡ k.visits
quiet_visits k ends = refl
quiet_visits k (says {e = e} s h) = quiet_visits (counted k e) h ∙ silent_counted k e s

abbrev visits_at : {A : Type 0} → Out A → ℕ
visits_at (done k a) = k.visits
visits_at (stop w n k) = 0

quiet_run : {A : Type 0} (b : Bounds) (k : Counts) (m : Prog A) {j : Counts} {a : A} → Quiet m → run b k m ≡ done j a → j.visits ≡ k.visits
quiet_run b k m q e = ap visits_at (done_is b k m e) ∙ quiet_visits k q

-- ---- what the other sizes come to

solvers_first : (y : Kind) → Solvers y → index y < 5
solvers_first stack s = omega arith
solvers_first memo s = omega arith
solvers_first kept s = omega arith
solvers_first frontier s = omega arith
solvers_first plans s = omega arith
solvers_first visit s = absurd s
solvers_first depth s = absurd s
solvers_first output s = absurd s
solvers_first spans s = absurd s

silent_asks : (x : Kind) → 5 ≤ index x → (e : Event) → Silent e → asks x e ≡ 0
silent_asks x n (Need y m) s = rw (ne_eqb (index x) (index y) (λ e. omega (arith, e, solvers_first y s)))
silent_asks x n (Within r m) s = refl
silent_asks x n Hit s = refl
silent_asks x n Miss s = refl
silent_asks x n Generated s = refl
silent_asks x n Visit s = refl
silent_asks x n (Pruned m) s = refl
silent_asks x n (Peak m) s = refl
silent_asks x n (Entries m) s = refl
silent_asks x n (PlanNodes m) s = refl
silent_asks x n Never s = refl

quiet_peak : {A : Type 0} (x : Kind) → 5 ≤ index x → {m : Prog A} → Quiet m → peak x m ≡ 0
unfolding peak
quiet_peak x n ends = refl
quiet_peak x n (says {e = e} s h) = omega (arith, silent_asks x n e s, quiet_peak x n h)

-- ---- the operations

quiet_task : (x : Task) (S : State) → Quiet (push_exact_task x S)
unfolding push_exact_task
quiet_task x S = says tt ends

quiet_result : (r : CandidateRange) (S : State) → Quiet (push_exact_result r S)
unfolding push_exact_result
quiet_result r S = says tt ends

quiet_pop : (l : List CandidateRange) (S : State) → Quiet (popped l S)
quiet_pop [] S = says tt ends
quiet_pop (r ∷ rs) S = ends

quiet_add : (a b : Cost) → Quiet (checked_add a b)
unfolding checked_add
quiet_add a b = says tt (says tt ends)

quiet_present : (c : Scratch) (S : State) → Quiet (present c S)
unfolding present
quiet_present c S = says tt (says tt (says tt ends))

quiet_all : (cs : List Scratch) (S : State) → Quiet (present_all cs S)
unfolding present_all
quiet_all [] S = ends
quiet_all (c ∷ cs) S = quiet_bind (quiet_present c S) (λ Z. quiet_all cs Z)

quiet_finish : (S : State) → Quiet (finish_builder S)
unfolding finish_builder
quiet_finish S = says tt (says tt (says tt ends))

quiet_single : (c : Scratch) (S : State) → Quiet (singleton c S)
unfolding singleton
quiet_single c S = quiet_bind (quiet_present c (begin_builder S)) (λ Z. quiet_finish Z)

quiet_range : (r : CandidateRange) (S : State) → Quiet (present_range r S)
unfolding present_range
quiet_range r S = quiet_all _ S

quiet_union : (r s : CandidateRange) (S : State) → Quiet (union_ranges r s S)
unfolding union_ranges
quiet_union r s S = quiet_bind (quiet_range r (begin_builder S)) (λ Z. quiet_bind (quiet_range s Z) (λ Y. quiet_finish Y))

quiet_wrapped : (w : ℕ → PlanNode) (a : Cost) (cs : List Candidate) (S : State) → Quiet (present_wrapped w a cs S)
unfolding present_wrapped
quiet_wrapped w a [] S = ends
quiet_wrapped w a (c ∷ cs) S = quiet_bind (quiet_add c.cost a) (λ x. quiet_bind (quiet_present _ S) (λ Z. quiet_wrapped w a cs Z))

quiet_wrap : (r : CandidateRange) (w : ℕ → PlanNode) (a : Cost) (S : State) → Quiet (wrap_range r w a S)
unfolding wrap_range
quiet_wrap r w a S = quiet_bind (quiet_wrapped w a (within_range S.retained r) (begin_builder S)) (λ Z. quiet_finish Z)

quiet_insert : (q : MemoKey) (r : CandidateRange) (S : State) → Quiet (memo_insert q r S)
unfolding memo_insert
quiet_insert q r S = says tt (says tt ends)

quiet_complete : (q : MemoKey) (r : CandidateRange) (S : State) → Quiet (complete_node q r S)
unfolding complete_node
quiet_complete q r S = quiet_bind (quiet_insert q r S) (λ Z. quiet_result r Z)

quiet_pending : (c : Scratch) (S : State) → Quiet (push_pending c S)
unfolding push_pending
quiet_pending c S = says tt ends

quiet_joined : (left : Candidate) (rights : List Candidate) (S : State) → Quiet (push_joined left rights S)
unfolding push_joined
quiet_joined left [] S = ends
quiet_joined left (r ∷ rs) S = quiet_bind (quiet_add left.cost r.cost) (λ x. quiet_bind (quiet_pending _ S) (λ Z. quiet_joined left rs Z))

quiet_build : (start : ℕ) (S : State) → Quiet (build_pending start S)
unfolding build_pending
quiet_build start S = quiet_bind (quiet_all (drop start S.pending) (begin_builder S)) (λ Z. quiet_finish _)

module _ (R : Rules) (P : Prepared) where
  quiet_text : (c w : ℕ) → Quiet (checked_text R P c w)
  unfolding checked_text
  quiet_text c w = says tt ends

  quiet_gaps : (indent s n : ℕ) (S : State) → Quiet (push_gaps R P indent s n S)
  unfolding push_gaps
  quiet_gaps indent s zero S = ends
  quiet_gaps indent s (suc n) S =
      quiet_bind (quiet_text _ 1) (λ x.
      quiet_bind (quiet_present _ (begin_builder S)) (λ Z.
      quiet_bind (quiet_present _ Z) (λ Y.
      quiet_bind (quiet_finish Y) (λ G.
      quiet_bind (quiet_joined _ _ G.state) (λ X. quiet_gaps indent (s + 1) n X)))))

  quiet_fill : (r : CandidateRange) (indent : ℕ) (S : State) → Quiet (fill_boundary R P r indent S)
  unfolding fill_boundary
  quiet_fill r indent S = quiet_bind (quiet_gaps indent r.start r.len S) (λ Z. quiet_build (length S.pending) Z)

  quiet_child : (x : Task) (q : MemoKey) (S : State) → Quiet (push_child R P x q S)
  unfolding push_child
  quiet_child x q S = quiet_bind (quiet_task x S) (λ Z. quiet_task (Eval q) Z)

  quiet_completed : (q : MemoKey) (c : Scratch) (S : State) → Quiet (complete_singleton R P q c S)
  unfolding complete_singleton
  quiet_completed q c S = quiet_bind (quiet_single c S) (λ G. quiet_complete q G.range G.state)

  quiet_empty : (q : MemoKey) (S : State) → Quiet (begin_empty R P q S)
  unfolding begin_empty
  quiet_empty q S = quiet_completed q _ S

  quiet_begin_text : (t : ℕ) (q : MemoKey) (S : State) → Quiet (begin_text R P t q S)
  unfolding begin_text
  quiet_begin_text t q S = quiet_bind (quiet_text q.column (P.table.texts t).width) (λ x. quiet_completed q _ S)

  quiet_newline : (q : MemoKey) (S : State) → Quiet (begin_newline R P q S)
  unfolding begin_newline
  quiet_newline q S = quiet_completed q _ S

  quiet_sequence : (ks : List ℕ) (q : MemoKey) (S : State) → Quiet (begin_sequence R P ks q S)
  unfolding begin_sequence
  quiet_sequence [] q S = quiet_empty q S
  quiet_sequence (k ∷ ks) q S = quiet_child _ _ S

  quiet_begin_union : (a b : ℕ) (q : MemoKey) (S : State) → Quiet (begin_union R P a b q S)
  unfolding begin_union
  quiet_begin_union a b q S = quiet_bind (quiet_child (CompleteUnion q) _ S) (λ Z. quiet_task _ Z)

  quiet_group : (k : ℕ) (o : Option ℕ) (q : MemoKey) (S : State) → Quiet (begin_group R P k o q S)
  unfolding begin_group
  quiet_group k (some f) q S = quiet_begin_union f k q S
  quiet_group k none q S = quiet_child _ _ S

  quiet_nest : (n k : ℕ) (q : MemoKey) (S : State) → Quiet (begin_nest R P n k q S)
  unfolding begin_nest
  quiet_nest n k q S = says tt (quiet_child _ _ S)

  quiet_skip : (n : ℕ) → Quiet (skip_choices R P n)
  unfolding skip_choices
  quiet_skip zero = ends
  quiet_skip (suc n) = says tt (quiet_skip n)

  quiet_alternatives : (ks : List ℕ) (q : MemoKey) (S : State) → Quiet (push_alternatives R P ks q S)
  unfolding push_alternatives
  quiet_alternatives [] q S = ends
  quiet_alternatives (k ∷ ks) q S = quiet_bind (quiet_alternatives ks q S) (λ Z. quiet_task _ Z)

  quiet_choice : (o : Option ExactChoice) (a b : ℕ) (q : MemoKey) (S : State) → Quiet (begin_choice R P o a b q S)
  unfolding begin_choice
  quiet_choice (some l) a b q S = quiet_bind (quiet_skip l.skipped) (λ u. quiet_bind (quiet_task (CompleteChoiceSet q (length S.results)) S) (λ Z. quiet_alternatives l.alternatives q Z))
  quiet_choice none a b q S = quiet_begin_union a b q S

  quiet_kind : (v : Node) (q : MemoKey) (S : State) → Quiet (begin_kind R P v q S)
  unfolding begin_kind
  quiet_kind Empty q S = quiet_empty q S
  quiet_kind (Text t) q S = quiet_begin_text t q S
  quiet_kind Break q S = quiet_newline q S
  quiet_kind HardLine q S = quiet_newline q S
  quiet_kind (Seq ks) q S = quiet_sequence ks q S
  quiet_kind (Fill ks) q S = quiet_sequence ks q S
  quiet_kind (Group k) q S = quiet_group k (P.table.flat k) q S
  quiet_kind (Nest n k) q S = quiet_nest n k q S
  quiet_kind (Align k) q S = quiet_child _ _ S
  quiet_kind (Choice a b) q S = quiet_choice (P.choices q.node) a b q S
  quiet_kind (Annotate a k) q S = quiet_child _ _ S
  quiet_kind (Penalty n k) q S = quiet_child _ _ S

  quiet_known : (l : MemoLookup) (q : MemoKey) (S : State) → Quiet (begin_known R P l q S)
  unfolding begin_known
  quiet_known (Found r) q S = says tt (quiet_result r S)
  quiet_known Nothing q S = says tt (quiet_kind (P.table.node q.node) q S)

  quiet_node : (q : MemoKey) (S : State) → Quiet (begin_node R P q S)
  unfolding begin_node
  quiet_node q S = quiet_known (lookup S.memo q) q S

  -- ---- the tasks

  quiet_alias : (q : MemoKey) (S : State) → Quiet (complete_alias R P q S)
  unfolding complete_alias
  quiet_alias q S = quiet_bind (quiet_pop S.results S) (λ G. quiet_complete q G.range G.state)

  quiet_complete_union : (q : MemoKey) (S : State) → Quiet (complete_union R P q S)
  unfolding complete_union
  quiet_complete_union q S =
      quiet_bind (quiet_pop S.results S) (λ a.
      quiet_bind (quiet_pop a.state.results a.state) (λ p.
      quiet_bind (quiet_union p.range a.range p.state) (λ G. quiet_complete q G.range G.state)))

  quiet_ranges : (rs : List CandidateRange) (S : State) → Quiet (present_ranges R P rs S)
  unfolding present_ranges
  quiet_ranges [] S = ends
  quiet_ranges (r ∷ rs) S = quiet_bind (quiet_ranges rs S) (λ Z. quiet_range r Z)

  quiet_set : (q : MemoKey) (start : ℕ) (S : State) → Quiet (complete_choice_set R P q start S)
  unfolding complete_choice_set
  quiet_set q start S = quiet_bind (quiet_ranges (take (length S.results - start) S.results) (begin_builder S)) (λ Z. quiet_bind (quiet_finish Z) (λ G. quiet_complete q G.range _))

  quiet_complete_wrapped : (q : MemoKey) (w : ℕ → PlanNode) (a : Cost) (S : State) → Quiet (complete_wrapped R P q w a S)
  unfolding complete_wrapped
  quiet_complete_wrapped q w a S = quiet_bind (quiet_pop S.results S) (λ c. quiet_bind (quiet_wrap c.range w a c.state) (λ G. quiet_complete q G.range G.state))

  quiet_right : (q : MemoKey) (x : ℕ) (r : CandidateRange) (o p : ℕ) (S : State) → Quiet (push_right R P q x r o p S)
  unfolding push_right
  quiet_right q x r o p S = quiet_child _ _ S

  quiet_gap : (v : Node) (r : CandidateRange) (indent : ℕ) (S : State) → Quiet (gap_if_fill R P v r indent S)
  unfolding gap_if_fill
  quiet_gap (Fill ks) r indent S = quiet_fill r indent S
  quiet_gap Empty r indent S = ends
  quiet_gap Break r indent S = ends
  quiet_gap HardLine r indent S = ends
  quiet_gap (Text t) r indent S = ends
  quiet_gap (Seq ks) r indent S = ends
  quiet_gap (Group k) r indent S = ends
  quiet_gap (Align k) r indent S = ends
  quiet_gap (Nest n k) r indent S = ends
  quiet_gap (Choice a b) r indent S = ends
  quiet_gap (Annotate a k) r indent S = ends
  quiet_gap (Penalty n k) r indent S = ends

  quiet_next_child : (t : Bool) (q : MemoKey) (x : ℕ) (r : CandidateRange) (S : State) → Quiet (next_child R P t q x r S)
  unfolding next_child
  quiet_next_child false q x r S = quiet_complete q r S
  quiet_next_child true q x r S = quiet_bind (quiet_gap (P.table.node q.node) r q.indent S) (λ G. quiet_right q x G.range 0 (length G.state.pending) G.state)

  quiet_continue : (q : MemoKey) (x : ℕ) (S : State) → Quiet (continue_sequence R P q x S)
  unfolding continue_sequence
  quiet_continue q x S = quiet_bind (quiet_pop S.results S) (λ a. quiet_next_child _ q x a.range a.state)

  quiet_next_left : (t : Bool) (q : MemoKey) (x : ℕ) (r : CandidateRange) (o p : ℕ) (S : State) → Quiet (next_left R P t q x r o p S)
  unfolding next_left
  quiet_next_left true q x r o p S = quiet_right q x r (o + 1) p S
  quiet_next_left false q x r o p S = quiet_bind (quiet_build p S) (λ G. quiet_bind (quiet_task (ContinueSequence q (x + 1)) G.state) (λ Z. quiet_result G.range Z))

  quiet_sequence_right : (q : MemoKey) (x : ℕ) (r : CandidateRange) (o p : ℕ) (S : State) → Quiet (complete_sequence_right R P q x r o p S)
  unfolding complete_sequence_right
  quiet_sequence_right q x r o p S = quiet_bind (quiet_pop S.results S) (λ g. quiet_bind (quiet_joined _ _ g.state) (λ Z. quiet_next_left _ q x r o p Z))

  quiet_execute : (x : Task) (S : State) → Quiet (execute_task R P x S)
  unfolding execute_task
  quiet_execute (Eval q) S = quiet_node q S
  quiet_execute (CompleteAlias q) S = quiet_alias q S
  quiet_execute (CompleteUnion q) S = quiet_complete_union q S
  quiet_execute (CompleteChoiceSet q n) S = quiet_set q n S
  quiet_execute (CompleteAnnotate q a) S = quiet_complete_wrapped q _ _ S
  quiet_execute (CompletePenalty q n) S = quiet_complete_wrapped q _ _ S
  quiet_execute (ContinueSequence q n) S = quiet_continue q n S
  quiet_execute (CompleteSequenceRight q n r o p) S = quiet_sequence_right q n r o p S

  quiet_step_on : (ts : List Task) (S : State) → Quiet (step_on R P ts S)
  quiet_step_on [] S = ends
  quiet_step_on (x ∷ ts) S = quiet_execute x _

  quiet_step : (S : State) → Quiet (step R P S)
  unfolding step
  quiet_step S = quiet_step_on S.tasks S

  -- ---- all of them

  module _ (ev : State → Prog State) (q : (S : State) → Quiet (ev S)) where
    quiet_rights : (g : ℕ) (S : State) → Quiet (rights R P ev g S)
    unfolding rights
    quiet_rights zero S = quiet_step S
    quiet_rights (suc g) S = quiet_bind (quiet_step S) (λ Z. quiet_bind (q Z) (λ Y. quiet_rights g Y))

    quiet_continued : (k : ℕ) (S : State) → Quiet (continued R P ev k S)
    unfolding continued
    quiet_continued zero S = quiet_step S
    quiet_continued (suc k) S = quiet_bind (quiet_step S) (λ Z. quiet_bind (q Z) (λ Y. quiet_bind (quiet_rights _ Y) (λ X. quiet_continued k X)))

    quiet_work : (ts : List Task) (S : State) → Quiet (work_off R P ev ts S)
    unfolding work_off
    quiet_work [] S = ends
    quiet_work (Eval k ∷ ts) S = q S
    quiet_work (CompleteAlias k ∷ ts) S = quiet_step S
    quiet_work (CompleteUnion k ∷ ts) S = quiet_step S
    quiet_work (CompleteChoiceSet k n ∷ ts) S = quiet_step S
    quiet_work (CompleteAnnotate k n ∷ ts) S = quiet_step S
    quiet_work (CompletePenalty k n ∷ ts) S = quiet_step S
    quiet_work (ContinueSequence k n ∷ ts) S = quiet_continued _ S
    quiet_work (CompleteSequenceRight k n r o p ∷ ts) S = quiet_bind (quiet_rights _ S) (λ Z. quiet_continued _ Z)

    quiet_work_all : (k : ℕ) (S : State) → Quiet (work_off_all R P ev k S)
    unfolding work_off_all
    quiet_work_all zero S = ends
    quiet_work_all (suc k) S = quiet_bind (quiet_work S.tasks S) (λ Z. quiet_work_all k Z)

  quiet_evaluated : (f : ℕ) (S : State) → Quiet (evaluated R P f S)
  unfolding evaluated
  quiet_evaluated zero S = says tt ends
  quiet_evaluated (suc f) S = quiet_bind (quiet_step S) (λ Z. quiet_work_all (evaluated R P f) (λ Y. quiet_evaluated f Y) _ Z)

  quiet_rest : (S : State) → Quiet (rest R P S)
  unfolding rest
  quiet_rest S = quiet_work_all (evaluated R P P.depth) (λ Y. quiet_evaluated P.depth Y) (length S.tasks) S

  quiet_tasks : Quiet (solve_tasks R P)
  unfolding solve_tasks
  quiet_tasks = quiet_bind (quiet_task (Eval (memo_key P.root 0 0)) blank_state) (λ Z. quiet_rest Z)

  quiet_best_of : (cs : List Candidate) (S : State) → Quiet (best_of cs S)
  quiet_best_of [] S = says tt ends
  quiet_best_of (c ∷ cs) S = says tt ends

  quiet_best : (S : State) → Quiet (take_best R P S)
  unfolding take_best
  quiet_best S = quiet_bind (quiet_pop S.results S) (λ G. quiet_best_of (within_range G.state.retained G.range) G.state)

  quiet_solve : Quiet (solve R P)
  unfolding solve
  quiet_solve = quiet_bind quiet_tasks (λ S. quiet_best S)

  -- the solver makes no visits
  pub unvisited : (b : Bounds) (k : Counts) {j : Counts} {a : Solved} → run b k (solve R P) ≡ done j a → j.visits ≡ k.visits
  unvisited b k e = quiet_run b k (solve R P) quiet_solve e

  -- and needs no output and no spans
  pub no_output : peak output (solve R P) ≡ 0
  no_output = quiet_peak output (omega arith) quiet_solve

  pub no_spans : peak spans (solve R P) ≡ 0
  no_spans = quiet_peak spans (omega arith) quiet_solve
