-- Each step has an event, so the events that are left fall.
use Rattle.std.specs.Prelude.{ℕ, ◌+◌, ◌-◌, ◌<◌, Bool, ◌≡◌, ltb, length, take, drop, get_or}
use native.Mathlib.Omega.{arith}
use Rattle.std.proofs.Math.Bool.{true, false}
use mathlib.Core.List.{List, ◌∷◌}
use Rattle.std.proofs.Common.{sym, ap}
use Rattle.std.proofs.Math.Path.{subst}
use Rattle.cost.specs.Cost.{Cost, zero_cost}
use Rattle.cost.specs.Charge.{penalty_cost}
use Rattle.memo.specs.declared.MemoKey.{MemoKey}
use Rattle.memo.specs.declared.CandidateRange.{CandidateRange}
use Rattle.std.specs.Prelude.{Some as Found, None as Nothing}
use Rattle.memo.specs.Entries.{MemoLookup, lookup}
use Rattle.layout.specs.Document.{Doc}
use Rattle.layout.specs.Rules.{Rules}
use Rattle.layout.specs.Table.{Reads as ReadsAs}
use Rattle.machine.specs.Events.{Prog, ◌>>=◌}
use Rattle.machine.specs.Programs.{value, events, events_bind}
use Rattle.machine.specs.Model.{Prepared, children, PlanNode, PlanAnnotate, PlanPenalty, no_candidate, within_range, Task, Eval, CompleteAlias, CompleteUnion, CompleteChoiceSet, CompleteAnnotate, CompletePenalty, ContinueSequence, CompleteSequenceRight, State, with_tasks, with_results, Got}
use Rattle.machine.specs.Solver.{push_exact_task, push_exact_result, pop_exact_result, begin_builder, finish_builder, union_ranges, wrap_range, push_joined, build_pending, present_ranges, gap_if_fill, push_child, complete_node, memo_insert, begin_known, begin_node, complete_alias, complete_union, complete_choice_set, complete_wrapped, push_right, next_child, continue_sequence, next_left, complete_sequence_right, execute_task, step, step_on}
use Rattle.machine.specs.Solve.{rest}
use Rattle.machine_right.specs.Fronts.{Front}
use Rattle.machine_right.specs.Ready.{Ready}
use Rattle.machine_right.specs.Sound.{Inv}
use Rattle.machine_right.specs.Rest.{rest_step}

-- it has an event
pub record Busy {A : Type 0} (m : Prog A) : Type 0 where
  pub some_event : 0 < events m

then_busy : {A B : Type 0} (m : Prog A) {f : A → Prog B} → ((a : A) → Busy (f a)) → Busy (m >>= f)
then_busy m {f} h = record { some_event = omega (arith, events_bind m f, (h (value m)).some_event) }

first_busy : {A B : Type 0} (m : Prog A) (f : A → Prog B) → Busy m → Busy (m >>= f)
first_busy m f h = record { some_event = omega (arith, events_bind m f, h.some_event) }

task_busy : (x : Task) (S : State) → Busy (push_exact_task x S)
unfolding push_exact_task
task_busy x S = record { some_event = omega arith }

complete_busy : (q : MemoKey) (r : CandidateRange) (S : State) → Busy (complete_node q r S)
unfolding complete_node memo_insert
complete_busy q r S = record { some_event = omega arith }

module _ (R : Rules) (P : Prepared) where
  right_busy : (q : MemoKey) (x : ℕ) (acc : CandidateRange) (o start : ℕ) (S : State) → Busy (push_right R P q x acc o start S)
  unfolding push_right push_child push_exact_task
  right_busy q x acc o start S = record { some_event = omega arith }

  known_busy : (o : MemoLookup) (q : MemoKey) (S : State) → Busy (begin_known R P o q S)
  unfolding begin_known
  known_busy (Found r) q S = record { some_event = omega arith }
  known_busy Nothing q S = record { some_event = omega arith }

  child_busy : (t : Bool) (q : MemoKey) (x : ℕ) (r : CandidateRange) (S : State) → Busy (next_child R P t q x r S)
  unfolding next_child
  child_busy false q x r S = complete_busy q r S
  child_busy true q x r S = then_busy (gap_if_fill R P (P.table.node q.node) r q.indent S) (λ G. right_busy q x G.range 0 (length G.state.pending) G.state)

  left_busy : (t : Bool) (q : MemoKey) (x : ℕ) (acc : CandidateRange) (o start : ℕ) (S : State) → Busy (next_left R P t q x acc o start S)
  unfolding next_left
  left_busy true q x acc o start S = right_busy q x acc (o + 1) start S
  left_busy false q x acc o start S = then_busy (build_pending start S) (λ G. first_busy (push_exact_task (ContinueSequence q (x + 1)) G.state) (push_exact_result G.range) (task_busy (ContinueSequence q (x + 1)) G.state))

  -- what ends in the completion of a node
  ending_busy : (q : MemoKey) (m : Prog Got) → Busy (m >>= (λ G. complete_node q G.range G.state))
  ending_busy q m = then_busy m (λ G. complete_busy q G.range G.state)

  set_busy : (q : MemoKey) (rs : List CandidateRange) (m : Prog Got) → Busy (m >>= (λ G. complete_node q G.range (with_results rs G.state)))
  set_busy q rs m = then_busy m (λ G. complete_busy q G.range (with_results rs G.state))

  wrapped_busy : (q : MemoKey) (wrapper : ℕ → PlanNode) (additional : Cost) (S : State) → Busy (complete_wrapped R P q wrapper additional S)
  unfolding complete_wrapped
  wrapped_busy q wrapper additional S = then_busy (pop_exact_result S) (λ A. ending_busy q (wrap_range A.range wrapper additional A.state))

  execute_busy : (x : Task) (S : State) → Busy (execute_task R P x S)
  unfolding execute_task begin_node complete_alias complete_union complete_choice_set continue_sequence complete_sequence_right
  execute_busy (Eval q) S = known_busy (lookup S.memo q) q S
  execute_busy (CompleteAlias q) S = ending_busy q (pop_exact_result S)
  execute_busy (CompleteUnion q) S = then_busy (pop_exact_result S) (λ A. then_busy (pop_exact_result A.state) (λ B. ending_busy q (union_ranges B.range A.range B.state)))
  execute_busy (CompleteChoiceSet q n) S =
      then_busy (present_ranges R P (take (length S.results - n) S.results) (begin_builder S)) (λ S₁. set_busy q (drop (length S.results - n) S.results) (finish_builder S₁))
  execute_busy (CompleteAnnotate q n) S = wrapped_busy q (PlanAnnotate n) zero_cost S
  execute_busy (CompletePenalty q n) S = wrapped_busy q (PlanPenalty n) (penalty_cost n) S
  execute_busy (ContinueSequence q x) S = then_busy (pop_exact_result S) (λ G. child_busy (ltb x (length (children (P.table.node q.node)))) q x G.range G.state)
  execute_busy (CompleteSequenceRight q x acc o start) S =
      then_busy (pop_exact_result S) (λ A. then_busy (push_joined (get_or A.state.retained (acc.start + o) no_candidate) (within_range A.state.retained A.range) A.state)
      (λ S₁. left_busy (ltb (o + 1) acc.len) q x acc o start S₁))

  pub step_busy : (x : Task) (ts : List Task) (S : State) → S.tasks ≡ x ∷ ts → Busy (step R P S)
  unfolding step
  step_busy x ts S e = subst (λ (z : List Task). Busy (step_on R P z S)) (sym e) (execute_busy x (with_tasks ts S))

-- the loop's measure: events left
abbrev pub left : Rules → Prepared → State → ℕ
left R P S = events (rest R P S)

module _ (R : Rules) (P : Prepared) (D : ℕ → Doc) (goal : Front) (K : Ready P) (reads : ReadsAs P.table D) where
  pub falls : (x : Task) (ts : List Task) (S : State) → S.tasks ≡ x ∷ ts → Inv R P D goal S → left R P (value (step R P S)) < left R P S
  falls x ts S e i =
      omega (arith, (step_busy R P x ts S e).some_event, events_bind (step R P S) (rest R P), ap events (rest_step R P D goal K reads x ts S e i))
