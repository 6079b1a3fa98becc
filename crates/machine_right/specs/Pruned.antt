-- At every stop and at the end, no more candidates are pruned than were generated: those pruned and those in the builder were all presented.
use Prim.Native.Nat.{ℕ, zero, suc, ◌+◌, ◌-◌, ◌≤◌}
use native.Mathlib.Omega.{arith}
use Rattle.std.specs.Prelude.{Bool, not, cond, length, take}
use Rattle.std.proofs.Math.Bool.{true, false}
use Rattle.std.proofs.Math.Option.{Option, none, some}
use mathlib.Core.List.{List, [], ◌∷◌, ◌++◌}
use Rattle.std.proofs.Common.{length-append}
use Rattle.cost.specs.Cost.{Cost, zero_cost}
use Rattle.cost.specs.Charge.{penalty_cost}
use Rattle.memo.specs.declared.MemoKey.{MemoKey}
use Rattle.memo.specs.declared.CandidateRange.{CandidateRange}
use Rattle.std.specs.Prelude.{Some as Found, None as Nothing}
use Rattle.memo.specs.Entries.{MemoLookup, lookup}
use Rattle.layout.specs.Rules.{Rules}
use Rattle.layout.specs.Layout.{Plan, blank, put, line, join, mark, fee, page}
use Rattle.layout.specs.Table.{Node, Empty, Break, HardLine, Text, Seq, Fill, Group, Align, Nest, Choice, Annotate, Penalty}
use Rattle.layout.specs.Frontier.{covers, any, keep, cons_if}
use Rattle.layout.specs.Frontier.{present as presented}
use Rattle.machine.specs.Events.{Bounds, Counts, no_counts, Event, Need, Visit, Generated, Pruned, Kind, passes, counted, why, needed, bare, Prog, ret, emit, ◌>>=◌, Out, done, stop, run}
use Rattle.machine.specs.Balance.{counts_of, counts_in}
use Rattle.machine.specs.Model.{Prepared, ExactChoice, PlanNode, PlanAnnotate, PlanPenalty, Candidate, Scratch, within_range}
use Rattle.machine.specs.Model.{Task, Eval, CompleteAlias, CompleteUnion, CompleteChoiceSet, CompleteAnnotate, CompletePenalty, ContinueSequence, CompleteSequenceRight, State, blank_state, with_tasks, Got}
use Rattle.machine.specs.Solver.{push_exact_task, push_exact_result, push_pending, popped, pop_exact_result, checked_add, present, present_all, ranked, begin_builder, finish_builder, singleton, present_range, union_ranges, present_wrapped, wrap_range, memo_insert, complete_node, push_joined, build_pending}
use Rattle.machine.specs.Solver.{checked_text, push_gaps, fill_boundary, push_child, complete_singleton, begin_empty, begin_text, begin_newline, begin_sequence, begin_union, begin_group, begin_nest, skip_choices, push_alternatives, begin_choice, begin_kind, begin_known, begin_node}
use Rattle.machine.specs.Solver.{complete_alias, complete_union, present_ranges, complete_choice_set, complete_wrapped, push_right, gap_if_fill, next_child, continue_sequence, next_left, complete_sequence_right, execute_task, step, step_on}
use Rattle.machine.specs.Solve.{lefts_of, rights, continued, work_off, work_off_all, evaluated, rest, Solved, best_of, solve_tasks, take_best, solve}
use Rattle.machine.specs.Materializer.{marks, append_each, visit_plan, materialize, Rendered, render}
use Rattle.machine.specs.Answer.{answer, answer_of}

pub record Fair (k : Counts) : Type 0 where
  pub fewer : k.candidates_pruned ≤ k.candidates_generated

-- fair at each event, and W at the end
pub data Along {A : Type 0} (W : Counts → A → Type 0) : Counts → Prog A → Type 0 where
  ends : {k : Counts} {a : A} → W k a → Along W k (ret a)
  goes : {k : Counts} {e : Event} {p : Prog A} → Fair k → Along W (counted k e) p → Along W k (emit e p)

along : {A B : Type 0} {W : Counts → A → Type 0} {Q : Counts → B → Type 0} {k : Counts} {m : Prog A} {f : A → Prog B} → Along W k m → ((j : Counts) (a : A) → W j a → Along Q j (f a)) → Along Q k (m >>= f)
along (ends w) h = h _ _ w
along (goes f p) h = goes f (along p h)

fair_run : {A : Type 0} {W : Counts → A → Type 0} (b : Bounds) {k : Counts} {m : Prog A} → ((j : Counts) (a : A) → W j a → Fair j) → Along W k m → Fair (counts_of (run b k m))
fair_run b h (ends w) = h _ _ w
fair_run b {k} h (goes {e = e} {p = p} f q) = go (passes b k e) (fair_run b h q)
  where
    go : (t : Bool) → Fair (counts_of (run b (counted k e) p)) → Fair (counts_of (cond t (run b (counted k e) p) (stop (why e) (needed e) (bare k))))
    go true r = r
    go false r = record { fewer = f.fewer }

abbrev FairEnd : {A : Type 0} → Counts → A → Type 0
FairEnd k a = Fair k

-- those pruned and those in the builder were generated
record Held (k : Counts) (S : State) : Type 0 where
  pub held : k.candidates_pruned + length S.builder ≤ k.candidates_generated

abbrev HeldIn : Counts → Got → Type 0
HeldIn k G = Held k G.state

abbrev Holding : {A : Type 0} → State → Counts → A → Type 0
Holding S k a = Held k S

fair : {k : Counts} {S : State} → Held k S → Fair k
fair h = record { fewer = omega (arith, h.held) }

-- a program on states keeps it
abbrev Keeps : (State → Prog State) → Type 0
Keeps f = (k : Counts) (S : State) → Held k S → Along Held k (f S)

abbrev Gets : (State → Prog Got) → Type 0
Gets f = (k : Counts) (S : State) → Held k S → Along HeldIn k (f S)

task_keeps : (x : Task) → Keeps (push_exact_task x)
unfolding push_exact_task
task_keeps x k S h = goes (fair h) (ends (record { held = h.held }))

result_keeps : (r : CandidateRange) → Keeps (push_exact_result r)
unfolding push_exact_result
result_keeps r k S h = goes (fair h) (ends (record { held = h.held }))

pending_keeps : (c : Scratch) → Keeps (push_pending c)
unfolding push_pending
pending_keeps c k S h = goes (fair h) (ends (record { held = h.held }))

popped_gets : (l : List CandidateRange) → Gets (popped l)
popped_gets [] k S h = goes (fair h) (ends h)
popped_gets (r ∷ rs) k S h = ends (record { held = h.held })

pop_gets : Gets pop_exact_result
pop_gets k S h = popped_gets S.results k S h

add_keeps : (a b : Cost) (k : Counts) (S : State) → Held k S → Along (Holding {A = Cost} S) k (checked_add a b)
unfolding checked_add
add_keeps a b k S h = goes (fair h) (goes (fair h) (ends h))

-- ---- the builder

keep_length : (f : Scratch → Bool) (l : List Scratch) → length (keep f l) ≤ length l
keep_length f [] = omega arith
keep_length f (x ∷ l) = go (f x) (keep_length f l)
  where
    go : (t : Bool) → length (keep f l) ≤ length l → length (cons_if t x (keep f l)) ≤ suc (length l)
    go true h = omega arith
    go false h = omega arith

present_length : (l : List Scratch) (x : Scratch) → length (presented covers l x) ≤ length l + 1
unfolding presented
present_length l x = go (any (λ k. covers k x) l)
  where
    go : (t : Bool) → length (cond t l (keep (λ k. not (covers x k)) l ++ (x ∷ []))) ≤ length l + 1
    go true = omega arith
    go false = omega (arith, keep_length (λ k. not (covers x k)) l, length-append (keep (λ k. not (covers x k)) l) (x ∷ []))

present_keeps : (c : Scratch) → Keeps (present c)
unfolding present
present_keeps c k S h =
    let n : length (presented covers S.builder (ranked S.generated c)) ≤ length S.builder + 1 = present_length S.builder (ranked S.generated c) in
    let k₁ = counted k Generated in
    let k₂ = counted k₁ (Pruned (length S.builder + 1 - length (presented covers S.builder (ranked S.generated c)))) in
    let f₁ : Fair k₁ = record { fewer = omega (arith, h.held) } in
    let f₂ : Fair k₂ = record { fewer = omega (arith, h.held, n) } in
    let h₂ : k₂.candidates_pruned + length (presented covers S.builder (ranked S.generated c)) ≤ k₂.candidates_generated = omega (arith, h.held, n) in
    goes (fair h) (goes f₁ (goes f₂ (ends (record { held = h₂ }))))

present_all_keeps : (cs : List Scratch) → Keeps (present_all cs)
unfolding present_all
present_all_keeps [] k S h = ends h
present_all_keeps (c ∷ cs) k S h = along (present_keeps c k S h) (λ j S₁ h₁. present_all_keeps cs j S₁ h₁)

begun : {k : Counts} {S : State} → Held k S → Held k (begin_builder S)
begun h = record { held = omega (arith, h.held) }

finish_gets : Gets finish_builder
unfolding finish_builder
finish_gets k S h = goes (fair h) (goes (record { fewer = (fair h).fewer }) (goes (record { fewer = (fair h).fewer }) (ends (record { held = h.held }))))

range_keeps : (r : CandidateRange) → Keeps (present_range r)
unfolding present_range
range_keeps r k S h = present_all_keeps _ k S h

single_gets : (c : Scratch) → Gets (singleton c)
unfolding singleton
single_gets c k S h = along (present_keeps c k _ (begun h)) finish_gets

union_gets : (x y : CandidateRange) → Gets (union_ranges x y)
unfolding union_ranges
union_gets x y k S h = along (range_keeps x k _ (begun h)) (λ j S₁ h₁. along (range_keeps y j S₁ h₁) finish_gets)

wrapped_keeps : (w : ℕ → PlanNode) (a : Cost) (cs : List Candidate) → Keeps (present_wrapped w a cs)
unfolding present_wrapped
wrapped_keeps w a [] k S h = ends h
wrapped_keeps w a (c ∷ cs) k S h = along (add_keeps c.cost a k S h) (λ j cost h₁. along (present_keeps _ j S h₁) (λ i S₁ h₂. wrapped_keeps w a cs i S₁ h₂))

wrap_gets : (r : CandidateRange) (w : ℕ → PlanNode) (a : Cost) → Gets (wrap_range r w a)
unfolding wrap_range
wrap_gets r w a k S h = along (wrapped_keeps w a _ k _ (begun h)) finish_gets

complete_keeps : (q : MemoKey) (r : CandidateRange) → Keeps (complete_node q r)
unfolding complete_node memo_insert push_exact_result
complete_keeps q r k S h = goes (fair h) (goes (record { fewer = (fair h).fewer }) (goes (record { fewer = (fair h).fewer }) (ends (record { held = h.held }))))

joined_keeps : (l : Candidate) (cs : List Candidate) → Keeps (push_joined l cs)
unfolding push_joined
joined_keeps l [] k S h = ends h
joined_keeps l (c ∷ cs) k S h = along (add_keeps l.cost c.cost k S h) (λ j cost h₁. along (pending_keeps _ j S h₁) (λ i S₁ h₂. joined_keeps l cs i S₁ h₂))

build_gets : (start : ℕ) → Gets (build_pending start)
unfolding build_pending
build_gets start k S h = along (present_all_keeps _ k _ (begun h)) (λ j S₁ h₁. finish_gets j _ (record { held = h₁.held }))

-- a range's state is completed
ended : (q : MemoKey) (j : Counts) (G : Got) → HeldIn j G → Along Held j (complete_node q G.range G.state)
ended q j G h = complete_keeps q G.range j G.state h

module _ (R : Rules) (P : Prepared) where
  text_keeps : (c w : ℕ) (k : Counts) (S : State) → Held k S → Along (Holding {A = Cost} S) k (checked_text R P c w)
  unfolding checked_text
  text_keeps c w k S h = goes (fair h) (ends h)

  gaps_keeps : (i s n : ℕ) → Keeps (push_gaps R P i s n)
  unfolding push_gaps
  gaps_keeps i s zero k S h = ends h
  gaps_keeps i s (suc n) k S h =
      along (text_keeps _ 1 k S h) (λ j cost h₁. along (present_keeps _ j _ (begun h₁)) (λ j₂ S₁ h₂. along (present_keeps _ j₂ S₁ h₂) (λ j₃ S₂ h₃.
      along (finish_gets j₃ S₂ h₃) (λ j₄ G h₄. along (joined_keeps _ _ j₄ G.state h₄) (λ j₅ S₃ h₅. gaps_keeps i (s + 1) n j₅ S₃ h₅)))))

  fill_gets : (r : CandidateRange) (i : ℕ) → Gets (fill_boundary R P r i)
  unfolding fill_boundary
  fill_gets r i k S h = along (gaps_keeps i r.start r.len k S h) (λ j S₁ h₁. build_gets (length S.pending) j S₁ h₁)

  -- ---- begin_node

  child_keeps : (t : Task) (q : MemoKey) → Keeps (push_child R P t q)
  unfolding push_child
  child_keeps t q k S h = along (task_keeps t k S h) (λ j S₁ h₁. task_keeps (Eval q) j S₁ h₁)

  single_keeps : (q : MemoKey) (c : Scratch) → Keeps (complete_singleton R P q c)
  unfolding complete_singleton
  single_keeps q c k S h = along (single_gets c k S h) (ended q)

  union_begins : (a b : ℕ) (q : MemoKey) → Keeps (begin_union R P a b q)
  unfolding begin_union
  union_begins a b q k S h = along (child_keeps _ _ k S h) (λ j S₁ h₁. task_keeps _ j S₁ h₁)

  sequence_begins : (ks : List ℕ) (q : MemoKey) → Keeps (begin_sequence R P ks q)
  unfolding begin_sequence begin_empty
  sequence_begins [] q k S h = single_keeps q _ k S h
  sequence_begins (c ∷ cs) q k S h = child_keeps _ _ k S h

  group_begins : (c : ℕ) (o : Option ℕ) (q : MemoKey) → Keeps (begin_group R P c o q)
  unfolding begin_group
  group_begins c none q k S h = child_keeps _ _ k S h
  group_begins c (some f) q k S h = union_begins f c q k S h

  skip_keeps : (n : ℕ) (k : Counts) (S : State) → Held k S → Along (Holding {A = Unit {0}} S) k (skip_choices R P n)
  unfolding skip_choices
  skip_keeps zero k S h = ends h
  skip_keeps (suc n) k S h = goes (fair h) (skip_keeps n _ S (record { held = h.held }))

  alternatives_keep : (ns : List ℕ) (q : MemoKey) → Keeps (push_alternatives R P ns q)
  unfolding push_alternatives
  alternatives_keep [] q k S h = ends h
  alternatives_keep (n ∷ ns) q k S h = along (alternatives_keep ns q k S h) (λ j S₁ h₁. task_keeps _ j S₁ h₁)

  choice_begins : (o : Option ExactChoice) (a b : ℕ) (q : MemoKey) → Keeps (begin_choice R P o a b q)
  unfolding begin_choice
  choice_begins none a b q k S h = union_begins a b q k S h
  choice_begins (some l) a b q k S h = along (skip_keeps l.skipped k S h) (λ j u h₁. along (task_keeps _ j S h₁) (λ i S₁ h₂. alternatives_keep l.alternatives q i S₁ h₂))

  kind_begins : (v : Node) (q : MemoKey) → Keeps (begin_kind R P v q)
  unfolding begin_kind begin_empty begin_text begin_newline begin_nest
  kind_begins Empty q k S h = single_keeps q _ k S h
  kind_begins (Text t) q k S h = along (text_keeps _ _ k S h) (λ j cost h₁. single_keeps q _ j S h₁)
  kind_begins Break q k S h = single_keeps q _ k S h
  kind_begins HardLine q k S h = single_keeps q _ k S h
  kind_begins (Seq ks) q k S h = sequence_begins ks q k S h
  kind_begins (Fill ks) q k S h = sequence_begins ks q k S h
  kind_begins (Group c) q k S h = group_begins c (P.table.flat c) q k S h
  kind_begins (Nest n c) q k S h = goes (fair h) (child_keeps _ _ k S h)
  kind_begins (Align c) q k S h = child_keeps _ _ k S h
  kind_begins (Choice a b) q k S h = choice_begins (P.choices q.node) a b q k S h
  kind_begins (Annotate a c) q k S h = child_keeps _ _ k S h
  kind_begins (Penalty n c) q k S h = child_keeps _ _ k S h

  known_begins : (o : MemoLookup) (q : MemoKey) → Keeps (begin_known R P o q)
  unfolding begin_known
  known_begins (Found r) q k S h = goes (fair h) (result_keeps r _ S (record { held = h.held }))
  known_begins Nothing q k S h = goes (fair h) (kind_begins (P.table.node q.node) q _ S (record { held = h.held }))

  -- ---- execute_task

  ranges_keep : (rs : List CandidateRange) → Keeps (present_ranges R P rs)
  unfolding present_ranges
  ranges_keep [] k S h = ends h
  ranges_keep (r ∷ rs) k S h = along (ranges_keep rs k S h) (λ j S₁ h₁. range_keeps r j S₁ h₁)

  wrapped_ends : (q : MemoKey) (w : ℕ → PlanNode) (a : Cost) → Keeps (complete_wrapped R P q w a)
  unfolding complete_wrapped
  wrapped_ends q w a k S h = along (pop_gets k S h) (λ j G h₁. along (wrap_gets G.range w a j G.state h₁) (ended q))

  right_keeps : (q : MemoKey) (x : ℕ) (acc : CandidateRange) (o start : ℕ) → Keeps (push_right R P q x acc o start)
  unfolding push_right
  right_keeps q x acc o start k S h = child_keeps _ _ k S h

  gap_gets : (v : Node) (r : CandidateRange) (i : ℕ) → Gets (gap_if_fill R P v r i)
  unfolding gap_if_fill
  gap_gets Empty r i k S h = ends h
  gap_gets Break r i k S h = ends h
  gap_gets HardLine r i k S h = ends h
  gap_gets (Text t) r i k S h = ends h
  gap_gets (Seq ks) r i k S h = ends h
  gap_gets (Group c) r i k S h = ends h
  gap_gets (Align c) r i k S h = ends h
  gap_gets (Nest n c) r i k S h = ends h
  gap_gets (Choice a b) r i k S h = ends h
  gap_gets (Annotate a c) r i k S h = ends h
  gap_gets (Penalty n c) r i k S h = ends h
  gap_gets (Fill ks) r i k S h = fill_gets r i k S h

  child_next : (t : Bool) (q : MemoKey) (x : ℕ) (r : CandidateRange) → Keeps (next_child R P t q x r)
  unfolding next_child
  child_next false q x r k S h = complete_keeps q r k S h
  child_next true q x r k S h = along (gap_gets (P.table.node q.node) r q.indent k S h) (λ j G h₁. right_keeps q x G.range 0 _ j G.state h₁)

  left_next : (t : Bool) (q : MemoKey) (x : ℕ) (acc : CandidateRange) (o start : ℕ) → Keeps (next_left R P t q x acc o start)
  unfolding next_left
  left_next true q x acc o start k S h = right_keeps q x acc (o + 1) start k S h
  left_next false q x acc o start k S h = along (build_gets start k S h) (λ j G h₁. along (task_keeps _ j G.state h₁) (λ i S₁ h₂. result_keeps G.range i S₁ h₂))

  execute_keeps : (x : Task) → Keeps (execute_task R P x)
  unfolding execute_task begin_node complete_alias complete_union complete_choice_set continue_sequence complete_sequence_right
  execute_keeps (Eval q) k S h = known_begins (lookup S.memo q) q k S h
  execute_keeps (CompleteAlias q) k S h = along (pop_gets k S h) (ended q)
  execute_keeps (CompleteUnion q) k S h = along (pop_gets k S h) (λ j A h₁. along (pop_gets j A.state h₁) (λ i B h₂. along (union_gets B.range A.range i B.state h₂) (ended q)))
  execute_keeps (CompleteChoiceSet q n) k S h =
      along (ranges_keep (take (length S.results - n) S.results) k _ (begun h)) (λ j S₁ h₁. along (finish_gets j S₁ h₁) (λ i G h₂. complete_keeps q G.range i _ (record { held = h₂.held })))
  execute_keeps (CompleteAnnotate q n) k S h = wrapped_ends q (PlanAnnotate n) zero_cost k S h
  execute_keeps (CompletePenalty q n) k S h = wrapped_ends q (PlanPenalty n) (penalty_cost n) k S h
  execute_keeps (ContinueSequence q x) k S h = along (pop_gets k S h) (λ j G h₁. child_next _ q x G.range j G.state h₁)
  execute_keeps (CompleteSequenceRight q x acc o start) k S h = along (pop_gets k S h) (λ j G h₁. along (joined_keeps _ _ j G.state h₁) (λ i S₁ h₂. left_next _ q x acc o start i S₁ h₂))

  step_keeps : Keeps (step R P)
  unfolding step
  step_keeps k S h = go S.tasks
    where
      go : (ts : List Task) → Along Held k (step_on R P ts S)
      go [] = ends h
      go (x ∷ ts) = execute_keeps x k (with_tasks ts S) (record { held = h.held })

  -- ---- the run

  module _ (ev : State → Prog State) (H : Keeps ev) where
    rights_keep : (g : ℕ) → Keeps (rights R P ev g)
    unfolding rights
    rights_keep zero k S h = step_keeps k S h
    rights_keep (suc g) k S h = along (step_keeps k S h) (λ j S₁ h₁. along (H j S₁ h₁) (λ i S₂ h₂. rights_keep g i S₂ h₂))

    continued_keep : (c : ℕ) → Keeps (continued R P ev c)
    unfolding continued
    continued_keep zero k S h = step_keeps k S h
    continued_keep (suc c) k S h =
        along (step_keeps k S h) (λ j S₁ h₁. along (H j S₁ h₁) (λ i S₂ h₂. along (rights_keep (lefts_of S₂.tasks) i S₂ h₂) (λ l S₃ h₃. continued_keep c l S₃ h₃)))

    off_keeps : (ts : List Task) → Keeps (work_off R P ev ts)
    unfolding work_off
    off_keeps [] k S h = ends h
    off_keeps (Eval q ∷ ts) k S h = H k S h
    off_keeps (CompleteAlias q ∷ ts) k S h = step_keeps k S h
    off_keeps (CompleteUnion q ∷ ts) k S h = step_keeps k S h
    off_keeps (CompleteChoiceSet q n ∷ ts) k S h = step_keeps k S h
    off_keeps (CompleteAnnotate q n ∷ ts) k S h = step_keeps k S h
    off_keeps (CompletePenalty q n ∷ ts) k S h = step_keeps k S h
    off_keeps (ContinueSequence q x ∷ ts) k S h = continued_keep _ k S h
    off_keeps (CompleteSequenceRight q x acc o start ∷ ts) k S h = along (rights_keep _ k S h) (λ j S₁ h₁. continued_keep _ j S₁ h₁)

    all_keep : (n : ℕ) → Keeps (work_off_all R P ev n)
    unfolding work_off_all
    all_keep zero k S h = ends h
    all_keep (suc n) k S h = along (off_keeps S.tasks k S h) (λ j S₁ h₁. all_keep n j S₁ h₁)

  evaluated_keeps : (f : ℕ) → Keeps (evaluated R P f)
  unfolding evaluated
  evaluated_keeps zero k S h = goes (fair h) (ends h)
  evaluated_keeps (suc f) k S h = along (step_keeps k S h) (λ j S₁ h₁. all_keep (evaluated R P f) (evaluated_keeps f) _ j S₁ h₁)

  rest_keeps : Keeps (rest R P)
  unfolding rest
  rest_keeps k S h = all_keep (evaluated R P P.depth) (evaluated_keeps P.depth) _ k S h

  best_fair : (cs : List Candidate) (k : Counts) (S : State) → Held k S → Along (FairEnd {A = Solved}) k (best_of cs S)
  best_fair [] k S h = goes (fair h) (ends (fair h))
  best_fair (c ∷ cs) k S h = goes (fair h) (ends (record { fewer = (fair h).fewer }))

  solve_fair : Along (FairEnd {A = Solved}) no_counts (solve R P)
  unfolding solve solve_tasks take_best
  solve_fair =
      along (along (task_keeps _ no_counts blank_state (record { held = omega arith })) (λ j S h. rest_keeps j S h)) (λ j S h. along (pop_gets j S h) (λ i G h₁. best_fair (within_range G.state.retained G.range) i G.state h₁))

-- a need and a visit leave what is fair; what follows holds from any such counts
need_fair : {A : Type 0} (x : Kind) (n : ℕ) (p : Prog A) (k : Counts) → Fair k → ((j : Counts) → Fair j → Along FairEnd j p) → Along FairEnd k (emit (Need x n) p)
need_fair x n p k h next = goes h (next _ (record { fewer = h.fewer }))

seen_fair : {A : Type 0} (p : Prog A) (k : Counts) → Fair k → ((j : Counts) → Fair j → Along FairEnd j p) → Along FairEnd k (emit Visit p)
seen_fair p k h next = goes h (next _ (record { fewer = h.fewer }))

append_fair : (at n : ℕ) (k : Counts) → Fair k → Along (FairEnd {A = Unit {0}}) k (append_each at n)
unfolding append_each
append_fair at zero k h = ends h
append_fair at (suc n) k h = need_fair _ _ _ k h (append_fair (at + 1) n)

visit_fair : (p : Plan) (v d at n : ℕ) (k : Counts) → Fair k → Along (FairEnd {A = Unit {0}}) k (visit_plan p v d at n)
unfolding visit_plan
visit_fair blank v d at n k h = seen_fair _ k h (λ j f. ends f)
visit_fair (put t) v d at n k h = seen_fair _ k h (λ j f. need_fair _ _ _ j f (λ i g. ends g))
visit_fair (line i) v d at n k h = seen_fair _ k h (append_fair at (i + 1))
visit_fair (join p q) v d at n k h =
    seen_fair _ k h (λ j f. need_fair _ _ _ j f (λ i g. need_fair _ _ _ i g (λ j f. along (visit_fair p (v + 1) d at n j f) (λ l u e. visit_fair q v d (at + length (page p)) (n + marks p) l e))))
visit_fair (mark a p) v d at n k h =
    seen_fair _ k h (λ j f. need_fair _ _ _ j f (λ i g. need_fair _ _ _ i g (λ j f. need_fair _ _ _ j f (λ i g. need_fair _ _ _ i g (λ j f. along (visit_fair p (v + 1) (d + 1) at (n + 1) j f) (λ l u e. seen_fair _ l e (λ j f. ends f)))))))
visit_fair (fee a p) v d at n k h = seen_fair _ k h (λ j f. need_fair _ _ _ j f (visit_fair p v d at n))

module _ (R : Rules) (P : Prepared) where
  render_fair : Along (FairEnd {A = Rendered}) no_counts (render R P)
  unfolding render materialize
  render_fair = along (solve_fair R P) (λ j core f. need_fair _ _ _ j f (λ l e. along (visit_fair _ 0 0 0 0 l e) (λ i u g. ends g)))

  pub fair_answer : (b : Bounds) → Fair (counts_in (answer R P b))
  unfolding answer
  fair_answer b = go (run b no_counts (render R P)) (fair_run b (λ j page f. f) render_fair)
    where
      go : (o : Out Rendered) → Fair (counts_of o) → Fair (counts_in (answer_of o))
      go (done k a) h = h
      go (stop w n k) h = h
