-- The theorem of Numbered: each step keeps that plans name earlier plans, and texts that are there.
use Rattle.std.specs.Prelude.{◌≡◌, Some as Found, None as Nothing, Bool, cond, ltb, take, drop}
use Rattle.std.proofs.Math.Path.{refl, subst}
use Rattle.std.proofs.Common.{sym, ap, ◌∙◌}
use Rattle.std.proofs.Math.Bool.{true, false, not}
use Rattle.std.proofs.Math.Option.{Option, none, some}
use mathlib.Core.List.{List, [], ◌∷◌, ◌++◌, map}
use Prim.Native.Nat.{ℕ, zero, suc, ◌+◌, ◌≤◌, ◌<◌}
use native.Mathlib.Omega.{arith}
use Rattle.std.proofs.Math.ListN.{length, get_or, length-append}
use Rattle.cost.specs.Cost.{Cost, zero_cost, add}
use Rattle.cost.specs.Charge.{penalty_cost}
use Rattle.memo.specs.declared.MemoKey.{MemoKey}
use Rattle.memo.specs.declared.CandidateRange.{CandidateRange}
use Rattle.memo.specs.Entries.{MemoLookup, Entry, lookup}
use Rattle.layout.specs.Document.{Doc}
use Rattle.layout.specs.Layout.{Plan}
use Rattle.layout.specs.Reading.{document, document_reads}
use Rattle.layout.specs.Rules.{Rules}
use Rattle.layout.specs.Frontier.{covers, any, keep, cons_if}
use Rattle.layout.specs.Frontier.{present as presented}
use Rattle.layout.specs.Table.{Node, Empty, Break, HardLine, Text, Seq, Fill, Group, Align, Nest, Choice, Annotate, Penalty}
use Rattle.layout.specs.Table.{Reads as ReadsAs}
use Rattle.machine.specs.Events.{Prog, ret, emit, ◌>>=◌, Event, Never}
use Rattle.machine.specs.Programs.{value, value_bind}
use Rattle.machine.specs.Model.{ExactChoice, Prepared, children, PlanNode, PlanEmpty, PlanText, PlanNewline, PlanConcat, PlanAnnotate, PlanPenalty, PendingPlan, Existing, Made, Candidate, Scratch, scratch, no_candidate, part, within_range, memo_key}
use Rattle.machine.specs.Model.{Task, Eval, CompleteAlias, CompleteUnion, CompleteChoiceSet, CompleteAnnotate, CompletePenalty, ContinueSequence, CompleteSequenceRight, State, blank_state, with_tasks, with_results, with_pending, with_builder, Got, got}
use Rattle.machine.specs.Solver.{push_exact_task, push_exact_result, push_pending, popped, pop_exact_result, checked_add, present, present_all, begin_builder, ranked, additional, plan_number, additional_plans, committed, finish_builder, singleton, existing, present_range, union_ranges, present_wrapped, wrap_range, memo_insert, complete_node, push_joined, build_pending}
use Rattle.machine.specs.Solver.{checked_text, push_gaps, fill_boundary, push_child, complete_singleton, begin_empty, begin_text, begin_newline, begin_sequence, begin_union, begin_group, begin_nest, skip_choices, push_alternatives, begin_choice, begin_kind, begin_known, begin_node}
use Rattle.machine.specs.Solver.{complete_alias, complete_union, present_ranges, complete_choice_set, complete_wrapped, push_right, gap_if_fill, next_child, continue_sequence, next_left, complete_sequence_right, execute_task, step, step_on}
use Rattle.machine.specs.Solve.{rest, Solved, before, least_key, best_of, solve_tasks, take_best, solve}
use Rattle.machine_right.specs.Post.{Post, holds_of, says, post_value}
use Rattle.machine_right.specs.Fronts.{Front, means}
use Rattle.machine_right.specs.Found.{solve_finds}
use Rattle.machine_right.specs.Relations.{Some, All2, nil, cons, laid}
use Rattle.machine_right.specs.Ready.{Ready}
use Rattle.machine_right.specs.Typed.{Cont, c_done, c_eval, c_alias, c_union, c_set, c_annotate, c_penalty, c_continue, c_right}
use Rattle.machine_right.specs.Sound.{Each, Inv}
use Rattle.machine_right.specs.Step.{step_good}
use Rattle.machine_right.specs.Rest.{rest_step, rest_none}
use Rattle.machine_right.specs.Falls.{falls}
use Rattle.machine_right.specs.Falls.{left as remaining}
use Rattle.solve.specs.Numbered.{Names, PendingNames, NamesFrom, Waiting, Standing, Numbered, TextsBelow, Rooted}

-- ---- what holds where a program ends, unless it comes to what cannot be

pub data Ends {A : Type 0} (Q : A → Type 0) : Prog A → Type 0 where
  at_end : {a : A} → Q a → Ends Q (ret a)
  then : {e : Event} {p : Prog A} → Ends Q p → Ends Q (emit e p)
  nowhere : {p : Prog A} → Ends Q (emit Never p)

ends_bind : {A B : Type 0} {f : A → Prog B} {Q : B → Type 0} {m : Prog A} → Ends (λ a. Ends Q (f a)) m → Ends Q (m >>= f)
ends_bind (at_end h) = h
ends_bind (then h) = then (ends_bind h)
ends_bind nowhere = nowhere

ends_imp : {A : Type 0} {Q W : A → Type 0} {m : Prog A} → ((a : A) → Q a → W a) → Ends Q m → Ends W m
ends_imp f (at_end h) = at_end (f _ h)
ends_imp f (then h) = then (ends_imp f h)
ends_imp f nowhere = nowhere

ends_value : {A : Type 0} {Q W : A → Type 0} {m : Prog A} → Ends Q m → Post W m → Q (value m)
ends_value (at_end h) (holds_of w) = h
ends_value (then h) (says o w) = ends_value h w
ends_value nowhere (says o w) = absurd o

-- ---- lists

module _ {A : Type 0} (Q : A → Type 0) where
  each_append : (xs ys : List A) → Each Q xs → Each Q ys → Each Q (xs ++ ys)
  each_append [] ys h k = k
  each_append (x ∷ xs) ys h k = (h.0, each_append xs ys h.1 k)

  each_if : (b : Bool) (x : A) (xs : List A) → Q x → Each Q xs → Each Q (cons_if b x xs)
  each_if true x xs h k = (h, k)
  each_if false x xs h k = k

  each_keep : (f : A → Bool) (xs : List A) → Each Q xs → Each Q (keep f xs)
  each_keep f [] h = tt
  each_keep f (x ∷ xs) h = each_if (f x) x (keep f xs) h.0 (each_keep f xs h.1)

  each_cond : (b : Bool) (xs ys : List A) → Each Q xs → Each Q ys → Each Q (cond b xs ys)
  each_cond true xs ys h k = h
  each_cond false xs ys h k = k

  each_take : (n : ℕ) (xs : List A) → Each Q xs → Each Q (take n xs)
  each_take zero xs h = tt
  each_take (suc n) [] h = tt
  each_take (suc n) (x ∷ xs) h = (h.0, each_take n xs h.1)

  each_drop : (n : ℕ) (xs : List A) → Each Q xs → Each Q (drop n xs)
  each_drop zero xs h = h
  each_drop (suc n) [] h = tt
  each_drop (suc n) (x ∷ xs) h = each_drop n xs h.1

  each_get_or : (xs : List A) (i : ℕ) (d : A) → Each Q xs → Q d → Q (get_or xs i d)
  each_get_or [] i d h k = k
  each_get_or (x ∷ xs) zero d h k = h.0
  each_get_or (x ∷ xs) (suc i) d h k = each_get_or xs i d h.1 k

each_imp : {A : Type 0} (Q W : A → Type 0) → ((a : A) → Q a → W a) → (xs : List A) → Each Q xs → Each W xs
each_imp Q W f [] h = tt
each_imp Q W f (x ∷ xs) h = (f x h.0, each_imp Q W f xs h.1)

-- ---- names stay names as the plans grow

names_more : (t m n : ℕ) (x : PlanNode) → m ≤ n → Names t m x → Names t n x
names_more t m n PlanEmpty l h = tt
names_more t m n (PlanText x) l h = h
names_more t m n (PlanNewline i) l h = tt
names_more t m n (PlanConcat a b) l h = (omega (arith, h.0), omega (arith, h.1))
names_more t m n (PlanAnnotate a c) l h = omega (arith, h)
names_more t m n (PlanPenalty a c) l h = omega (arith, h)

pending_more : (t m n : ℕ) (x : PendingPlan) → m ≤ n → PendingNames t m x → PendingNames t n x
pending_more t m n (Existing i) l h = omega (arith, h)
pending_more t m n (Made p) l h = names_more t m n p l h

waiting_more : (t m n : ℕ) (cs : List Scratch) → m ≤ n → Waiting t m cs → Waiting t n cs
waiting_more t m n cs l h = each_imp (λ c. PendingNames t m c.plan.plan) (λ c. PendingNames t n c.plan.plan) (λ c. pending_more t m n c.plan.plan l) cs h

standing_more : (m n : ℕ) (cs : List Candidate) → m ≤ n → Standing m cs → Standing n cs
standing_more m n cs l h = each_imp (λ c. c.plan.plan < m) (λ c. c.plan.plan < n) (λ c k. omega (arith, k)) cs h

names_append : (t n : ℕ) (l m : List PlanNode) → NamesFrom t n l → NamesFrom t (n + length l) m → NamesFrom t n (l ++ m)
names_append t n [] m h k = let e : n + 0 ≡ n = omega arith in subst (λ (z : ℕ). NamesFrom t z m) e k
names_append t n (x ∷ l) m h k = let e : n + suc (length l) ≡ suc n + length l = omega arith in (h.0, names_append t (suc n) l m h.1 (subst (λ (z : ℕ). NamesFrom t z m) e k))

-- ---- what a finished frontier adds

one_more : (t m n : ℕ) (x : PendingPlan) → m ≤ n → PendingNames t m x → NamesFrom t n (additional x)
one_more t m n (Existing i) l h = tt
one_more t m n (Made p) l h = (names_more t m n p l h, tt)

added : (t m n : ℕ) (cs : List Scratch) → m ≤ n → Waiting t m cs → NamesFrom t n (additional_plans cs)
unfolding additional_plans
added t m n [] l h = tt
added t m n (c ∷ cs) l h = names_append t n (additional c.plan.plan) (additional_plans cs) (one_more t m n c.plan.plan l h.0) (added t m (n + length (additional c.plan.plan)) cs (omega arith) h.1)

number_below : (t m n : ℕ) (x : PendingPlan) → m ≤ n → PendingNames t m x → plan_number n x < n + length (additional x) + 0
number_below t m n (Existing i) l h = omega (arith, h)
number_below t m n (Made p) l h = omega arith

standing_committed : (t m n k : ℕ) (cs : List Scratch) → m ≤ n → n + length (additional_plans cs) ≤ k → m ≤ k → Waiting t m cs → Standing k (committed n cs)
unfolding committed additional_plans
standing_committed t m n k [] l e f h = tt
standing_committed t m n k (c ∷ cs) l e f h =
    let a = length-append (additional c.plan.plan) (additional_plans cs) in
    let b = number_below t m n c.plan.plan l h.0 in
    (omega (arith, a, b), standing_committed t m (n + length (additional c.plan.plan)) k cs (omega arith) (omega (arith, a)) f h.1)

module _ (t : ℕ) where
  waiting_present : (n : ℕ) (xs : List Scratch) (c : Scratch) → Waiting t n xs → PendingNames t n c.plan.plan → Waiting t n (presented covers xs c)
  unfolding presented
  waiting_present n xs c h k =
      let Q : Scratch → Type 0 = λ c. PendingNames t n c.plan.plan in
      each_cond Q (any (λ k. covers k c) xs) xs (keep (λ k. not (covers c k)) xs ++ (c ∷ [])) h (each_append Q (keep (λ k. not (covers c k)) xs) (c ∷ []) (each_keep Q (λ k. not (covers c k)) xs h) (k, tt))

  present_ends : (n : ℕ) (c : Scratch) (S : State) {Q : State → Type 0} → Waiting t n S.builder → PendingNames t n c.plan.plan → ((b : List Scratch) (g : ℕ) → Waiting t n b → Q (with_builder b g S)) → Ends Q (present c S)
  unfolding present
  present_ends n c S w k h = then (then (then (at_end (h _ _ (waiting_present n S.builder (ranked S.generated c) w k)))))

  all_ends : (n : ℕ) (cs : List Scratch) (S : State) {Q : State → Type 0} → Waiting t n S.builder → Waiting t n cs → ((b : List Scratch) (g : ℕ) → Waiting t n b → Q (with_builder b g S)) → Ends Q (present_all cs S)
  unfolding present_all
  all_ends n [] S w k h = at_end (h _ _ w)
  all_ends n (c ∷ cs) S w k h = ends_bind (present_ends n c S w k.0 λ b g w'. all_ends n cs (with_builder b g S) w' k.1 h)

  -- numbered, and with a plan
  pub record Planned (S : State) : Type 0 where
    pub num : Numbered t S
    pub has : 0 < length S.plans

  abbrev PlannedGot : Got → Type 0
  PlannedGot G = Planned G.state

  finish_with : (S : State) {Q : Got → Type 0} → Numbered t S → 0 < length S.plans + length (additional_plans S.builder)
      → ((G : Got) → Planned G.state → length S.plans ≤ length G.state.plans → Q G) → Ends Q (finish_builder S)
  unfolding finish_builder
  finish_with S h p f =
      let n = length S.plans in
      let m = length (S.plans ++ additional_plans S.builder) in
      let e : m ≡ n + length (additional_plans S.builder) = length-append S.plans (additional_plans S.builder) in
      let l : n ≤ m = omega (arith, e) in
      let o : 0 < m = omega (arith, e, p) in
      let z : n ≡ 0 + n = omega arith in
      then (then (then (at_end (f _ (record {
        num = record {
          plans_name = names_append t 0 S.plans (additional_plans S.builder) h.plans_name (subst (λ (k : ℕ). NamesFrom t k (additional_plans S.builder)) z (added t n n S.builder (omega arith) h.builder_names));
          kept_name = each_append (λ c. c.plan.plan < m) S.retained (committed n S.builder) (standing_more n m S.retained l h.kept_name) (standing_committed t n n m S.builder (omega arith) (omega (arith, e)) l h.builder_names);
          pending_name = waiting_more t n m S.pending l h.pending_name;
          builder_names = waiting_more t n m S.builder l h.builder_names;
          results_plan = λ z. o;
          memo_plan = λ z. o;
        };
        has = o;
      }) l))))

  finish_ends : (S : State) → Numbered t S → 0 < length S.plans + length (additional_plans S.builder) → Ends PlannedGot (finish_builder S)
  finish_ends S h p = finish_with S h p (λ G k l. k)

  -- the state with other builder, pending, results
  built : {S : State} (b : List Scratch) (g : ℕ) → Numbered t S → Waiting t (length S.plans) b → Numbered t (with_builder b g S)
  built b g h w = record { plans_name = h.plans_name; kept_name = h.kept_name; pending_name = h.pending_name; builder_names = w; results_plan = h.results_plan; memo_plan = h.memo_plan }

  waited : {S : State} (ps : List Scratch) → Numbered t S → Waiting t (length S.plans) ps → Numbered t (with_pending ps S)
  waited ps h w = record { plans_name = h.plans_name; kept_name = h.kept_name; pending_name = w; builder_names = h.builder_names; results_plan = h.results_plan; memo_plan = h.memo_plan }

  resulted : {S : State} (rs : List CandidateRange) → Planned S → Planned (with_results rs S)
  resulted rs h = record { num = record { plans_name = h.num.plans_name; kept_name = h.num.kept_name; pending_name = h.num.pending_name; builder_names = h.num.builder_names; results_plan = λ z. h.has; memo_plan = h.num.memo_plan }; has = h.has }

  -- ---- frontiers

  finish_planned : (S : State) (b : List Scratch) (g : ℕ) → Planned S → Waiting t (length S.plans) b → Ends PlannedGot (finish_builder (with_builder b g S))
  finish_planned S b g h w = finish_ends (with_builder b g S) (built b g h.num w) (omega (arith, h.has))

  single_ends : (c : Cost) (l : ℕ) (p : PlanNode) (S : State) → Numbered t S → Names t (length S.plans) p → Ends PlannedGot (singleton (scratch c l (Made p)) S)
  unfolding singleton present presented additional_plans
  single_ends c l p S h k = then (then (then (finish_ends (with_builder (ranked S.generated (scratch c l (Made p)) ∷ []) (S.generated + 1) S) (built _ _ h (k, tt)) (omega arith))))

  part_stands : (n : ℕ) (k : List Candidate) → Standing n k → 0 < n → (s m : ℕ) → Standing n (part k s m)
  part_stands n k h p s zero = tt
  part_stands n k h p s (suc m) = (each_get_or (λ c. c.plan.plan < n) k s no_candidate h p, part_stands n k h p (s + 1) m)

  existing_wait : (n : ℕ) (cs : List Candidate) → Standing n cs → Waiting t n (map existing cs)
  existing_wait n [] h = tt
  existing_wait n (c ∷ cs) h = (h.0, existing_wait n cs h.1)

  range_ends : (r : CandidateRange) (S : State) {Q : State → Type 0} → Planned S → ((b : List Scratch) (g : ℕ) → Waiting t (length S.plans) b → Q (with_builder b g S)) → Ends Q (present_range r S)
  unfolding present_range
  range_ends r S h f =
      all_ends (length S.plans) (map existing (within_range S.retained r)) S h.num.builder_names
      (existing_wait (length S.plans) (within_range S.retained r) (part_stands (length S.plans) S.retained h.num.kept_name h.has r.start r.len)) f

  begun : {S : State} → Planned S → Planned (begin_builder S)
  begun h = record { num = built [] _ h.num tt; has = h.has }

  with_built : {S : State} (b : List Scratch) (g : ℕ) → Planned S → Waiting t (length S.plans) b → Planned (with_builder b g S)
  with_built b g h w = record { num = built b g h.num w; has = h.has }

  union_ends : (r s : CandidateRange) (S : State) → Planned S → Ends PlannedGot (union_ranges r s S)
  unfolding union_ranges
  union_ends r s S h =
      ends_bind (range_ends r (begin_builder S) (begun h) λ b g w.
      ends_bind (range_ends s (with_builder b g S) (with_built b g h w) λ b' g' w'. finish_planned S b' g' h w'))

  wrapped_ends : (wrapper : ℕ → PlanNode) → ((n i : ℕ) → i < n → Names t n (wrapper i)) → (a : Cost) (cs : List Candidate) (S : State) {Q : State → Type 0} → Waiting t (length S.plans) S.builder → Standing (length S.plans) cs
      → ((b : List Scratch) (g : ℕ) → Waiting t (length S.plans) b → Q (with_builder b g S)) → Ends Q (present_wrapped wrapper a cs S)
  unfolding present_wrapped checked_add
  wrapped_ends wrapper f a [] S w k h = at_end (h _ _ w)
  wrapped_ends wrapper f a (c ∷ cs) S w k h = then (then (ends_bind (present_ends (length S.plans) _ S w (f (length S.plans) c.plan.plan k.0) λ b g w'. wrapped_ends wrapper f a cs (with_builder b g S) w' k.1 h)))

  wrap_ends : (wrapper : ℕ → PlanNode) → ((n i : ℕ) → i < n → Names t n (wrapper i)) → (r : CandidateRange) (a : Cost) (S : State) → Planned S → Ends PlannedGot (wrap_range r wrapper a S)
  unfolding wrap_range
  wrap_ends wrapper f r a S h =
      ends_bind (wrapped_ends wrapper f a (within_range S.retained r) (begin_builder S) tt (part_stands (length S.plans) S.retained h.num.kept_name h.has r.start r.len) λ b g w. finish_planned S b g h w)

  -- ---- ends of a node

  complete_ends : (q : MemoKey) (r : CandidateRange) (S : State) → Planned S → Ends (Numbered t) (complete_node q r S)
  unfolding complete_node memo_insert push_exact_result
  complete_ends q r S h = then (then (then (at_end (record { plans_name = h.num.plans_name; kept_name = h.num.kept_name; pending_name = h.num.pending_name; builder_names = h.num.builder_names; results_plan = λ z. h.has; memo_plan = λ z. h.has }))))

  ending : (q : MemoKey) {m : Prog Got} → Ends PlannedGot m → Ends (Numbered t) (m >>= (λ G. complete_node q G.range G.state))
  ending q h = ends_bind (ends_imp (λ G k. complete_ends q G.range G.state k) h)

  pop_as : (l : List CandidateRange) (S : State) {Q : Got → Type 0} → S.results ≡ l → Numbered t S → ((r : CandidateRange) (rs : List CandidateRange) → Planned (with_results rs S) → Q (got r (with_results rs S))) → Ends Q (popped l S)
  pop_as [] S e h f = nowhere
  pop_as (r ∷ rs) S e h f = at_end (f r rs (resulted rs (record { num = h; has = h.results_plan (subst (λ (z : List CandidateRange). Some z) (sym e) tt) })))

  pop_ends : (S : State) {Q : Got → Type 0} → Numbered t S → ((r : CandidateRange) (rs : List CandidateRange) → Planned (with_results rs S) → Q (got r (with_results rs S))) → Ends Q (pop_exact_result S)
  pop_ends S h f = pop_as S.results S refl h f

  -- ---- sequences

  joined_ends : (left : Candidate) (rights : List Candidate) (S : State) {Q : State → Type 0} → left.plan.plan < length S.plans → Standing (length S.plans) rights → Waiting t (length S.plans) S.pending
      → ((ps : List Scratch) → Waiting t (length S.plans) ps → Q (with_pending ps S)) → Ends Q (push_joined left rights S)
  unfolding push_joined checked_add push_pending
  joined_ends left [] S l k w h = at_end (h _ w)
  joined_ends left (r ∷ rights) S l k w h =
      let c : Scratch = scratch (add left.cost r.cost) r.column (Made (PlanConcat left.plan.plan r.plan.plan)) in
      let w' : Waiting t (length S.plans) (S.pending ++ (c ∷ [])) = each_append (λ c. PendingNames t (length S.plans) c.plan.plan) S.pending (c ∷ []) w ((l, k.0), tt) in
      then (then (then (joined_ends left rights (with_pending (S.pending ++ (c ∷ [])) S) l k.1 w' h)))

  build_ends : (start : ℕ) (S : State) → Planned S → Ends PlannedGot (build_pending start S)
  unfolding build_pending
  build_ends start S h =
      let Q : Scratch → Type 0 = λ c. PendingNames t (length S.plans) c.plan.plan in
      ends_bind (all_ends (length S.plans) (drop start S.pending) (begin_builder S) tt (each_drop Q start S.pending h.num.pending_name) λ b g w.
      finish_ends (with_pending (take start S.pending) (with_builder b g S)) (waited (take start S.pending) (built b g h.num w) (each_take Q start S.pending h.num.pending_name)) (omega (arith, h.has)))

  pushed : {S : State} (ts : List Task) → Numbered t S → Numbered t (with_tasks ts S)
  pushed ts h = record { plans_name = h.plans_name; kept_name = h.kept_name; pending_name = h.pending_name; builder_names = h.builder_names; results_plan = h.results_plan; memo_plan = h.memo_plan }

  task_ends : (x : Task) (S : State) → Numbered t S → Ends (Numbered t) (push_exact_task x S)
  unfolding push_exact_task
  task_ends x S h = then (at_end (pushed _ h))

  module _ (R : Rules) (P : Prepared) (B : TextsBelow t P) where
    child_ends : (x : Task) (q : MemoKey) (S : State) → Numbered t S → Ends (Numbered t) (push_child R P x q S)
    unfolding push_child push_exact_task
    child_ends x q S h = then (then (at_end (pushed _ h)))

    gaps_end : (indent s n : ℕ) (S : State) {Q : State → Type 0} → Planned S → ((Z : State) → Planned Z → Q Z) → Ends Q (push_gaps R P indent s n S)
    unfolding push_gaps checked_text
    gaps_end indent s zero S h f = at_end (f S h)
    gaps_end indent s (suc n) S h f =
        let N = length S.plans in
        let left = get_or S.retained s no_candidate in
        let a : left.plan.plan < N = each_get_or (λ c. c.plan.plan < N) S.retained s no_candidate h.num.kept_name h.has in
        then (ends_bind (present_ends N _ (begin_builder S) tt B.space_text_below λ b g w.
        ends_bind (present_ends N _ (with_builder b g S) w tt λ b' g' w'.
        ends_bind (finish_with (with_builder b' g' S) (built b' g' h.num w') (omega (arith, h.has)) λ G k l.
        ends_bind (joined_ends left (within_range G.state.retained G.range) G.state (omega (arith, a, l)) (part_stands (length G.state.plans) G.state.retained k.num.kept_name k.has G.range.start G.range.len) k.num.pending_name λ ps wp.
        gaps_end indent (s + 1) n (with_pending ps G.state) (record { num = waited ps k.num wp; has = k.has }) f)))))

    fill_ends : (r : CandidateRange) (indent : ℕ) (S : State) → Planned S → Ends PlannedGot (fill_boundary R P r indent S)
    unfolding fill_boundary
    fill_ends r indent S h = ends_bind (gaps_end indent r.start r.len S h λ Z k. build_ends (length S.pending) Z k)

    -- ---- begin_node

    single_begins : (q : MemoKey) (c : Cost) (l : ℕ) (p : PlanNode) (S : State) → Numbered t S → Names t (length S.plans) p → Ends (Numbered t) (complete_singleton R P q (scratch c l (Made p)) S)
    unfolding complete_singleton
    single_begins q c l p S h k = ending q (single_ends c l p S h k)

    sequence_begins : (ks : List ℕ) (q : MemoKey) (S : State) → Numbered t S → Ends (Numbered t) (begin_sequence R P ks q S)
    unfolding begin_sequence begin_empty
    sequence_begins [] q S h = single_begins q zero_cost q.column PlanEmpty S h tt
    sequence_begins (k ∷ ks) q S h = child_ends _ _ S h

    union_begins : (a b : ℕ) (q : MemoKey) (S : State) → Numbered t S → Ends (Numbered t) (begin_union R P a b q S)
    unfolding begin_union
    union_begins a b q S h = ends_bind (ends_imp (λ Z k. task_ends _ Z k) (child_ends _ _ S h))

    group_begins : (k : ℕ) (o : Option ℕ) (q : MemoKey) (S : State) → Numbered t S → Ends (Numbered t) (begin_group R P k o q S)
    unfolding begin_group
    group_begins k none q S h = child_ends _ _ S h
    group_begins k (some f) q S h = union_begins f k q S h

    alternatives_end : (ns : List ℕ) (q : MemoKey) (S : State) → Numbered t S → Ends (Numbered t) (push_alternatives R P ns q S)
    unfolding push_alternatives
    alternatives_end [] q S h = at_end h
    alternatives_end (n ∷ ns) q S h = ends_bind (ends_imp (λ Z k. task_ends _ Z k) (alternatives_end ns q S h))

    skip_ends : (n : ℕ) {Q : Unit {0} → Type 0} → Q tt → Ends Q (skip_choices R P n)
    unfolding skip_choices
    skip_ends zero h = at_end h
    skip_ends (suc n) h = then (skip_ends n h)

    choice_begins : (o : Option ExactChoice) (a b : ℕ) (q : MemoKey) (S : State) → Numbered t S → Ends (Numbered t) (begin_choice R P o a b q S)
    unfolding begin_choice
    choice_begins none a b q S h = union_begins a b q S h
    choice_begins (some l) a b q S h = ends_bind (skip_ends l.skipped (ends_bind (ends_imp (λ Z k. alternatives_end l.alternatives q Z k) (task_ends _ S h))))

    kind_begins : (v : Node) (q : MemoKey) (S : State) → P.table.node q.node ≡ v → Numbered t S → Ends (Numbered t) (begin_kind R P v q S)
    unfolding begin_kind begin_empty begin_text begin_newline begin_nest checked_text
    kind_begins Empty q S e h = single_begins q zero_cost q.column PlanEmpty S h tt
    kind_begins (Text x) q S e h = then (single_begins q _ _ (PlanText x) S h (B.node_text q.node x e))
    kind_begins Break q S e h = single_begins q _ _ (PlanNewline q.indent) S h tt
    kind_begins HardLine q S e h = single_begins q _ _ (PlanNewline q.indent) S h tt
    kind_begins (Seq ks) q S e h = sequence_begins ks q S h
    kind_begins (Fill ks) q S e h = sequence_begins ks q S h
    kind_begins (Group k) q S e h = group_begins k (P.table.flat k) q S h
    kind_begins (Nest n k) q S e h = then (child_ends _ _ S h)
    kind_begins (Align k) q S e h = child_ends _ _ S h
    kind_begins (Choice a b) q S e h = choice_begins (P.choices q.node) a b q S h
    kind_begins (Annotate a k) q S e h = child_ends _ _ S h
    kind_begins (Penalty a k) q S e h = child_ends _ _ S h

    some_found : (m : List Entry) (q : MemoKey) (r : CandidateRange) → lookup m q ≡ Found r → Some m
    some_found [] q r e = let z : ◌≡◌ {A = ℕ} 0 1 = cc in absurd (omega arith)
    some_found (x ∷ m) q r e = tt

    known_begins : (o : MemoLookup) (q : MemoKey) (S : State) → lookup S.memo q ≡ o → Numbered t S → Ends (Numbered t) (begin_known R P o q S)
    unfolding begin_known push_exact_result
    known_begins (Found r) q S e h =
        then (then (at_end (resulted (r ∷ S.results) (record { num = h; has = h.memo_plan (some_found S.memo q r e) })).num))
    known_begins Nothing q S e h = then (kind_begins (P.table.node q.node) q S refl h)

    -- ---- execute_task

    ranges_end : (l : List CandidateRange) (S : State) {Q : State → Type 0} → Planned S → ((b : List Scratch) (g : ℕ) → Waiting t (length S.plans) b → Q (with_builder b g S)) → Ends Q (present_ranges R P l S)
    unfolding present_ranges
    ranges_end [] S h f = at_end (f _ _ h.num.builder_names)
    ranges_end (r ∷ rs) S h f = ends_bind (ranges_end rs S h λ b g w. range_ends r (with_builder b g S) (with_built b g h w) f)

    set_ends : (q : MemoKey) (start : ℕ) (S : State) → Planned S → Ends (Numbered t) (complete_choice_set R P q start S)
    unfolding complete_choice_set
    set_ends q start S h =
        ends_bind (ranges_end _ (begin_builder S) (begun h) λ b g w.
        ends_bind (finish_with (with_builder b g S) (built b g h.num w) (omega (arith, h.has)) λ G k l. complete_ends q G.range _ (resulted _ k)))

    wrapped_end : (wrapper : ℕ → PlanNode) → ((n i : ℕ) → i < n → Names t n (wrapper i)) → (q : MemoKey) (a : Cost) (S : State) → Numbered t S → Ends (Numbered t) (complete_wrapped R P q wrapper a S)
    unfolding complete_wrapped
    wrapped_end wrapper f q a S h = ends_bind (pop_ends S h λ r rs k. ending q (wrap_ends wrapper f r a (with_results rs S) k))

    right_pushed : (q : MemoKey) (x : ℕ) (acc : CandidateRange) (o start : ℕ) (S : State) → Numbered t S → Ends (Numbered t) (push_right R P q x acc o start S)
    unfolding push_right
    right_pushed q x acc o start S h = child_ends _ _ S h

    gap_ends : (v : Node) (r : CandidateRange) (indent : ℕ) (S : State) → Planned S → Ends PlannedGot (gap_if_fill R P v r indent S)
    unfolding gap_if_fill
    gap_ends Empty r indent S h = at_end h
    gap_ends (Text x) r indent S h = at_end h
    gap_ends Break r indent S h = at_end h
    gap_ends HardLine r indent S h = at_end h
    gap_ends (Seq ks) r indent S h = at_end h
    gap_ends (Fill ks) r indent S h = fill_ends r indent S h
    gap_ends (Group k) r indent S h = at_end h
    gap_ends (Nest n k) r indent S h = at_end h
    gap_ends (Align k) r indent S h = at_end h
    gap_ends (Choice a b) r indent S h = at_end h
    gap_ends (Annotate a k) r indent S h = at_end h
    gap_ends (Penalty a k) r indent S h = at_end h

    child_next : (b : Bool) (q : MemoKey) (x : ℕ) (acc : CandidateRange) (S : State) → Planned S → Ends (Numbered t) (next_child R P b q x acc S)
    unfolding next_child
    child_next false q x acc S h = complete_ends q acc S h
    child_next true q x acc S h = ends_bind (ends_imp (λ G k. right_pushed q x G.range 0 _ G.state k.num) (gap_ends (P.table.node q.node) acc q.indent S h))

    left_next : (b : Bool) (q : MemoKey) (x : ℕ) (acc : CandidateRange) (o start : ℕ) (S : State) → Planned S → Ends (Numbered t) (next_left R P b q x acc o start S)
    unfolding next_left push_exact_task push_exact_result
    left_next true q x acc o start S h = right_pushed q x acc (o + 1) start S h.num
    left_next false q x acc o start S h =
        ends_bind (ends_imp (λ G k. then (then (at_end (resulted _ (record { num = pushed _ k.num; has = k.has })).num))) (build_ends start S h))

    right_ends : (q : MemoKey) (x : ℕ) (acc : CandidateRange) (o start : ℕ) (S : State) → Numbered t S → Ends (Numbered t) (complete_sequence_right R P q x acc o start S)
    unfolding complete_sequence_right
    right_ends q x acc o start S h =
        let N = length S.plans in
        ends_bind (pop_ends S h λ r rs k.
        ends_bind (joined_ends _ (within_range S.retained r) (with_results rs S) (each_get_or (λ c. c.plan.plan < N) S.retained (acc.start + o) no_candidate h.kept_name k.has) (part_stands N S.retained h.kept_name k.has r.start r.len) h.pending_name λ ps w.
        left_next (ltb (o + 1) acc.len) q x acc o start (with_pending ps (with_results rs S)) (record { num = waited ps k.num w; has = k.has })))

    -- a choice set has a result at least
    abbrev SetFits : Task → List CandidateRange → Type 0
    SetFits (Eval q) rs = Unit {0}
    SetFits (CompleteAlias q) rs = Unit {0}
    SetFits (CompleteUnion q) rs = Unit {0}
    SetFits (CompleteChoiceSet q n) rs = Some rs
    SetFits (CompleteAnnotate q a) rs = Unit {0}
    SetFits (CompletePenalty q a) rs = Unit {0}
    SetFits (ContinueSequence q x) rs = Unit {0}
    SetFits (CompleteSequenceRight q x acc o start) rs = Unit {0}

    execute_ends : (x : Task) (S : State) → Numbered t S → SetFits x S.results → Ends (Numbered t) (execute_task R P x S)
    unfolding execute_task begin_node complete_alias complete_union continue_sequence
    execute_ends (Eval q) S h f = known_begins (lookup S.memo q) q S refl h
    execute_ends (CompleteAlias q) S h f = ends_bind (pop_ends S h λ r rs k. complete_ends q r (with_results rs S) k)
    execute_ends (CompleteUnion q) S h f =
        ends_bind (pop_ends S h λ r rs k. ends_bind (pop_ends (with_results rs S) k.num λ r' rs' k'. ending q (union_ends r' r (with_results rs' S) k')))
    execute_ends (CompleteChoiceSet q n) S h f = set_ends q n S (record { num = h; has = h.results_plan f })
    execute_ends (CompleteAnnotate q a) S h f = wrapped_end (PlanAnnotate a) (λ n i l. l) q zero_cost S h
    execute_ends (CompletePenalty q a) S h f = wrapped_end (PlanPenalty a) (λ n i l. l) q (penalty_cost a) S h
    execute_ends (ContinueSequence q x) S h f = ends_bind (pop_ends S h λ r rs k. child_next (ltb x (length (children (P.table.node q.node)))) q x r (with_results rs S) k)
    execute_ends (CompleteSequenceRight q x acc o start) S h f = right_ends q x acc o start S h

    -- ---- the run

    module _ (D : ℕ → Doc) (goal : Front) (K : Ready P) (reads : ReadsAs P.table D) where
      some_all : {W : CandidateRange → Front → Type 0} (rs : List CandidateRange) (Gs Es : List Front) → All2 W rs (Gs ++ Es) → Some Gs → Some rs
      some_all rs [] Es h f = absurd f
      some_all rs (G ∷ Gs) Es (cons d c) f = tt

      set_fits : {W : CandidateRange → Front → Type 0} {k : List Candidate} {pl : List Plan} {x : Task} {ts : List Task} {Es : List Front} {qs : List Scratch} (rs : List CandidateRange)
          → Cont R P.table D goal k pl (x ∷ ts) Es qs → All2 W rs Es → SetFits x rs
      set_fits rs (c_eval c) a = tt
      set_fits rs (c_alias e c) a = tt
      set_fits rs (c_union e c) a = tt
      set_fits {W = W} rs (c_set Gs {Es = Es} e f y n c) a = some_all rs Gs Es (subst (λ (z : List Front). All2 W rs z) y a) f
      set_fits rs (c_annotate e c) a = tt
      set_fits rs (c_penalty e c) a = tt
      set_fits rs (c_continue e c) a = tt
      set_fits rs (c_right den n lt en ef pl lp e c) a = tt

      step_numbered : (x : Task) (ts : List Task) (S : State) → S.tasks ≡ x ∷ ts → Inv R P D goal S → Numbered t S → Numbered t (value (step R P S))
      unfolding step
      step_numbered x ts S e i h =
          let c : Cont R P.table D goal S.retained (laid P.table S.plans) (x ∷ ts) i.types S.pending =
          subst (λ (z : List Task). Cont R P.table D goal S.retained (laid P.table S.plans) z i.types S.pending) e i.conts in
          ends_value (subst (λ (z : List Task). Ends (Numbered t) (step_on R P z S)) (sym e) (execute_ends x (with_tasks ts S) (pushed ts h) (set_fits S.results c i.res)))
          (step_good R P D goal K reads x ts S e i)

      none_left : (ts : List Task) (S : State) → S.tasks ≡ ts → remaining R P S ≤ 0 → Inv R P D goal S → Numbered t S → Numbered t (value (rest R P S))
      none_left [] S e l i h = subst (λ (p : Prog State). Numbered t (value p)) (sym (rest_none R P D goal K reads S e)) h
      none_left (x ∷ ts) S e l i h = absurd (omega (arith, l, falls R P D goal K reads x ts S e i))

      some_left : (n : ℕ) → ((Z : State) → remaining R P Z ≤ n → Inv R P D goal Z → Numbered t Z → Numbered t (value (rest R P Z)))
          → (ts : List Task) (S : State) → S.tasks ≡ ts → remaining R P S ≤ suc n → Inv R P D goal S → Numbered t S → Numbered t (value (rest R P S))
      some_left n ih [] S e l i h = subst (λ (p : Prog State). Numbered t (value p)) (sym (rest_none R P D goal K reads S e)) h
      some_left n ih (x ∷ ts) S e l i h =
          let Z = value (step R P S) in
          let v : value (rest R P S) ≡ value (rest R P Z) = ap value (rest_step R P D goal K reads x ts S e i) ∙ value_bind (step R P S) (rest R P) in
          let f : remaining R P Z < remaining R P S = falls R P D goal K reads x ts S e i in
          subst (λ (S : State). Numbered t S) (sym v) (ih Z (omega (arith, l, f)) (post_value (step_good R P D goal K reads x ts S e i)).inv (step_numbered x ts S e i h))

      rest_numbered : (n : ℕ) (S : State) → remaining R P S ≤ n → Inv R P D goal S → Numbered t S → Numbered t (value (rest R P S))
      rest_numbered zero S l i h = none_left S.tasks S refl l i h
      rest_numbered (suc n) S l i h = some_left n (λ Z. rest_numbered n Z) S.tasks S refl l i h

    -- ---- the best candidate

    cond_stands : (b : Bool) (n : ℕ) (x c : Candidate) → x.plan.plan < n → c.plan.plan < n → (cond b x c).plan.plan < n
    cond_stands true n x c h k = h
    cond_stands false n x c h k = k

    least_stands : (n : ℕ) (c : Candidate) (cs : List Candidate) → c.plan.plan < n → Standing n cs → (least_key c cs).plan.plan < n
    unfolding least_key
    least_stands n c [] h k = h
    least_stands n c (x ∷ xs) h k = least_stands n (cond (before x c) x c) xs (cond_stands (before x c) n x c k.0 h) k.1

    best_rooted : (cs : List Candidate) (S : State) → NamesFrom t 0 S.plans → Standing (length S.plans) cs → Ends (Rooted t) (best_of cs S)
    best_rooted [] S h k = nowhere
    best_rooted (c ∷ cs) S h k = then (at_end (record { names = h; root_below = least_stands (length S.plans) c cs k.0 k.1 }))

    take_ends : (S : State) → Numbered t S → Ends (Rooted t) (take_best R P S)
    unfolding take_best
    take_ends S h =
        ends_bind (pop_ends S h λ r rs k.
        best_rooted (within_range S.retained r) (with_results rs S) h.plans_name (part_stands (length S.plans) S.retained h.kept_name k.has r.start r.len))

    post_after : {A C : Type 0} {Q : C → Type 0} (m : Prog A) (f : A → Prog C) → Post Q (m >>= f) → Post Q (f (value m))
    post_after (ret a) f h = h
    post_after (emit e p) f (says o h) = post_after p f h

    tasks_numbered : Ready P → Numbered t (value (solve_tasks R P))
    unfolding solve_tasks push_exact_task
    tasks_numbered K =
        let D = document P.table K.ranked in
        let reads = document_reads P.table K.ranked in
        let S = with_tasks (Eval (memo_key P.root 0 0) ∷ []) blank_state in
        rest_numbered D (means R P.table D (memo_key P.root 0 0)) K reads (remaining R P S) S (omega arith) (record { types = []; conts = c_eval c_done; res = nil; memos = tt })
        (record { plans_name = tt; kept_name = tt; pending_name = tt; builder_names = tt; results_plan = λ z. absurd z; memo_plan = λ z. absurd z })

    -- what the solver finds names plans and texts that are there
    pub solve_rooted : Ready P → Rooted t (value (solve R P))
    unfolding solve
    solve_rooted K =
        let D = document P.table K.ranked in
        subst (λ (c : Solved). Rooted t c) (sym (value_bind (solve_tasks R P) (take_best R P)))
        (ends_value (take_ends (value (solve_tasks R P)) (tasks_numbered K)) (post_after (solve_tasks R P) (take_best R P) (solve_finds R P D K (document_reads P.table K.ranked))))
