-- A page needs at least one of stack, memo, kept, frontier, plans and visit (document 02, change 10): while the memo is empty each step leads to a task one reference lower, and the first leaf
-- that is so reached asks one of each.
use Rattle.std.specs.Prelude.{◌≡◌, length}
use Rattle.std.proofs.Math.Path.{refl, ap}
use Rattle.std.proofs.Common.{sym, ◌∙◌, subst}
use Rattle.std.proofs.Math.Option.{Option, none, some}
use mathlib.Core.List.{List, [], ◌∷◌}
use Prim.Native.Nat.{ℕ, zero, suc, ◌+◌, ◌-◌, ◌≤◌}
use native.Mathlib.Omega.{arith}
use Rattle.cost.specs.Cost.{Cost}
use Rattle.memo.specs.declared.MemoKey.{MemoKey}
use Rattle.layout.specs.Rules.{Rules}
use Rattle.layout.specs.Table.{Node, Empty, Break, HardLine, Text, Seq, Fill, Group, Align, Nest, Choice, Annotate, Penalty}
use Rattle.layout.specs.Frontier.{present as presented}
use Rattle.machine.specs.Events.{Bounds, Counts, Needs, no_counts, Kind, stack, memo, kept, frontier, plans, visit, Event, Prog, emit, ◌>>=◌, say}
use Rattle.machine.specs.Programs.{value, value_bind}
use Rattle.machine.specs.Enough.{asks, peak, peak_bind, InDomain, domain_first, domain_then}
use Rattle.machine.proofs.Enough.{necessary}
use Rattle.machine.specs.Just.{ended}
use Rattle.machine.proofs.Just.{answer_need}
use Rattle.machine.specs.Model.{Prepared, ExactChoice, PlanNode, Made, scratch, memo_key}
use Rattle.machine.specs.Model.{Task, Eval, CompleteChoiceSet, State, blank_state, with_tasks, with_memo}
use Rattle.machine.specs.Solver.{push_exact_task, push_exact_result, present, additional_plans, finish_builder, singleton, memo_insert, complete_node}
use Rattle.machine.specs.Solver.{checked_text, push_child, complete_singleton, begin_empty, begin_text, begin_newline, begin_sequence, begin_union, begin_group, begin_nest, skip_choices, push_alternatives, begin_choice, begin_kind, begin_known, begin_node}
use Rattle.machine.specs.Solver.{execute_task, step}
use Rattle.machine.specs.Solve.{work_off, work_off_all, evaluated, rest, solve_tasks, take_best, solve}
use Rattle.machine.specs.Materializer.{Rendered, materialize, render}
use Rattle.machine.specs.Answer.{paged, answer}
use Rattle.machine_right.specs.Relations.{Some, list_some}
use Rattle.machine_right.specs.Ready.{Ready}

-- ---- what a program asks, it asks by its first event or by a later one, in its first part or in the second

now : {A : Type 0} (x : Kind) (e : Event) (p : Prog A) → 1 ≤ asks x e → 1 ≤ peak x (emit e p)
unfolding peak
now x e p h = omega (arith, h)

later : {A : Type 0} (x : Kind) (e : Event) (p : Prog A) → 1 ≤ peak x p → 1 ≤ peak x (emit e p)
unfolding peak
later x e p h = omega (arith, h)

module _ {A B : Type 0} (m : Prog A) (f : A → Prog B) where
  first : (x : Kind) → 1 ≤ peak x m → 1 ≤ peak x (m >>= f)
  first x h = omega (arith, peak_bind x m f, h)

  second : (x : Kind) → 1 ≤ peak x (f (value m)) → 1 ≤ peak x (m >>= f)
  second x h = omega (arith, peak_bind x m f, h)

-- one of each of the solver's stores
record Asks {A : Type 0} (m : Prog A) : Type 0 where
  pub memo : 1 ≤ peak memo m
  pub kept : 1 ≤ peak kept m
  pub frontier : 1 ≤ peak frontier m
  pub plans : 1 ≤ peak plans m

module _ {A B : Type 0} (m : Prog A) (f : A → Prog B) where
  asks_first : Asks m → Asks (m >>= f)
  asks_first h = record { memo = first m f memo h.memo; kept = first m f kept h.kept; frontier = first m f frontier h.frontier; plans = first m f plans h.plans }

  asks_then : Asks (f (value m)) → Asks (m >>= f)
  asks_then h = record { memo = second m f memo h.memo; kept = second m f kept h.kept; frontier = second m f frontier h.frontier; plans = second m f plans h.plans }

-- ---- the first step at a node

-- a node to be evaluated over the tasks ts, with an empty memo
abbrev at_eval : MemoKey → List Task → State → State
at_eval q ts S = with_tasks (Eval q ∷ ts) (with_memo [] S)

-- over n tasks: a leaf is there, or another node is on top
data Leads (n : ℕ) (m : Prog State) : Type 0 where
  leaf : Asks m → Leads n m
  lower : (q : MemoKey) (ts : List Task) (S : State) → value m ≡ at_eval q ts S → n ≤ length ts → Leads n m

leads_then : {A : Type 0} (n : ℕ) (m : Prog A) (f : A → Prog State) → Leads n (f (value m)) → Leads n (m >>= f)
leads_then n m f (leaf a) = leaf (asks_then m f a)
leads_then n m f (lower q ts S e l) = lower q ts S (value_bind m f ∙ e) l

leads_under : (n : ℕ) {e : Event} (m : Prog State) → Leads n m → Leads n (emit e m)
leads_under n {e} m h = leads_then n (say e) (λ u. m) h

fewer : {n k : ℕ} {m : Prog State} → n ≤ k → Leads k m → Leads n m
fewer h (leaf a) = leaf a
fewer h (lower q ts S e l) = lower q ts S e (omega (arith, h, l))

module _ (R : Rules) (P : Prepared) where
  single_asks : (q : MemoKey) (c : Cost) (l : ℕ) (p : PlanNode) (S : State) → Asks (complete_singleton R P q (scratch c l (Made p)) S)
  unfolding complete_singleton singleton present presented finish_builder additional_plans complete_node memo_insert push_exact_result
  single_asks q c l p S = record {
    frontier = later frontier _ _ (later frontier _ _ (now frontier _ _ (omega arith)));
    plans = later plans _ _ (later plans _ _ (later plans _ _ (now plans _ _ (omega arith))));
    kept = later kept _ _ (later kept _ _ (later kept _ _ (later kept _ _ (now kept _ _ (omega arith)))));
    memo = later memo _ _ (later memo _ _ (later memo _ _ (later memo _ _ (later memo _ _ (later memo _ _ (now memo _ _ (omega arith)))))));
  }

  child_leads : (t : Task) (q : MemoKey) (S : State) → Leads (length S.tasks) (push_child R P t q (with_memo [] S))
  unfolding push_child push_exact_task
  child_leads t q S = lower q (t ∷ S.tasks) S refl (omega arith)

  union_leads : (a b : ℕ) (q : MemoKey) (S : State) → Leads (length S.tasks) (begin_union R P a b q (with_memo [] S))
  unfolding begin_union push_child push_exact_task
  union_leads a b q S = lower _ _ S refl (omega arith)

  sequence_leads : (ks : List ℕ) (q : MemoKey) (S : State) → Leads (length S.tasks) (begin_sequence R P ks q (with_memo [] S))
  unfolding begin_sequence begin_empty
  sequence_leads [] q S = leaf (single_asks q _ _ _ _)
  sequence_leads (k ∷ ks) q S = child_leads _ _ S

  group_leads : (k : ℕ) (o : Option ℕ) (q : MemoKey) (S : State) → Leads (length S.tasks) (begin_group R P k o q (with_memo [] S))
  unfolding begin_group
  group_leads k none q S = child_leads _ _ S
  group_leads k (some f) q S = union_leads f k q S

  -- the tasks that alternatives push
  record Over (S T : State) : Type 0 where
    pub tasks : List Task
    pub is : T ≡ with_tasks tasks S
    pub more_tasks : length S.tasks ≤ length tasks

  alternatives_over : (ks : List ℕ) (q : MemoKey) (S : State) → Over S (value (push_alternatives R P ks q S))
  unfolding push_alternatives push_exact_task
  alternatives_over [] q S = record { tasks = S.tasks; is = refl; more_tasks = omega arith }
  alternatives_over (k ∷ ks) q S =
      let h = alternatives_over ks q S in
      let f : State → Prog State = push_exact_task (Eval (memo_key k q.column q.indent)) in
      record {
        tasks = Eval (memo_key k q.column q.indent) ∷ h.tasks;
        is = value_bind (push_alternatives R P ks q S) f ∙ ap (λ (T : State). value (f T)) h.is;
        more_tasks = omega (arith, h.more_tasks);
      }

  list_leads : (k : ℕ) (ks : List ℕ) (q : MemoKey) (S : State) → Leads (length S.tasks) (push_alternatives R P (k ∷ ks) q (with_memo [] S))
  unfolding push_alternatives push_exact_task
  list_leads k ks q S =
      let h = alternatives_over ks q (with_memo [] S) in
      let f : State → Prog State = push_exact_task (Eval (memo_key k q.column q.indent)) in
      lower _ h.tasks S (value_bind (push_alternatives R P ks q (with_memo [] S)) f ∙ ap (λ (T : State). value (f T)) h.is) h.more_tasks

  -- the completing task lies under the alternatives
  choice_leads : (o : Option ExactChoice) (a b : ℕ) (q : MemoKey) (S : State) → ((l : ExactChoice) → o ≡ some l → Some l.alternatives) → Leads (length S.tasks) (begin_choice R P o a b q (with_memo [] S))
  unfolding begin_choice push_exact_task
  choice_leads none a b q S h = union_leads a b q S
  choice_leads (some l) a b q S h = leads_then _ (skip_choices R P l.skipped) _ (leads_under _ _ (go l.alternatives (h l refl)))
    where
      t : Task
      t = CompleteChoiceSet q (length S.results)

      go : (ks : List ℕ) → Some ks → Leads (length S.tasks) (push_alternatives R P ks q (with_tasks (t ∷ S.tasks) (with_memo [] S)))
      go [] n = absurd n
      go (k ∷ ks) n = fewer (omega arith) (list_leads k ks q (with_tasks (t ∷ S.tasks) S))

  kind_leads : (v : Node) (q : MemoKey) (S : State) → ((a b : ℕ) (l : ExactChoice) → v ≡ Choice a b → P.choices q.node ≡ some l → Some l.alternatives) → Leads (length S.tasks) (begin_kind R P v q (with_memo [] S))
  unfolding begin_kind begin_empty begin_text begin_newline begin_nest checked_text
  kind_leads Empty q S h = leaf (single_asks q _ _ _ _)
  kind_leads (Text t) q S h = leads_under _ _ (leaf (single_asks q _ _ _ _))
  kind_leads Break q S h = leaf (single_asks q _ _ _ _)
  kind_leads HardLine q S h = leaf (single_asks q _ _ _ _)
  kind_leads (Seq ks) q S h = sequence_leads ks q S
  kind_leads (Fill ks) q S h = sequence_leads ks q S
  kind_leads (Group k) q S h = group_leads k (P.table.flat k) q S
  kind_leads (Nest n k) q S h = leads_under _ _ (child_leads _ _ S)
  kind_leads (Align k) q S h = child_leads _ _ S
  kind_leads (Choice a b) q S h = choice_leads (P.choices q.node) a b q S (λ l e. h a b l refl e)
  kind_leads (Annotate a k) q S h = child_leads _ _ S
  kind_leads (Penalty n k) q S h = child_leads _ _ S

  module _ (K : Ready P) where
    step_leads : (q : MemoKey) (ts : List Task) (S : State) → Leads (length ts) (step R P (at_eval q ts S))
    unfolding step execute_task begin_node begin_known
    step_leads q ts S = leads_under _ _ (kind_leads (P.table.node q.node) q (with_tasks ts S) (λ a b l e o. list_some (K.lists q.node a b l e o)))

    -- one task at least is worked off
    off_asks : (ev : State → Prog State) (q : MemoKey) (ts : List Task) (S : State) (n : ℕ) → 1 ≤ n → Asks (ev (at_eval q ts S)) → Asks (work_off_all R P ev n (at_eval q ts S))
    unfolding work_off_all work_off
    off_asks ev q ts S zero h a = absurd (omega arith)
    off_asks ev q ts S (suc n) h a = asks_first (ev (at_eval q ts S)) _ a

    off_domain : (ev : State → Prog State) (q : MemoKey) (ts : List Task) (S : State) (n : ℕ) → 1 ≤ n → InDomain (work_off_all R P ev n (at_eval q ts S)) → InDomain (ev (at_eval q ts S))
    unfolding work_off_all work_off
    off_domain ev q ts S zero h d = absurd (omega arith)
    off_domain ev q ts S (suc n) h d = domain_first (ev (at_eval q ts S)) _ d

    -- how deep the first leaf lies is bounded, since a run that went deeper would not be in its widths
    evaluated_asks : (f : ℕ) (q : MemoKey) (ts : List Task) (S : State) → InDomain (evaluated R P f (at_eval q ts S)) → Asks (evaluated R P f (at_eval q ts S))
    unfolding evaluated InDomain
    evaluated_asks zero q ts S d = absurd d.0
    evaluated_asks (suc f) q ts S d = go (step_leads q ts S) (evaluated_asks f)
      where
        m : Prog State
        m = step R P (at_eval q ts S)

        next : State → Prog State
        next T = work_off_all R P (evaluated R P f) (length T.tasks + 1 - suc (length ts)) T

        go : Leads (length ts) m → ((p : MemoKey) (us : List Task) (T : State) → InDomain (evaluated R P f (at_eval p us T)) → Asks (evaluated R P f (at_eval p us T))) → Asks (m >>= next)
        go (leaf a) deeper = asks_first m next a
        go (lower p us T e l) deeper =
            let n : 1 ≤ suc (length us) + 1 - suc (length ts) = omega (arith, l) in
            let k : InDomain (next (at_eval p us T)) = subst (λ (z : State). InDomain (next z)) e (domain_then m next d) in
            asks_then m next (subst (λ (z : State). Asks (next z)) (sym e) (off_asks (evaluated R P f) p us T _ n (deeper p us T (off_domain (evaluated R P f) p us T _ n k))))

    tasks_ask : InDomain (solve_tasks R P) → Asks (solve_tasks R P)
    unfolding solve_tasks push_exact_task rest
    tasks_ask d =
        let q = memo_key P.root 0 0 in
        let ev = evaluated R P P.depth in
        let w = domain_then (push_exact_task (Eval q) blank_state) (rest R P) d in
        asks_then (push_exact_task (Eval q) blank_state) (rest R P) (off_asks ev q [] blank_state 1 (omega arith) (evaluated_asks P.depth q [] blank_state (off_domain ev q [] blank_state 1 (omega arith) w)))

    render_asks : InDomain (render R P) → Asks (render R P)
    unfolding render solve
    render_asks d = asks_first (solve R P) _ (asks_first (solve_tasks R P) (take_best R P) (tasks_ask (domain_first (solve_tasks R P) (take_best R P) (domain_first (solve R P) _ d))))

-- the six of a page's needs that are never 0
pub record Used (q : Needs) : Type 0 where
  pub stack : 1 ≤ q.stack
  pub memo : 1 ≤ q.memo
  pub kept : 1 ≤ q.kept
  pub frontier : 1 ≤ q.frontier
  pub plans : 1 ≤ q.plans
  pub visit : 1 ≤ q.visit

module _ (R : Rules) (P : Prepared) (K : Ready P) where
  -- the root's task is on the stack first, and on the visit stack its plan
  stack_asked : 1 ≤ peak stack (render R P)
  unfolding render solve solve_tasks push_exact_task
  stack_asked = now stack _ _ (omega arith)

  visit_asked : 1 ≤ peak visit (render R P)
  unfolding render materialize
  visit_asked = second (solve R P) _ visit (now visit _ _ (omega arith))

  pub used : (b : Bounds) (page : Rendered) (k : Counts) → answer R P b ≡ paged page k → Used k.needs
  used b page k h =
      let a = render_asks R P K (necessary b no_counts (render R P) (omega arith) (omega arith) (ended R P b page k h)).domain in
      let n = answer_need R P b page k h in
      record {
        stack = omega (arith, n stack, stack_asked);
        memo = omega (arith, n memo, a.memo);
        kept = omega (arith, n kept, a.kept);
        frontier = omega (arith, n frontier, a.frontier);
        plans = omega (arith, n plans, a.plans);
        visit = omega (arith, n visit, visit_asked);
      }
