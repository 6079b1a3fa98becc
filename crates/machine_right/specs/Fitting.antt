-- Layouts and candidates whose columns and costs have a place in their widths, and what the solver's operations make of them where no domain test stops.
use Rattle.std.specs.Prelude.{ℕ, ◌+◌, ◌<◌, ◌^◌, Bool, true, false, cond, ◌≡◌, length}
use Rattle.std.proofs.Common.{arith, add-one, sym, subst}
use Rattle.std.proofs.Math.Bool.{not}
use mathlib.Core.List.{List, [], ◌∷◌, ◌++◌, append-nil}
use Rattle.cost.specs.Cost.{Cost, add}
use Rattle.cost.specs.Charge.{text_cost}
use Rattle.memo.specs.declared.CandidateRange.{CandidateRange}
use Rattle.layout.specs.Rules.{Rules}
use Rattle.layout.specs.Layout.{Plan, blank, put, line, join, mark, fee, last}
use Rattle.layout.specs.Frontier.{Cand, covers, any, keep, cons_if}
use Rattle.layout.specs.Frontier.{present as presented}
use Rattle.layout.specs.Table.{Table}
use Rattle.machine.specs.Events.{Prog, ret, emit, ◌>>=◌, Event}
use Rattle.machine.specs.Programs.{value}
use Rattle.machine.specs.Enough.{Fine, InDomain}
use Rattle.machine.specs.Model.{Prepared, PlanNode, Candidate, Scratch, State, with_tasks, with_results, with_pending, with_builder, with_stores, Task, Got, got, range}
use Rattle.machine.specs.Solver.{push_exact_task, push_exact_result, push_pending, popped, checked_add, present, present_all, ranked, finish_builder, committed, additional_plans, checked_text}
use Rattle.machine_right.specs.Relations.{All2, nil, cons, Some, some_present, Ext, ext_by, laid, laid_length, laid_append, commits, length_committed, Waits, Holds, Den, den_new, Rise, rise_present, present_like, rising_committed}
use Rattle.machine.specs.Model.{layouts_after}
use Rattle.machine_right.specs.Fronts.{Front}
use Rattle.machine_right.specs.Sound.{Each}

-- no text or newline of the layout, from column c on, passes 2^32 columns
abbrev pub Cols : Plan → ℕ → Type 0
Cols blank c = Unit {0}
Cols (put t) c = c + t.width < 2 ^ 32
Cols (line i) c = i < 2 ^ 32
Cols (join p q) c = Cols p c × Cols q (last p c)
Cols (mark k p) c = Cols p c
Cols (fee n p) c = Cols p c

-- a candidate that starts at column c
pub record Fit (c : ℕ) (y : Cand Plan) : Type 0 where
  pub cols : Cols y.plan c
  pub ends_at : last y.plan c ≡ y.column
  pub column_small : y.column < 2 ^ 32
  pub overflow_small : y.cost.overflow < 2 ^ 128
  pub burden_small : y.cost.burden < 2 ^ 64

module _ (Q : Cand Plan → Type 0) where
  each_if : (t : Bool) (x : Cand Plan) (l : Front) → Q x → Each Q l → Each Q (cons_if t x l)
  each_if true x l q h = (q, h)
  each_if false x l q h = h

  each_keep : (f : Cand Plan → Bool) (l : Front) → Each Q l → Each Q (keep f l)
  each_keep f [] h = tt
  each_keep f (x ∷ l) h = each_if (f x) x (keep f l) h.0 (each_keep f l h.1)

  pub each_append : (l m : Front) → Each Q l → Each Q m → Each Q (l ++ m)
  each_append [] m h g = g
  each_append (x ∷ l) m h g = (h.0, each_append l m h.1 g)

  each_cond : (t : Bool) (l m : Front) → Each Q l → Each Q m → Each Q (cond t l m)
  each_cond true l m h g = h
  each_cond false l m h g = g

  pub each_present : (l : Front) (x : Cand Plan) → Each Q l → Q x → Each Q (presented covers l x)
  unfolding presented
  each_present l x h q = each_cond (any (λ k. covers k x) l) l _ h (each_append (keep (λ k. not (covers x k)) l) (x ∷ []) (each_keep (λ k. not (covers x k)) l h) (q, tt))

-- ---- programs that no domain test stops

pub data Fined {A : Type 0} (Q : A → Type 0) : Prog A → Type 0 where
  ends : {a : A} → Q a → Fined Q (ret a)
  says : {e : Event} {p : Prog A} → (Fine e → Fined Q p) → Fined Q (emit e p)

pub fined : {A B : Type 0} {f : A → Prog B} {Q : B → Type 0} {m : Prog A} → Fined (λ a. Fined Q (f a)) m → Fined Q (m >>= f)
fined (ends h) = h
fined (says h) = says (λ f. fined (h f))

pub fined_value : {A : Type 0} {Q : A → Type 0} {m : Prog A} → Fined Q m → InDomain m → Q (value m)
unfolding InDomain
fined_value (ends h) d = h
fined_value (says h) d = fined_value (h d.0) d.1

pub fined_imp : {A : Type 0} {Q W : A → Type 0} {m : Prog A} → ((a : A) → Q a → W a) → Fined Q m → Fined W m
fined_imp f (ends h) = ends (f _ h)
fined_imp f (says h) = says (λ d. fined_imp f (h d))

-- ---- rules

pub task_fits : (x : Task) (S : State) {Q : State → Type 0} → Q (with_tasks (x ∷ S.tasks) S) → Fined Q (push_exact_task x S)
unfolding push_exact_task
task_fits x S h = says (λ _. ends h)

pub result_fits : (r : CandidateRange) (S : State) {Q : State → Type 0} → Q (with_results (r ∷ S.results) S) → Fined Q (push_exact_result r S)
unfolding push_exact_result
result_fits r S h = says (λ _. ends h)

pub pending_fits : (c : Scratch) (S : State) {Q : State → Type 0} → Q (with_pending (S.pending ++ (c ∷ [])) S) → Fined Q (push_pending c S)
unfolding push_pending
pending_fits c S h = says (λ _. ends h)

pub add_fits : (a b : Cost) {Q : Cost → Type 0} → ((add a b).overflow < 2 ^ 128 → (add a b).burden < 2 ^ 64 → Q (add a b)) → Fined Q (checked_add a b)
unfolding checked_add
add_fits a b h = says (λ o. says (λ u. ends (h o u)))

pub text_fits : (R : Rules) (P : Prepared) (c w : ℕ) {Q : Cost → Type 0} → (c + w < 2 ^ 32 → Q (text_cost R.charge c w)) → Fined Q (checked_text R P c w)
unfolding checked_text
text_fits R P c w h = says (λ d. ends (h d))

pub pop_fits : {W : CandidateRange → ℕ → Type 0} (l : List CandidateRange) (S : State) {c : ℕ} {cs : List ℕ} {Q : Got → Type 0} → All2 W l (c ∷ cs)
    → ((r : CandidateRange) (rs : List CandidateRange) → W r c → All2 W rs cs → Q (got r (with_results rs S))) → Fined Q (popped l S)
pop_fits l S (cons x xs) h = ends (h _ _ x xs)

-- the candidates presented so far, from column c on
pub record Built (T : Table) (ps : List Plan) (c : ℕ) (b : List Scratch) (g : ℕ) : Type 0 where
  pub front : Front
  pub waits : All2 (Waits T ps) b front
  pub fit : Each (Fit c) front
  pub rise : Rise 0 b g

-- a range of the store, from column c on
pub record Ranged (T : Table) (k : List Candidate) (ps : List Plan) (c s n : ℕ) : Type 0 where
  pub front : Front
  pub den : Den T k ps s n front
  pub fit : Each (Fit c) front

abbrev pub built_none : (T : Table) (ps : List Plan) (c g : ℕ) → Built T ps c [] g
built_none T ps c g = record { front = []; waits = nil; fit = tt; rise = omega arith }

module _ (T : Table) (ps : List Plan) (c : ℕ) where
  pub present_fits : (x : Scratch) (S : State) {y : Cand Plan} {Q : State → Type 0} → Waits T ps x y → Fit c y → Built T ps c S.builder S.generated
      → ((b : List Scratch) (g : ℕ) (B : Built T ps c b g) → Some B.front → Q (with_builder b g S)) → Fined Q (present x S)
  unfolding present
  present_fits x S {y} w f B h =
      let up : Rise 0 (presented covers S.builder (ranked S.generated x)) (S.generated + 1) = rw (add-one S.generated) (rise_present 0 S.builder (ranked S.generated x) B.rise) in
      says (λ _. says (λ _. says (λ _. ends (h _ _ (record {
        front = presented covers B.front y;
        waits = present_like B.waits (record { same_cost = w.same_cost; same_column = w.same_column; same_plan = w.same_plan });
        fit = each_present (Fit c) B.front y B.fit f;
        rise = up;
      }) (some_present B.front y)))))

  pub present_all_fits : (cs : List Scratch) (S : State) {G : Front} {Q : State → Type 0} → All2 (Waits T ps) cs G → Each (Fit c) G → (B : Built T ps c S.builder S.generated) → Some (B.front ++ G)
      → ((b : List Scratch) (g : ℕ) (B' : Built T ps c b g) → Some B'.front → Q (with_builder b g S)) → Fined Q (present_all cs S)
  unfolding present_all
  present_all_fits [] S nil f B s h = ends (h _ _ B (subst (λ (z : Front). Some z) (append-nil B.front) s))
  present_all_fits (x ∷ cs) S (cons {ys = G} w ws) f B s h =
      fined (present_fits x S w f.0 B λ b g B' s'. present_all_fits cs (with_builder b g S) ws f.1 B' (some_left B'.front G s') h)
    where
      some_left : (F G : Front) → Some F → Some (F ++ G)
      some_left [] G z = absurd z
      some_left (y ∷ F) G z = tt

pub finish_fits : (T : Table) (c : ℕ) (S : State) {Q : Got → Type 0} → (B : Built T (laid T S.plans) c S.builder S.generated) → Some B.front
    → ((k : List Candidate) (p : List PlanNode) → Ext S.retained k → Ext (laid T S.plans) (laid T p) → Ranged T k (laid T p) c (length S.retained) (length S.builder)
    → Q (got (range (length S.retained) (length S.builder)) (with_stores k p S))) → Fined Q (finish_builder S)
unfolding finish_builder
finish_fits T c S B s h =
    let C = commits T (laid T S.plans) S.builder B.waits in
    let e = laid_append T S.plans (additional_plans S.builder) in
    let n = laid_length T S.plans in
    let xs = committed (length S.plans) S.builder in
    let hs : All2 (Holds T (laid T (S.plans ++ additional_plans S.builder))) xs B.front =
    subst (λ (z : List Plan). All2 (Holds T z) xs B.front) (sym e)
    (subst (λ (m : ℕ). All2 (Holds T (layouts_after T (laid T S.plans) (additional_plans S.builder))) (committed m S.builder) B.front) n C.holds) in
    says (λ _. says (λ _. says (λ _. ends (h _ _ (ext_by xs) (subst (λ (z : List Plan). Ext (laid T S.plans) z) (sym e) C.grown) (record {
      front = B.front;
      den = subst (λ (m : ℕ). Den T (S.retained ++ xs) (laid T (S.plans ++ additional_plans S.builder)) (length S.retained) m B.front) (length_committed (length S.plans) S.builder)
          (den_new S.retained hs s (rising_committed _ 0 S.builder _ B.rise));
      fit = B.fit;
    })))))
