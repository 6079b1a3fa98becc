-- The start of a call, whatever the working memory holds; and its end: the root's result, and the best candidate.
use mathlib.Core.Path.{◌≡◌, refl, sym, ap, ◌∙◌, subst}
use mathlib.Core.List.{List, [], ◌∷◌, map}
use Prim.Native.Nat.{ℕ, zero, suc, ◌≤◌, ◌<◌, ◌^◌}
use native.Mathlib.Omega.{arith}
use lib.ListN.{length, get_or, length-append, length-map}
use Rattle.layout.specs.Document.{Doc}
use Rattle.layout.specs.Layout.{Plan}
use Rattle.layout.specs.Reading.{document, document_reads}
use Rattle.layout.specs.Rules.{Rules}
use Rattle.layout.specs.Table.{Table}
use Rattle.memo.specs.declared.MemoKey.{MemoKey}
use Rattle.memo.specs.Entries.{listed}
use Rattle.memo.proofs.Uses.{slots_enough, fresh}
use Rattle.plan.specs.Arena.{arena}
use Rattle.machine.specs.Events.{Counts, Kind, stack, memo, kept, frontier, plans, size, need_of, with_needs, Prog, ret, ◌>>=◌, Out, done, stop, run, counted, PlanNodes, no_counts}
use Rattle.machine.proofs.Just.{need_within}
use Rattle.machine.specs.Programs.{run_bind, and_then}
use Rattle.machine.specs.Programs.{value as value_of_lem}
use Rattle.machine.specs.Model.{Prepared, Candidate, Scratch, part, range, within_range, memo_key, Task, Eval, State, blank_state, with_tasks, Got, got}
use Rattle.machine.specs.Solver.{push_exact_task, pop_exact_result}
use Rattle.machine.specs.Solve.{rest, Solved, best_of, solve_tasks, take_best, solve}
use Rattle.machine_right.specs.Post.{post_value}
use Rattle.machine_right.specs.Fronts.{Front, means}
use Rattle.machine_right.specs.Relations.{All2, nil, cons, all2_length, Some, laid, headed}
use Rattle.machine_right.specs.Typed.{Cont, c_done, c_eval, RangeDen}
use Rattle.machine_right.specs.Ready.{Ready}
use Rattle.machine_right.specs.Sound.{Inv, ResAt}
use Rattle.machine_right.specs.Rest.{Kept}
use Rattle.machine_right.specs.Found.{goal, tasks_end}
use Rattle.solve_workspace.specs.declared.Bounds.{Bounds}
use Rattle.solve_workspace.specs.declared.Registers.{Registers}
use Rattle.solve_workspace.specs.declared.Candidate.{Candidate as Code}
use Rattle.solve_workspace.specs.declared.Why.{Why}
use Rattle.solve_workspace.specs.declared.Reached.{Reached}
use Rattle.solve_workspace.specs.declared.Reached.TheVariants.{Go, Stop}
use Rattle.solve_workspace.specs.Meets.{limits, tally, counts, needs_in, reason, out, Sound, Meets}
use Rattle.solve_workspace.specs.Rows.{Row, at, pile, range_of, row_list, candidate_of, candidate, node_of, abs}
use Rattle.solve_workspace.specs.Frames.{Popped, Memory, no_entry}
use Rattle.solve_workspace.specs.Frames.{Kept as Stayed}
use Rattle.solve_workspace.specs.Stacks.{pop_is}
use Rattle.solve_workspace.specs.Words.{low_is}
use Rattle.solve_builder.specs.Building.{Begun}
use Rattle.solve_builder.specs.Opening.{begun_abs, begun_counts, begun_sound}
use Rattle.solve.specs.declared.SolverNeeds.{SolverNeeds}
use Rattle.std.specs.Prelude.{Ok}
use Rattle.solve.specs.Accepted.{Typed, MemoRoom, NeedsFit, Topped}
use Rattle.solve.specs.Outcome.{outcome, least_of, with_nodes, needs_low, solver_needs}
use Rattle.solve.proofs.Turns.{value_is}

-- ---- the start

-- the registers before the start
abbrev pub none_set : Registers
none_set = record {
  tasks = 0;
  results = 0;
  pending = 0;
  memo = 0;
  kept = 0;
  plans = 0;
  start = 0;
  len = 0;
  builder = record { root = 0; head = 0; tail = 0; free = 0; used = 0; live = 0 };
  stats = record { work_items = 0; fit_checks = 0; memo_hits = 0; memo_misses = 0; candidates_generated = 0; candidates_pruned = 0; peak_frontier = 0; memo_entries = 0; plan_nodes = 0; visits = 0 };
  peaks = record { stack = 0; memo = 0; frontier = 0 };
}

none_held : (b : Bounds) → b.stack < 2 ^ 32 → Sound b none_set
none_held b f = record {
  hits = omega arith;
  misses = omega arith;
  generated = omega arith;
  pruned = omega arith;
  work = omega arith;
  tasks = omega arith;
  results = omega arith;
  pending = omega arith;
  memo = omega arith;
  kept = omega arith;
  plans = omega arith;
  stack = f;
}

-- the registers of a call that begins
pub record Started (z : Registers) : Type 0 where
  pub begun : Begun none_set z

pub started : {g z : Registers} → g ≡ none_set → Begun g z → Started z
started {z = z} e h = record { begun = subst (λ (x : Registers). Begun x z) e h }

pub started_held : {b : Bounds} {g z : Registers} → g ≡ none_set → Begun g z → b.stack < 2 ^ 32 → Sound b z
started_held {b = b} e h f = begun_sound h (subst (λ (x : Registers). Sound b x) (sym e) (none_held b f))

blank_is : {z : Registers} → Started z → (ts rs ps es ks : List Row) (fs : List ℕ) (ns : List Row) → abs z ts rs ps es ks fs ns ≡ blank_state
unfolding abs listed arena
blank_is h ts rs ps es ks fs ns = begun_abs h.begun ts rs ps es ks fs ns

pub starts : (R : Rules) (P : Prepared) {z : Registers} → Started z → (ts rs ps es ks : List Row) (fs : List ℕ) (ns : List Row)
    → solve_tasks R P ≡ (push_exact_task (Eval (memo_key P.root 0 0)) (abs z ts rs ps es ks fs ns) >>= rest R P)
unfolding solve_tasks
starts R P h ts rs ps es ks fs ns = ap (λ (S : State). push_exact_task (Eval (memo_key P.root 0 0)) S >>= rest R P) (sym (blank_is h ts rs ps es ks fs ns))

pub from_start : {b : Bounds} {z : Registers} {p q : Prog State} {a : Reached} {f : Registers → State} → Started z → p ≡ q → Meets b (counts z) q a f → Meets b no_counts p a f
from_start {b = b} {z = z} {q = q} {a = a} {f = f} h e m =
    let k : counts z ≡ no_counts = begun_counts h.begun in
    record { is = ap (run (limits b) no_counts) e ∙ subst (λ (j : Counts). run (limits b) j q ≡ out a f) k m.is; sound = m.sound }

-- a memo of no entries, in any words
pub memory : (b : Bounds) (ss : List ℕ) (es : List Row) {z s : Registers} → Started z → Stayed z s → MemoRoom b ss es → Memory b s.memo ss es
unfolding listed
memory b ss es {z = z} h k m =
    let e : z.memo ≡ 0 = ap (λ (x : Registers). x.memo) h.begun.same in
    rw (k.memo, e) (record { index = fresh ss es m.slots; narrow = no_entry; slots = slots_enough m.slots; entries = m.entries })

pub typed_start : (R : Rules) (P : Prepared) → Ready P → (q : MemoKey) (b : Bounds) {z : Registers} → Started z → (k : Counts) (ts rs ps es ks : List Row) (fs : List ℕ) (ns : List Row) {a : Reached} {f : Registers → State} {s : Registers}
    → Meets b k (push_exact_task (Eval q) (abs z ts rs ps es ks fs ns)) a f → a ≡ Go s → Typed R P (f s)
unfolding push_exact_task
typed_start R P K q b h k ts rs ps es ks fs ns {f = f} {s = s} m e =
    let D = document P.table K.ranked in
    let v : with_tasks (Eval q ∷ []) blank_state ≡ f s = ap (λ (S : State). with_tasks (Eval q ∷ S.tasks) S) (sym (blank_is h ts rs ps es ks fs ns)) ∙ value_is m e in
    record {
      documents = D;
      reads = document_reads P.table K.ranked;
      goal = means R P.table D q;
      inv = subst (λ (S : State). Inv R P D (means R P.table D q) S) v (record { types = []; conts = c_eval c_done; res = nil; memos = tt });
    }

-- ---- the end

done_types : {R : Rules} {T : Table} {D : ℕ → Doc} {g : Front} {k : List Candidate} {ps : List Plan} {Es : List Front} {qs : List Scratch} → Cont R T D g k ps [] Es qs → Es ≡ g ∷ []
done_types c_done = refl

-- sizes are numbers of 32 bits
pub record Narrow (b : Bounds) : Type 0 where
  pub stack : b.stack < 2 ^ 32
  pub memo : b.memo < 2 ^ 32
  pub kept : b.kept < 2 ^ 32
  pub frontier : b.frontier < 2 ^ 32
  pub plans : b.plans < 2 ^ 32

-- no more was needed than was lent
needs_fit : (R : Rules) (P : Prepared) (b : Bounds) {f : Registers → State} (a : Reached) (s : Registers) → Meets b no_counts (solve_tasks R P) a f → a ≡ Go s → Narrow b → NeedsFit s
needs_fit R P b {f = f} a s m q n =
    let h : run (limits b) no_counts (solve_tasks R P) ≡ done (counts s) (f s) = m.is ∙ ap (λ x. out x f) q in
    let w : (x : Kind) → need_of (counts s).needs x ≤ size (limits b) x =
    need_within (limits b) no_counts (record { works_le = omega arith; visits_le = omega arith; none_yet = refl }) (solve_tasks R P) h in
    record {
      stack = omega (arith, w stack, n.stack);
      memo = omega (arith, w memo, n.memo);
      kept = omega (arith, w kept, n.kept);
      frontier = omega (arith, w frontier, n.frontier);
      plans = omega (arith, w plans, n.plans);
    }

-- the result on top, of a stack with one
pub record Top (rows : List Row) (n : ℕ) : Type 0 where
  pub under : ℕ
  pub some : n ≡ suc under
  pub filled : 1 ≤ at (get_or rows under []) 1

top_is : (R : Rules) (T : Table) (D : ℕ → Doc) (k : List Candidate) (ps : List Plan) (F : Front) (rows : List Row) (n : ℕ) → All2 (RangeDen R T D k ps) (pile range_of rows n) (F ∷ []) → Top rows n
top_is R T D k ps F rows zero h = absurd (omega (arith, all2_length h))
top_is R T D k ps F rows (suc n) (cons d t) = record { under = n; some = refl; filled = let c = (headed d).count in omega (arith, c) }

topped_as : (R : Rules) (P : Prepared) (D : ℕ → Doc) (F : Front) (s : Registers) (ts rs ps es ks : List Row) (fs : List ℕ) (ns : List Row) → ResAt R P D F (abs s ts rs ps es ks fs ns) (F ∷ []) → Top rs s.results
unfolding abs
topped_as R P D F s ts rs ps es ks fs ns h = top_is R P.table D _ _ F rs s.results h

pub topped : (R : Rules) (P : Prepared) → Ready P → (b : Bounds) (ts rs ps es ks : List Row) (fs : List ℕ) (ns : List Row) (a : Reached) (s : Registers)
    → Meets b no_counts (solve_tasks R P) a (λ z. abs z ts rs ps es ks fs ns) → a ≡ Go s → Sound b s → Narrow b → b.stack ≤ length rs → b.kept ≤ length ks → Topped s rs ks
topped R P K b ts rs ps es ks fs ns a s m q h nb lr lk =
    let D = document P.table K.ranked in
    let reads = document_reads P.table K.ranked in
    let g = goal R P D K reads in
    let S = abs s ts rs ps es ks fs ns in
    let k : Kept R P D g K reads [] S = subst (λ (Z : State). Kept R P D g K reads [] Z) (value_is m q) (post_value (tasks_end R P D K reads)) in
    let c : Cont R P.table D g S.retained (laid P.table S.plans) [] k.inv.types S.pending =
    subst (λ (z : List Task). Cont R P.table D g S.retained (laid P.table S.plans) z k.inv.types S.pending) k.tasks_are k.inv.conts in
    let t : Top rs s.results = topped_as R P D g s ts rs ps es ks fs ns (subst (λ (z : List Front). ResAt R P D g S z) (done_types c) k.inv.res) in
    record { under = t.under; some = t.some; lent = omega (arith, h.results, lr); kept = omega (arith, h.kept, lk); filled = t.filled; needs_fit = needs_fit R P b a s m q nb }

-- ---- the best candidate

some_part : (K : List Candidate) (s n : ℕ) → 1 ≤ n → Some (part K s n)
some_part K s zero h = absurd (omega arith)
some_part K s (suc n) h = tt

best_run : (b : Bounds) (k : Counts) (cs : List Candidate) (S : State) → Some cs
    → run (limits b) k (best_of cs S) ≡ done (counted k (PlanNodes (length S.plans))) (record { root = (least_of cs).plan.plan; cost = (least_of cs).cost; plans = S.plans })
best_run b k [] S h = absurd h
best_run b k (c ∷ cs) S h = refl

pub arena_length : (ns : List Row) (n : ℕ) → length (arena ns n) ≡ n
unfolding arena
arena_length ns zero = refl
arena_length ns (suc n) = length-append (arena ns n) _ ∙ omega (arith, arena_length ns n)

-- the popped range is the one on top
pub popped_len : (st s : Registers) (rs ks : List Row) (t : Topped st rs ks) → pop_exact_result (abs st [] rs [] [] ks [] []) ≡ ret (got (range s.start s.len) (abs s [] rs [] [] ks [] [])) → 1 ≤ s.len
popped_len st s rs ks t e =
    let l : at (get_or rs t.under []) 1 ≡ s.len = ap (λ (p : Prog Got). (value_of_lem p).range.len) (sym (pop_is st [] rs [] [] ks [] [] t.under t.some) ∙ e) in
    omega (arith, l, t.filled)

kept_of : (s : Registers) (ts rs ps es ks : List Row) (fs : List ℕ) (ns : List Row) → (abs s ts rs ps es ks fs ns).retained ≡ row_list candidate_of ks s.kept
unfolding abs
kept_of s ts rs ps es ks fs ns = refl

plans_of : (s : Registers) (ts rs ps es ks : List Row) (fs : List ℕ) (ns : List Row) → (abs s ts rs ps es ks fs ns).plans ≡ map node_of (arena ns s.plans)
unfolding abs
plans_of s ts rs ps es ks fs ns = refl

-- the needs are told whole
needs_same : (st : Registers) → NeedsFit st → solver_needs (needs_low st) ≡ needs_in st
needs_same st y =
    rw (low_is (needs_in st).stack y.stack, low_is (needs_in st).memo y.memo, low_is (needs_in st).kept y.kept, low_is (needs_in st).frontier y.frontier, low_is (needs_in st).plans y.plans)

pub best_is : (b : Bounds) (R : Rules) (P : Prepared) (st s : Registers) (ts rs ps es ks : List Row) (fs : List ℕ) (ns : List Row) (best : Code)
    → pop_exact_result (abs st ts rs ps es ks fs ns) ≡ ret (got (range s.start s.len) (abs s ts rs ps es ks fs ns)) → Popped st s → 1 ≤ s.len
    → candidate best ≡ least_of (part (row_list candidate_of ks s.kept) s.start s.len) → (n : SolverNeeds) → n ≡ needs_low st → NeedsFit st
    → run (limits b) (counts st) (take_best R P (abs st ts rs ps es ks fs ns)) ≡ outcome (Ok (record { root = best.plan; cost = best.cost; plans = s.plans; stats = with_nodes s.stats s.plans; needs = n })) ns
unfolding take_best
best_is b R P st s ts rs ps es ks fs ns best e p l c d v y =
    let S = abs s ts rs ps es ks fs ns in
    let cs = part (row_list candidate_of ks s.kept) s.start s.len in
    let t = with_nodes s.stats s.plans in
    let n : length (map node_of (arena ns s.plans)) ≡ s.plans = length-map (arena ns s.plans) node_of ∙ arena_length ns s.plans in
    let k : counted (counts st) (PlanNodes (length S.plans)) ≡ with_needs (tally t) (solver_needs d) = rw (plans_of s ts rs ps es ks fs ns, n, p.stats, v, needs_same st y) in
    ap (λ (m : Prog Got). run (limits b) (counts st) (m >>= (λ G. best_of (within_range G.state.retained G.range) G.state))) e
    ∙ ap (λ (r : List Candidate). run (limits b) (counts st) (best_of (part r s.start s.len) S)) (kept_of s ts rs ps es ks fs ns)
    ∙ best_run b (counts st) cs S (some_part (row_list candidate_of ks s.kept) s.start s.len l)
    ∙ ap (λ (j : Counts). done j (record { root = (least_of cs).plan.plan; cost = (least_of cs).cost; plans = S.plans })) k
    ∙ ap (λ (x : Candidate). done (with_needs (tally t) (solver_needs d)) (record { root = x.plan.plan; cost = x.cost; plans = S.plans })) (sym c)
    ∙ ap (λ (ps : List _). done (with_needs (tally t) (solver_needs d)) (record { root = (candidate best).plan.plan; cost = (candidate best).cost; plans = ps })) (plans_of s ts rs ps es ks fs ns)

-- ---- both

pub solved : {b : Bounds} (R : Rules) (P : Prepared) {a : Reached} {f : Registers → State} {s : Registers} {o : Out Solved}
    → Meets b no_counts (solve_tasks R P) a f → a ≡ Go s → run (limits b) (counts s) (take_best R P (f s)) ≡ o → run (limits b) no_counts (solve R P) ≡ o
unfolding solve
solved {b = b} R P {f = f} m q r =
    run_bind (limits b) no_counts (solve_tasks R P) (take_best R P) ∙ (ap (λ x. and_then (limits b) x (take_best R P)) (m.is ∙ ap (λ x. out x f) q) ∙ r)

pub refused : {b : Bounds} (R : Rules) (P : Prepared) {a : Reached} {f : Registers → State} {s : Registers} {w : Why} {n : ℕ}
    → Meets b no_counts (solve_tasks R P) a f → a ≡ Stop w n s → run (limits b) no_counts (solve R P) ≡ stop (reason w) n (tally s.stats)
unfolding solve
refused {b = b} R P {f = f} m q =
    run_bind (limits b) no_counts (solve_tasks R P) (take_best R P) ∙ ap (λ x. and_then (limits b) x (take_best R P)) (m.is ∙ ap (λ x. out x f) q)
