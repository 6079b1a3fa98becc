-- Where no domain test stops the solver, the chosen layout's columns and cost, and every sum on the materializer's walk, have their place: 11 cannot come from the walk.
use Rattle.std.specs.Prelude.{ℕ, zero, suc, ◌≤◌, ◌<◌, ◌^◌, Bool, true, false, cond, ◌≡◌, refl}
use Rattle.std.proofs.Common.{arith, le_refl, lt_of_lt_of_le, leb-true, sym}
use mathlib.Core.List.{List, [], ◌∷◌}
use Rattle.std.proofs.Math.Path.{subst}
use Rattle.cost.specs.Cost.{Cost, zero_cost, cheaper}
use Rattle.cost.specs.Rising.{charged_small}
use Rattle.layout.specs.Rules.{Rules, charging, policy}
use Rattle.layout.specs.Layout.{Plan}
use Rattle.layout.specs.Frontier.{Cand, least_from}
use Rattle.layout.specs.Table.{Table}
use Rattle.machine.specs.Events.{Bounds, Counts, no_counts, Prog, Out, done, run}
use Rattle.machine.specs.Programs.{value, done_is}
use Rattle.machine.specs.Enough.{InDomain}
use Rattle.machine.proofs.Enough.{necessary}
use Rattle.machine.specs.Model.{Prepared, Candidate, Scratch, plan_at, Task, Eval, memo_key, State, blank_state, with_tasks}
use Rattle.machine.specs.Solve.{rest, Solved, least_key, best_of, solve_tasks, take_best, solve}
use Rattle.machine.specs.Materializer.{recount}
use Rattle.machine_right.specs.Relations.{All2, nil, cons, Holds, Rising, laid, plan_at_is}
use Rattle.machine_right.specs.Fronts.{Front}
use Rattle.machine_right.specs.Ready.{Ready}
use Rattle.machine_right.specs.Sound.{Each}
use Rattle.machine_right.specs.Falls.{left}
use Rattle.machine_right.specs.Found.{least_key_is, least_like}
use Rattle.machine_right.specs.Loop.{Alive, alive_at_start, turned, over}
use Rattle.machine_right.specs.Materialized.{Sums, sums}
use Rattle.machine_right.specs.Fitting.{Cols, Fit, Fined, ends, says, fined, fined_value, fined_imp, task_fits, pop_fits}
use Rattle.machine_right.specs.Columns.{Mild, KeyFit, RangedAt, Lay, l_done, l_eval, Fits, step_fits}

-- what holds at the end, with what is known of the value
fined_with : {A : Type 0} {Q W : A → Type 0} {m : Prog A} → Fined Q m → W (value m) → Fined (λ a. Q a × W a) m
fined_with (ends h) w = ends (h, w)
fined_with (says h) w = says (λ f. fined_with (h f) w)

-- the layout that is found, and its cost
pub record InPlace (T : Table) (core : Solved) : Type 0 where
  pub columns : Cols (plan_at T core.plans core.root) 0
  pub overflow_small : core.cost.overflow < 2 ^ 128
  pub burden_small : core.cost.burden < 2 ^ 64

each_least : (Q : Cand Plan → Type 0) (y : Cand Plan) (ys : Front) → Q y → Each Q ys → Q (least_from y ys)
each_least Q y [] h g = h
each_least Q y (x ∷ ys) h g = each_least Q (cond (cheaper x.cost y.cost) x y) ys (go (cheaper x.cost y.cost)) g.1
  where
    go : (t : Bool) → Q (cond t x y)
    go true = g.0
    go false = h

best_fits : (T : Table) (cs : List Candidate) (S : State) {F : Front} → All2 (Holds T (laid T S.plans)) cs F → Rising 0 cs → Each (Fit 0) F → Fined (InPlace T) (best_of cs S)
best_fits T [] S h u f = says (λ n. absurd n)
best_fits T (c ∷ cs) S (cons {b = y} {ys = ys} h t) u f =
    let l : Holds T (laid T S.plans) (least_key c cs) (least_from y ys) = subst (λ (z : Candidate). Holds T (laid T S.plans) z (least_from y ys)) (sym (least_key_is c cs u.1)) (least_like h t) in
    let g : Fit 0 (least_from y ys) = each_least (Fit 0) y ys f.0 f.1 in
    says (λ _. ends (record {
      columns = subst (λ (z : Plan). Cols z 0) (sym (plan_at_is T S.plans _ l.same_plan)) g.cols;
      overflow_small = subst (λ (z : Cost). z.overflow < 2 ^ 128) (sym l.same_cost) g.overflow_small;
      burden_small = subst (λ (z : Cost). z.burden < 2 ^ 64) (sym l.same_cost) g.burden_small;
    }))

module _ (R : Rules) (M : Mild R) (P : Prepared) (K : Ready P) where
  record Over (S : State) : Type 0 where
    pub fits : Fits R M P K S
    pub none : S.tasks ≡ []

  turn_fits : (S : State) → Alive R P K S → Fits R M P K S → ((S₁ : State) → left R P S₁ < left R P S → Alive R P K S₁ → Fits R M P K S₁ → Fined Over (rest R P S₁))
      → (ts : List Task) → S.tasks ≡ ts → Fined Over (rest R P S)
  turn_fits S a f ih [] e = subst (λ (p : Prog State). Fined Over p) (sym (over R P K S e)) (ends (record { fits = f; none = e }))
  turn_fits S a f ih (x ∷ ts) e =
      let t = turned R P K x ts S e a in
      subst (λ (p : Prog State). Fined Over p) (sym t.law)
      (fined (fined_imp (λ S₁ g. ih S₁ g.1.1 g.1.0 g.0) (fined_with {W = λ S₁. Alive R P K S₁ × (left R P S₁ < left R P S)} (step_fits R M P K x ts S e f) (t.alive, t.fewer))))

  run_fits : (n : ℕ) (S : State) → left R P S ≤ n → Alive R P K S → Fits R M P K S → Fined Over (rest R P S)
  run_fits zero S h a f = turn_fits S a f (λ S₁ l b g. absurd (omega arith)) S.tasks refl
  run_fits (suc n) S h a f = turn_fits S a f (λ S₁ l b g. run_fits n S₁ (omega arith) b g) S.tasks refl

  start_fits : Fits R M P K (with_tasks (Eval (memo_key P.root 0 0) ∷ []) blank_state)
  start_fits =
      let k : KeyFit (memo_key P.root 0 0) = record { column_small = omega arith; indent_small = omega arith } in
      record { columns = []; lay = l_eval k l_done; res = nil; memo = tt }

  at_end : {k : List Candidate} {ps : List Plan} {cs : List ℕ} {qs : List Scratch} → Lay P.table k ps [] cs qs → cs ≡ 0 ∷ []
  at_end l_done = refl

  taken_fits : (S : State) → Over S → Fined (InPlace P.table) (take_best R P S)
  unfolding take_best
  taken_fits S o =
      let f = o.fits in
      let l : Lay P.table S.retained (laid P.table S.plans) [] f.columns S.pending =
      subst (λ (z : List Task). Lay P.table S.retained (laid P.table S.plans) z f.columns S.pending) o.none f.lay in
      let rs : All2 (RangedAt P.table S.retained (laid P.table S.plans)) S.results (0 ∷ []) =
      subst (λ (z : List ℕ). All2 (RangedAt P.table S.retained (laid P.table S.plans)) S.results z) (at_end l) f.res in
      fined (pop_fits _ S rs λ r rs' d rest. best_fits P.table _ _ d.den.holds d.den.rising d.fit)

  solve_fits : Fined (InPlace P.table) (solve R P)
  unfolding solve solve_tasks
  solve_fits = fined (fined_imp taken_fits (fined (task_fits (Eval (memo_key P.root 0 0)) blank_state (run_fits (left R P (with_tasks (Eval (memo_key P.root 0 0) ∷ []) blank_state)) _ (le_refl _) (alive_at_start R P K) start_fits))))

  pub in_place : InDomain (solve R P) → InPlace P.table (value (solve R P))
  in_place d = fined_value solve_fits d

  -- whatever the bounds
  pub solved_in_place : (b : Bounds) {j : Counts} {core : Solved} → run b no_counts (solve R P) ≡ done j core → InPlace P.table core
  solved_in_place b {j} {core} h =
      let d = (necessary b no_counts (solve R P) (omega arith) (omega arith) h).domain in
      let e : ◌≡◌ {A = Out Solved} (done j core) (done _ (value (solve R P))) = done_is b no_counts (solve R P) h in
      let v : core ≡ value (solve R P) = cc in
      subst (λ (z : Solved). InPlace P.table z) (sym v) (in_place d)

-- and no sum on the walk is more than the last one, which is the layout's cost
pub walk_in_place : (R : Rules) (p : Plan) → Sums R p 0 zero_cost (recount R p 0 zero_cost)
walk_in_place R p = sums R p 0 zero_cost (recount R p 0 zero_cost) (record { overflow_below = omega arith; burden_below = omega arith })

-- the rules of any settings are such: what a column is charged has its place under either rule, and so has a newline cost of 32 bits
policy_le : (p w i : ℕ) → policy p w i ≤ i
policy_le zero w i = omega arith
policy_le (suc p) w i = omega arith

pub charging_mild : (r w n p : ℕ) → n < 2 ^ 64 → Mild (charging r w n p)
charging_mild r w n p h = record { charge_small = λ c s. lt_of_lt_of_le (charged_small r w c s) (leb-true (2 ^ 64) (2 ^ 128) refl); newline_small = h; lower_le = policy_le p w }
