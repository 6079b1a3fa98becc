-- What the solver finds: the first least candidate of the root's frontier, with the plan that stands for its layout.
use Rattle.std.specs.Prelude.{ℕ, suc, ◌<◌, Bool, true, false, ◌&&◌, ◌||◌, cond, ◌≡◌, refl}
use Rattle.std.proofs.Common.{arith, sym, ap, ap₂, ◌∙◌, le-ltb}
use Rattle.std.proofs.Math.Bool.{or-false, and-false}
use Rattle.std.proofs.Math.Option.{some}
use mathlib.Core.List.{List, [], ◌∷◌}
use Rattle.std.proofs.Math.Path.{subst}
use Rattle.cost.specs.Cost.{cheap, cheaper}
use Rattle.layout.specs.Document.{Doc}
use Rattle.layout.specs.Rules.{Rules}
use Rattle.layout.specs.Layout.{Plan}
use Rattle.layout.specs.Table.{Table}
use Rattle.layout.specs.Table.{Reads as ReadsAs}
use Rattle.layout.specs.Frontier.{Cand, least_from, least}
use Rattle.machine.specs.Model.{Prepared, Candidate, Scratch, plan_at, Task, Eval, memo_key, State, blank_state}
use Rattle.machine.specs.Solve.{Solved, before, least_key, best_of, solve_tasks, take_best, solve}
use Rattle.machine_right.specs.Relations.{All2, nil, cons, Some, Like, Holds, Rising, rising_lower, laid, plan_at_is}
use Rattle.machine_right.specs.Post.{Post, holds_of, says, post_bind, post_imp}
use Rattle.machine_right.specs.Rules.{task_post, pop_post}
use Rattle.machine_right.specs.Fronts.{Front, means}
use Rattle.machine_right.specs.Typed.{Cont, c_done, c_eval}
use Rattle.machine_right.specs.Ready.{Ready}
use Rattle.machine_right.specs.Sound.{ResAt, Inv}
use Rattle.machine_right.specs.Rest.{Kept, rest_ends}

-- ---- the least by cost and precedence is the first least by cost, since precedences rise

before_is : (x c : Candidate) → c.plan.precedence < x.plan.precedence → before x c ≡ cheaper x.cost c.cost
unfolding before
before_is x c h =
    ap (λ (t : Bool). cheaper x.cost c.cost || (cheap x.cost c.cost && t)) (le-ltb x.plan.precedence c.plan.precedence (omega arith))
    ∙ ap (λ (t : Bool). cheaper x.cost c.cost || t) (and-false (cheap x.cost c.cost)) ∙ or-false (cheaper x.cost c.cost)

rising_cond : (b : Bool) (x y : Candidate) (ys : List Candidate) → x.plan.precedence < y.plan.precedence → Rising (suc y.plan.precedence) ys
    → Rising (suc (cond b y x).plan.precedence) ys
rising_cond true x y ys h r = r
rising_cond false x y ys h r = rising_lower (suc y.plan.precedence) (suc x.plan.precedence) ys (omega arith) r

pub least_key_is : (c : Candidate) (cs : List Candidate) → Rising (suc c.plan.precedence) cs → least_key c cs ≡ least_from c cs
unfolding least_key
least_key_is c [] r = refl
least_key_is c (x ∷ xs) r =
    ap (λ (t : Bool). least_key (cond t x c) xs) (before_is x c r.0) ∙ least_key_is (cond (cheaper x.cost c.cost) x c) xs (rising_cond (cheaper x.cost c.cost) c x xs r.0 r.1)

module _ {X Y : Type 0} {S : X → Y → Type 0} where
  cond_like : (b : Bool) {x y : Cand X} {u v : Cand Y} → Like S x u → Like S y v → Like S (cond b x y) (cond b u v)
  cond_like true h g = h
  cond_like false h g = g

  pub least_like : {x : Cand X} {u : Cand Y} {xs : List (Cand X)} {us : List (Cand Y)} → Like S x u → All2 (Like S) xs us → Like S (least_from x xs) (least_from u us)
  least_like h nil = h
  least_like {x = x} {u = u} h (cons {a = y} {b = v} g t) =
      least_like {x = cond (cheaper y.cost x.cost) y x} {u = cond (cheaper v.cost u.cost) v u} (rw (ap₂ cheaper g.same_cost h.same_cost) (cond_like (cheaper v.cost u.cost) g h)) t

-- what is found is the first least of the frontier F
pub record FoundIn (T : Table) (F : Front) (core : Solved) : Type 0 where
  pub best : Cand Plan
  pub least_is : least F ≡ some best
  pub cost_is : core.cost ≡ best.cost
  pub plan_is : plan_at T core.plans core.root ≡ best.plan

best_post : (T : Table) (cs : List Candidate) (S : State) {F : Front} → All2 (Holds T (laid T S.plans)) cs F → Some F → Rising 0 cs → Post (FoundIn T F) (best_of cs S)
best_post T [] S nil f u = absurd f
best_post T (c ∷ cs) S (cons {b = y} {ys = ys} h t) f u =
    let l : Holds T (laid T S.plans) (least_key c cs) (least_from y ys) = subst (λ (z : Candidate). Holds T (laid T S.plans) z (least_from y ys)) (sym (least_key_is c cs u.1)) (least_like h t) in
    says tt (holds_of (record { best = least_from y ys; least_is = refl; cost_is = l.same_cost; plan_is = plan_at_is T S.plans _ l.same_plan }))

module _ (R : Rules) (P : Prepared) (D : ℕ → Doc) (K : Ready P) (reads : ReadsAs P.table D) where
  -- the root's frontier
  abbrev pub goal : Front
  goal = means R P.table D (memo_key P.root 0 0)

  done_types : {k : List Candidate} {ps : List Plan} {Es : List Front} {qs : List Scratch} → Cont R P.table D goal k ps [] Es qs → Es ≡ goal ∷ []
  done_types c_done = refl

  taken : (S : State) → Kept R P D goal K reads [] S → Post (FoundIn P.table goal) (take_best R P S)
  unfolding take_best
  taken S k =
      let c : Cont R P.table D goal S.retained (laid P.table S.plans) [] k.inv.types S.pending =
      subst (λ (z : List Task). Cont R P.table D goal S.retained (laid P.table S.plans) z k.inv.types S.pending) k.tasks_are k.inv.conts in
      let rs : ResAt R P D goal S (goal ∷ []) = subst (λ (z : List Front). ResAt R P D goal S z) (done_types c) k.inv.res in
      post_bind (pop_post _ S rs λ r rs' den rest. best_post P.table _ _ den.holds den.filled den.rising)

  pub start_inv : Inv R P D goal (record { tasks = Eval (memo_key P.root 0 0) ∷ []; results = []; pending = []; memo = []; retained = []; builder = []; plans = []; generated = 0 })
  start_inv = record { types = []; conts = c_eval c_done; res = nil; memos = tt }

  pub tasks_end : Post (Kept R P D goal K reads []) (solve_tasks R P)
  unfolding solve_tasks
  tasks_end = post_bind (task_post (Eval (memo_key P.root 0 0)) blank_state (rest_ends R P D goal K reads _ start_inv))

  -- the solver never comes to what cannot be, and finds the first least candidate of the root's frontier
  pub solve_finds : Post (FoundIn P.table goal) (solve R P)
  unfolding solve
  solve_finds = post_bind (post_imp taken tasks_end)
