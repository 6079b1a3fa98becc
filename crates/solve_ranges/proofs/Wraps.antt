-- Laws of wrapped candidates.
use mathlib.Core.Path.{◌≡◌, refl, ap, ◌∙◌}
use mathlib.Core.List.{List, ◌∷◌}
use Prim.Native.Nat.{ℕ, suc, ◌+◌}
use lib.ListN.{get_or}
use Rattle.cost.specs.Cost.{Cost, add}
use Rattle.cost.specs.Value.{value, within, outcome}
use Rattle.cost.specs.declared.ConsumerCost.{ConsumerCost}
use Rattle.cost.specs.declared.Reason.{Reason}
use Rattle.std.specs.Prelude.{Result, Ok, Err}
use Rattle.machine.specs.Events.{Counts, ◌>>=◌}
use Rattle.machine.specs.Model.{State, PlanNode, PendingPlan, Made, Candidate, Scratch, scratch, no_candidate, part, range}
use Rattle.machine.specs.Solver.{present, checked_add, present_wrapped}
use Rattle.solve_workspace.specs.declared.Bounds.{Bounds}
use Rattle.solve_workspace.specs.declared.Registers.{Registers}
use Rattle.solve_workspace.specs.declared.Why.{Why}
use Rattle.solve_workspace.specs.declared.Why.TheVariants.{Domain}
use Rattle.solve_workspace.specs.declared.Reached.{Reached}
use Rattle.solve_workspace.specs.declared.Reached.TheVariants.{Go, Stop}
use Rattle.solve_workspace.specs.Meets.{counts, Sound, Meets, Leads}
use Rattle.solve_workspace.specs.Rows.{Row, abs, candidate_of, row_list}
use Rattle.solve_workspace.specs.Costs.{added, add_go, add_stop}
use Rattle.solve_workspace.specs.Runs.{halt, via, leads_seq, ended}
use Rattle.solve_ranges.specs.Wrapping.{wrap_one, wrapped_range}

module _ (b : Bounds) (W : ℕ → PlanNode) (A : Cost) where
  -- the cost has its place, and the candidate is presented; or not
  pub wrap_go : {k : Counts} {a : Reached} {f : Registers → State} (c : Candidate) (S : State) (x : ConsumerCost) (y : Cost) (r : Result ConsumerCost Reason) (t : ConsumerCost) (p : Scratch) (v : PendingPlan) → value x ≡ A → c.cost ≡ y
      → outcome r ≡ within (add y (value x)) → r ≡ Ok t → p ≡ scratch (value t) c.column v → v ≡ Made (W c.plan.plan) → Meets b k (present p S) a f → Meets b k (wrap_one W A c S) a f
  unfolding wrap_one
  wrap_go c S x y r t p v e i o q j w m =
      let u : p ≡ scratch (value t) c.column (Made (W c.plan.plan)) = j ∙ ap (λ (z : PendingPlan). scratch (value t) c.column z) w in
      rw (← e, i) (via (add_go y (value x) t (λ cost. present (scratch cost c.column (Made (W c.plan.plan))) S) (added y (value x) r t o q)) (rw (← u) m))

  pub wrap_stop : (u : Registers) (c : Candidate) (S : State) (x : ConsumerCost) (y : Cost) (r : Result ConsumerCost Reason) (w : Reason) (f : Registers → State) → value x ≡ A → c.cost ≡ y
      → outcome r ≡ within (add y (value x)) → r ≡ Err w → Meets b (counts u) (wrap_one W A c S) (Stop (Domain w) 0 u) f
  unfolding wrap_one
  wrap_stop u c S x y r w f e i o q = rw (← e, i) (add_stop u y (value x) r w (λ cost. present (scratch cost c.column (Made (W c.plan.plan))) S) f o q)

  wrapped_is : (c : Candidate) (cs : List Candidate) (S : State) → present_wrapped W A (c ∷ cs) S ≡ (wrap_one W A c S >>= present_wrapped W A cs)
  unfolding wrap_one present_wrapped checked_add
  wrapped_is c cs S = refl

  rest_is : (R : List Candidate) (i n m : ℕ) (c : Candidate) (S : State) → n ≡ suc m → c ≡ get_or R i no_candidate → present_wrapped W A (part R i n) S ≡ (wrap_one W A c S >>= present_wrapped W A (part R (i + 1) m))
  rest_is R i n m c S e q = rw (e, q) (wrapped_is (get_or R i no_candidate) (part R (i + 1) m) S)

  pub wrapped_go : {k : Counts} {a : Reached} {f : Registers → State} {z : Registers} (R : List Candidate) (i n m : ℕ) (c : Candidate) (S : State) → n ≡ suc m → c ≡ get_or R i no_candidate
      → Meets b k (wrap_one W A c S) a f → a ≡ Go z → Leads b k (present_wrapped W A (part R i n) S) (counts z) (present_wrapped W A (part R (i + 1) m) (f z))
  wrapped_go R i n m c S e q h g = rw (rest_is R i n m c S e q) (leads_seq (present_wrapped W A (part R (i + 1) m)) h g)

  pub wrapped_halt : {k : Counts} {a : Reached} {f h : Registers → State} {w : Why} {s : ℕ} {z : Registers} (R : List Candidate) (i n m : ℕ) (c : Candidate) (S : State) → n ≡ suc m → c ≡ get_or R i no_candidate
      → Meets b k (wrap_one W A c S) a f → a ≡ Stop w s z → Meets b k (present_wrapped W A (part R i n) S) a h
  wrapped_halt R i n m c S e q h g = rw (rest_is R i n m c S e q) (halt (present_wrapped W A (part R (i + 1) m)) h g)

  pub wrapped_end : (s : Registers) (R : List Candidate) (i n : ℕ) (f : Registers → State) → n ≡ 0 → Sound b s → Meets b (counts s) (present_wrapped W A (part R i n) (f s)) (Go s) f
  unfolding present_wrapped
  wrapped_end s R i n f e h = rw e (ended f h)

pub wrapping_is : (W : ℕ → PlanNode) (A : Cost) (s : Registers) (ts rs ps es ks : List Row) (fs : List ℕ) (ns : List Row) (i n : ℕ)
    → wrapped_range W A (range i n) (abs s ts rs ps es ks fs ns) ≡ present_wrapped W A (part (row_list candidate_of ks s.kept) i n) (abs s ts rs ps es ks fs ns)
unfolding abs
wrapping_is W A s ts rs ps es ks fs ns i n = refl
