-- Laws of joined candidates.
use mathlib.Core.Path.{◌≡◌, sym, ◌∙◌, subst}
use mathlib.Core.List.{List, [], ◌∷◌}
use Prim.Native.Nat.{ℕ, suc, ◌+◌}
use lib.ListN.{get_or}
use Rattle.cost.specs.Cost.{Cost, add}
use Rattle.cost.specs.Value.{outcome, within, value}
use Rattle.cost.specs.declared.ConsumerCost.{ConsumerCost}
use Rattle.cost.specs.declared.Reason.{Reason}
use Rattle.std.specs.Prelude.{Result, Ok, Err}
use Rattle.layout.specs.Rules.{Rules}
use Rattle.memo.specs.declared.MemoKey.{MemoKey}
use Rattle.machine.specs.Events.{Counts, Prog, ret, ◌>>=◌}
use Rattle.machine.specs.Programs.{bind_ret, bind_assoc, bind_at}
use Rattle.machine.specs.Programs.{value as result}
use Rattle.machine.specs.Model.{Prepared, State, Candidate, Made, PlanConcat, scratch, no_candidate, part, range, memo_key, children, CompleteSequenceRight}
use Rattle.machine.specs.Solver.{checked_add, push_pending, push_joined, push_right, push_child}
use Rattle.solve_workspace.specs.declared.Bounds.{Bounds}
use Rattle.solve_workspace.specs.declared.Registers.{Registers}
use Rattle.solve_workspace.specs.declared.Why.{Why}
use Rattle.solve_workspace.specs.declared.Why.TheVariants.{Domain}
use Rattle.solve_workspace.specs.declared.Reached.{Reached}
use Rattle.solve_workspace.specs.declared.Reached.TheVariants.{Go, Stop}
use Rattle.solve_workspace.specs.Meets.{Meets, Leads, counts}
use Rattle.solve_workspace.specs.Rows.{Row, abs, candidate_of, row_list}
use Rattle.solve_workspace.specs.Runs.{leads_refl, leads_seq, halt, via}
use Rattle.solve_workspace.specs.Costs.{added, add_go, add_stop}

module _ (left right : Candidate) where
  -- the one, pushed
  pub join_go : {b : Bounds} {k : Counts} {a : Reached} {f : Registers → State} (r : Result ConsumerCost Reason) (c : ConsumerCost) (S : State) → outcome r ≡ within (add left.cost right.cost) → r ≡ Ok c
      → Meets b k (push_pending (scratch (value c) right.column (Made (PlanConcat left.plan.plan right.plan.plan))) S) a f → Meets b k (push_joined left (right ∷ []) S) a f
  unfolding push_joined
  join_go {b = b} {k = k} {a = a} {f = f} r c S e q m =
      via (add_go left.cost right.cost c (λ x. push_pending (scratch x right.column (Made (PlanConcat left.plan.plan right.plan.plan))) S >>= (λ T. ret T)) (added left.cost right.cost r c e q))
      (subst (λ p. Meets b k p a f) (sym (bind_ret (push_pending (scratch (value c) right.column (Made (PlanConcat left.plan.plan right.plan.plan))) S))) m)

  pub join_stop : {b : Bounds} (u : Registers) (r : Result ConsumerCost Reason) (w : Reason) (S : State) (f : Registers → State) → outcome r ≡ within (add left.cost right.cost) → r ≡ Err w
      → Meets b (counts u) (push_joined left (right ∷ []) S) (Stop (Domain w) 0 u) f
  unfolding push_joined
  join_stop u r w S f e q = add_stop u left.cost right.cost r w (λ x. push_pending (scratch x right.column (Made (PlanConcat left.plan.plan right.plan.plan))) S >>= (λ T. ret T)) f e q

  -- one more of many
  join_cons : (rights : List Candidate) (S : State) → push_joined left (right ∷ rights) S ≡ (push_joined left (right ∷ []) S >>= push_joined left rights)
  unfolding push_joined
  join_cons rights S =
      let m = checked_add left.cost right.cost in
      let f : Cost → Prog State = (λ x. push_pending (scratch x right.column (Made (PlanConcat left.plan.plan right.plan.plan))) S) in
      sym (bind_assoc m (λ x. f x >>= (λ T. ret T)) (push_joined left rights)
      ∙ bind_at m (λ x. (f x >>= (λ T. ret T)) >>= push_joined left rights) (λ x. f x >>= push_joined left rights) (bind_assoc (f (result m)) (λ T. ret T) (push_joined left rights)))

  pub joined_go : {b : Bounds} {k : Counts} {z : Registers} {a : Reached} {f : Registers → State} (l : List Candidate) (i n m : ℕ) (S : State) → n ≡ suc m → right ≡ get_or l i no_candidate
      → Meets b k (push_joined left (right ∷ []) S) a f → a ≡ Go z → Leads b k (push_joined left (part l i n) S) (counts z) (push_joined left (part l (i + 1) m) (f z))
  joined_go l i n m S e q w x = rw (e, ← q, join_cons (part l (i + 1) m) S) (leads_seq (push_joined left (part l (i + 1) m)) w x)

  pub joined_halt : {b : Bounds} {k : Counts} {z : Registers} {a : Reached} {f g : Registers → State} {w : Why} {y : ℕ} (l : List Candidate) (i n m : ℕ) (S : State) → n ≡ suc m → right ≡ get_or l i no_candidate
      → Meets b k (push_joined left (right ∷ []) S) a f → a ≡ Stop w y z → Meets b k (push_joined left (part l i n) S) a g
  joined_halt l i n m S e q w x = rw (e, ← q, join_cons (part l (i + 1) m) S) (halt (push_joined left (part l (i + 1) m)) w x)

pub joined_from : {b : Bounds} {k : Counts} (left : Candidate) (l : List Candidate) (i n m : ℕ) (S : State) → m ≡ n → Leads b k (push_joined left (part l i n) S) k (push_joined left (part l i m) S)
joined_from left l i n m S e = rw e leads_refl

pub joined_none : (left : Candidate) (l : List Candidate) (i n : ℕ) (S : State) → n ≡ 0 → push_joined left (part l i n) S ≡ ret S
unfolding push_joined
joined_none left l i n S e = rw e

-- the right part's tasks
pub right_is : (R : Rules) (P : Prepared) (q : MemoKey) (x i l o p : ℕ) (s : Registers) (ts rs ps es ks : List Row) (fs : List ℕ) (ns : List Row) (k c : ℕ)
    → get_or (children (P.table.node q.node)) x 0 ≡ k → c ≡ (get_or (row_list candidate_of ks s.kept) (i + o) no_candidate).column
    → push_right R P q x (range i l) o p (abs s ts rs ps es ks fs ns) ≡ push_child R P (CompleteSequenceRight q x (range i l) o p) (memo_key k c q.indent) (abs s ts rs ps es ks fs ns)
unfolding push_right abs
right_is R P q x i l o p s ts rs ps es ks fs ns k c e f = rw (e, f)
