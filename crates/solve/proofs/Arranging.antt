-- The plans' rows after the call.
use mathlib.Core.Path.{◌≡◌, sym, ◌∙◌, subst}
use mathlib.Core.List.{List, [], ◌∷◌, map}
use Prim.Native.Nat.{ℕ, zero, suc, ◌+◌, ◌≤◌, ◌<◌, ◌^◌}
use native.Mathlib.Omega.{arith}
use lib.ListN.{length, get_or, length-map}
use Rattle.layout.specs.Rules.{Rules}
use Rattle.plan.specs.declared.PlanNode.{PlanNode as Node}
use Rattle.plan.specs.declared.PlanNode.TheVariants.{Empty, Text, Newline, Concat, Annotate, Penalty}
use Rattle.plan.specs.Arena.{arena}
use Rattle.plan.specs.Layouts.{Fine}
use Rattle.machine.specs.Events.{no_counts, run}
use Rattle.machine.specs.Programs.{value, done_is}
use Rattle.machine.specs.Model.{Prepared}
use Rattle.machine.specs.Solve.{Solved, solve}
use Rattle.machine_right.specs.Ready.{Ready}
use Rattle.solve_workspace.specs.declared.Bounds.{Bounds}
use Rattle.solve_workspace.specs.Meets.{limits}
use Rattle.solve_workspace.specs.Rows.{Row, node_of}
use Rattle.solve.specs.declared.SolvedCore.{SolvedCore}
use Rattle.std.specs.Prelude.{Ok}
use Rattle.solve.specs.Numbered.{Names, NamesFrom, TextsBelow, Rooted}
use Rattle.solve.specs.Numbers.{solve_rooted}
use Rattle.solve.specs.Outcome.{core, outcome, Arranged}
use Rattle.solve.proofs.Turns.{done_value}
use Rattle.solve.proofs.Starts.{arena_length}

fine_as : (t n : ℕ) (x : Node) → Names t n (node_of x) → Fine t n x
fine_as t n Empty h = tt
fine_as t n (Text x) h = h
fine_as t n (Newline i) h = tt
fine_as t n (Concat l r) h = h
fine_as t n (Annotate a c) h = h
fine_as t n (Penalty a c) h = h

fine_at : (t n : ℕ) (l : List Node) → NamesFrom t n (map node_of l) → (i : ℕ) → i < length l → Fine t (n + i) (get_or l i Empty)
fine_at t n [] h i k = absurd (omega arith)
fine_at t n (x ∷ l) h zero k = let e : n ≡ n + 0 = omega arith in subst (λ (m : ℕ). Fine t m x) e (fine_as t n x h.0)
fine_at t n (x ∷ l) h (suc i) k = let e : suc n + i ≡ n + suc i = omega arith in subst (λ (m : ℕ). Fine t m (get_or l i Empty)) e (fine_at t (suc n) l h.1 i (omega arith))

pub arranged : (R : Rules) (P : Prepared) → Ready P → (t : ℕ) → TextsBelow t P → (b : Bounds) (c : SolvedCore) (ns : List Row) → run (limits b) no_counts (solve R P) ≡ outcome (Ok c) ns
    → c.plans ≤ length ns → c.plans < 2 ^ 32 → Arranged t c ns
arranged R P K t B b c ns h l f =
    let v : value (solve R P) ≡ core c ns = sym (done_value (done_is (limits b) no_counts (solve R P) h)) in
    let r : Rooted t (core c ns) = subst (λ (z : Solved). Rooted t z) v (solve_rooted t R P B K) in
    let n : length (map node_of (arena ns c.plans)) ≡ c.plans = length-map (arena ns c.plans) node_of ∙ arena_length ns c.plans in
    record {
      lent = l;
      few = f;
      ranked = record { fine = λ i k. let e : 0 + i ≡ i = omega arith in subst (λ (m : ℕ). Fine t m (get_or (arena ns c.plans) i Empty)) e (fine_at t 0 (arena ns c.plans) r.names i k) };
      rooted = omega (arith, r.root_below, n);
    }
