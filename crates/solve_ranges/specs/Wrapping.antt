-- What Annotate and Penalty make of a candidate (laidout's wrap_range, a case per wrapper); and the machine's presentations as functions of the state alone.
use Rattle.std.specs.Prelude.{ℕ, ◌-◌, length, take, drop}
use Rattle.cost.specs.Cost.{Cost, zero_cost}
use Rattle.cost.specs.Charge.{penalty_cost}
use Rattle.machine.specs.Events.{Prog, ◌>>=◌}
use Rattle.layout.specs.Rules.{Rules}
use Rattle.memo.specs.declared.CandidateRange.{CandidateRange}
use Rattle.machine.specs.Model.{Prepared, PlanNode, PlanAnnotate, PlanPenalty, Made, Candidate, scratch, within_range, State}
use Rattle.machine.specs.Solver.{checked_add, present, present_all, present_wrapped, present_ranges}
use Rattle.solve_ranges.specs.declared.Wrapper.{Wrapper}
use Rattle.solve_ranges.specs.declared.Wrapper.TheVariants.{Annotate, Penalty}

-- the plan around the child's plan
abbrev pub wrapping : Wrapper → ℕ → PlanNode
wrapping (Annotate a) = PlanAnnotate a.0
wrapping (Penalty n) = PlanPenalty n

-- what it costs
abbrev pub charging : Wrapper → Cost
charging (Annotate a) = zero_cost
charging (Penalty n) = penalty_cost n

-- one candidate, wrapped and charged
unfoldable pub wrap_one : (ℕ → PlanNode) → Cost → Candidate → State → Prog State
wrap_one wrapper additional c S = checked_add c.cost additional >>= (λ cost. present (scratch cost c.column (Made (wrapper c.plan.plan))) S)

-- the kept candidates of a range, each wrapped and charged
abbrev pub wrapped_range : (ℕ → PlanNode) → Cost → CandidateRange → State → Prog State
wrapped_range wrapper additional r S = present_wrapped wrapper additional (within_range S.retained r) S

-- what is pending from start on
abbrev pub pending_from : ℕ → State → Prog State
pending_from start S = present_all (drop start S.pending) S

-- the results above the lowest `start`
abbrev pub results_from : Rules → Prepared → ℕ → State → Prog State
results_from R P start S = present_ranges R P (take (length S.results - start) S.results) S
