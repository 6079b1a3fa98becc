use Rattle.cost.specs.Value.{value}
use Rattle.report_rows.proofs.Costs.{Running}
use Rattle.report_rows.proofs.cost_after.Given as goal

abbrev pub invariant-loop-i : goal.invariant-loop-i
invariant-loop-i l = Running l.table l.skip (value l.fn.start) l.i (value l.sum)
