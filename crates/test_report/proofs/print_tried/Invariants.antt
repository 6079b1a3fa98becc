use Rattle.std.proofs.Common.{◌≤◌, length}
use Rattle.test_report.proofs.print_tried.Given as goal

abbrev pub invariant-loop-row : goal.invariant-loop-row
invariant-loop-row g l = (l.at ≤ length l.output) × (l.mark ≤ length l.spans)
