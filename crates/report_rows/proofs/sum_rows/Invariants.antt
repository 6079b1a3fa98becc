use lib.ListN.{take}
use Rattle.report_rows.proofs.Sums.{Left}
use Rattle.report_rows.proofs.sum_rows.Given as goal

abbrev pub invariant-loop-i : goal.invariant-loop-i
invariant-loop-i l = Left (take l.i l.table) l.files l.pages l.marks l.left
