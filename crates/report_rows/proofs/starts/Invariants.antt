use lib.ListN.{take}
use Rattle.report_rows.specs.Sums.{Totalled}
use Rattle.report_rows.proofs.starts.Given as goal

abbrev pub invariant-loop-i : goal.invariant-loop-i
invariant-loop-i l = Totalled (take l.i l.table) l.sums
