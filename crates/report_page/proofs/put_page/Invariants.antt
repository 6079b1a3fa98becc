use lib.ListN.{drop}
use Rattle.report_page.proofs.Puts.{Put}
use Rattle.report_page.proofs.put_page.Given as goal

abbrev pub invariant-loop-i : goal.invariant-loop-i
invariant-loop-i l = Put l.initial.output l.at (drop l.from l.pages) l.i l.output
