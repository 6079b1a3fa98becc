use Rattle.report_page.proofs.Going.{Going}
use Rattle.report_page.proofs.deliver.Given as goal

abbrev pub invariant-loop-k : goal.invariant-loop-k
invariant-loop-k l = Going l.rows l.table l.pages l.marks l.initial.output l.initial.spans l.k l.from l.at l.n l.output l.spans
