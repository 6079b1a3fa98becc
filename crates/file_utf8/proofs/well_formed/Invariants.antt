use Rattle.file_utf8.proofs.Laws.{So}
use Rattle.file_utf8.proofs.well_formed.Given as goal

abbrev pub invariant-loop-b : goal.invariant-loop-b
invariant-loop-b l = So l.text l.w l.b-index
