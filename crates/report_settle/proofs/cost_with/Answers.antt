use Rattle.std.proofs.lemmas.Result.{err_from_is_err_and}
use Rattle.report_settle.proofs.Costs.{with_past, with_told}
use lib.Seq.{length-take-le}
use lib.ListN.{take}
use Rattle.report_settle.proofs.cost_with.Goals as goal

pub returns-in_err-start : goal.returns-in_err-start
returns-in_err-start c = let p = err_from_is_err_and c.from_residual.result c.from_residual.ensures.1 in
    rw (p.1, p.2) (λ place h. with_past c.args.newline_cost c.args.rows place (take c.args.rows c.args.table.now) (length-take-le c.args.rows c.args.table.now c.requires.1) h c.between.result c.args.cost c.between.ensures c.checked_add.result c.checked_add.ensures _ c.in_err-start.was)

pub returns : goal.returns
returns c = λ place h. with_told c.args.newline_cost c.args.rows place (take c.args.rows c.args.table.now) (length-take-le c.args.rows c.args.table.now c.requires.1) h c.between.result c.args.cost c.between.ensures c.checked_add.result c.checked_add.ensures _ c.in_ok-start.was c.cost_after.ensures
