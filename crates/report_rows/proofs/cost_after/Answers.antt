use Rattle.std.proofs.Common.{arith}
use Rattle.std.proofs.lemmas.Result.{err_from_is_err_and}
use Rattle.cost.specs.Value.{value}
use Rattle.report_rows.proofs.Costs.{first_but, at_first, goes_on, stops, all_told}
use Rattle.report_rows.proofs.cost_after.Goals as goal

pub loop-i-init : goal.loop-i-init
loop-i-init c = at_first c.args.table.now c.args.skip c.args.start (omega arith) (omega arith) (omega arith)

pub returns-in_err-sum : goal.returns-in_err-sum
unfolding first_but
returns-in_err-sum c = let p = err_from_is_err_and c.from_residual.result c.from_residual.ensures.1 in
    rw (p.1, p.2) (stops c.args.table.now c.args.skip (value c.args.start) c.loop-i.i (value c.loop-i.sum) (value c.cost_but.result) c.loop-i.invariant c.cost_but.ensures (omega (arith, c.requires)) c.args.rows c.checked_add.result c.in_err-sum.field-0.0 c.checked_add.ensures c.in_err-sum.was (omega arith) c.requires)

pub loop-i-preserved : goal.loop-i-preserved
loop-i-preserved c = goes_on c.args.table.now c.args.skip (value c.args.start) c.loop-i.i (value c.loop-i.sum) (value c.cost_but.result) c.loop-i.invariant c.cost_but.ensures (omega (arith, c.requires)) c.checked_add.result c.in_ok-sum.sum c.checked_add.ensures c.in_ok-sum.was

pub returns : goal.returns
unfolding first_but
returns c = all_told c.args.table.now c.args.skip (value c.args.start) c.loop-i.i c.args.rows c.loop-i.sum c.loop-i.invariant (omega arith)
