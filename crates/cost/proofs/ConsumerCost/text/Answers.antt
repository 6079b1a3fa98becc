use Rattle.std.proofs.Common.{◌∙◌, arith}
use Rattle.cost.specs.Rising.{rises, charged_rising}
use Rattle.cost.specs.declared.Reason.TheVariants.{Column}
use Rattle.cost.proofs.Laws.{left_by, text_past, text_is, low_only}
use Rattle.cost.proofs.ConsumerCost.text.Goals as goal

pub returns-in_err-end : goal.returns-in_err-end
returns-in_err-end c =
    let n = rw c.in_err-end.ensures.ok_part at c.checked_add.ensures in
    left_by _ _ _ Column c.from_residual.ensures.1 c.in_err-end.ensures.ok_part c.in_err-end.ensures.value ∙ text_past _ _ _ _ (omega (arith, n))

pub overflow_sub-result : goal.overflow_sub-result
overflow_sub-result c =
    let n = rw c.in_ok-end.ensures.ok_part at c.checked_add.ensures in
    rw (c.charge.ensures, c.charge-2.ensures) (rises (charged_rising c.args.model.rule c.args.model.width) c.args.column c.in_ok-end.end (omega (arith, n)))

pub returns : goal.returns
returns c =
    let n = rw c.in_ok-end.ensures.ok_part at c.checked_add.ensures in
    text_is _ _ _ _ _ n.0 (low_only _ _ _ (rw (c.charge.ensures, c.charge-2.ensures, n.1)))
