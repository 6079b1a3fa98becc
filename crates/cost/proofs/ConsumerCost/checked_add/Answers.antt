use Rattle.std.proofs.Common.{◌∙◌, arith}
use Rattle.cost.specs.declared.Reason.TheVariants.{Overflow, Burden}
use Rattle.cost.proofs.Laws.{left_by, place_some, place_none, within_burden, within_overflow, within_both}
use Rattle.cost.proofs.ConsumerCost.checked_add.Goals as goal

pub returns-in_err-overflow_high : goal.returns-in_err-overflow_high
returns-in_err-overflow_high c =
    let n = rw c.in_err-overflow_high.ensures.ok_part at c.add_halves.ensures in
    left_by _ _ _ Overflow c.from_residual.ensures.1 c.in_err-overflow_high.ensures.ok_part c.in_err-overflow_high.ensures.value ∙ within_overflow _ (place_none n)

pub returns-in_err-burden : goal.returns-in_err-burden
returns-in_err-burden c =
    let f = place_some (rw c.in_ok-overflow_high.ensures.ok_part at c.add_halves.ensures) in
    let n = rw c.in_err-burden.ensures.ok_part at c.checked_add.ensures in
    left_by _ _ _ Burden c.from_residual-in_err-burden.ensures.1 c.in_err-burden.ensures.ok_part c.in_err-burden.ensures.value ∙ within_burden _ f.below (omega (arith, n))

pub returns : goal.returns
returns c =
    let f = place_some (rw c.in_ok-overflow_high.ensures.ok_part at c.add_halves.ensures) in
    let n = rw c.in_ok-burden.ensures.ok_part at c.checked_add.ensures in
    within_both _ _ f.same n.1 f.below n.0
