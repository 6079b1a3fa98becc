use Rattle.file_checks.specs.Tells.{tell_yes, tell_no}
use Rattle.file_checks.proofs.Orders.{comes_cut, cut_comes}
use native.Mathlib.Omega.{arith}
use Rattle.file_checks.proofs.lists.lists_right.Goals as goal

pub returns-then-not-row_right : goal.returns-then-not-row_right
returns-then-not-row_right c = tell_no (λ z. c.row_right.ensures.no c.if-not-row_right.true (record { right = λ ne. comes_cut (z.each c.loop-row.row-index c.loop-row-test.true ne) }))

pub returns : goal.returns
returns c = tell_yes (record { each = λ i h ne. cut_comes ((c.loop-row.invariant i (omega arith)).right ne) })
