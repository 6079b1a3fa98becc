use native.Mathlib.Omega.{arith}
use Rattle.batch.proofs.Gates.{shut, past_most, may_be_tried}
use Rattle.batch.proofs.batch_gate.Goals as goal

pub returns-then-gate-ne0 : goal.returns-then-gate-ne0
returns-then-gate-ne0 c = shut c.batch_lent-lent.ensures c.desk_gate-gate.ensures (λ e. omega (arith, e, c.if-gate-ne0.true))

pub returns-then-lengths-gt64 : goal.returns-then-lengths-gt64
returns-then-lengths-gt64 c = past_most c.batch_lent-lent.ensures c.desk_gate-gate.ensures (omega (arith, c.if-gate-ne0.false)) c.if-lengths-gt64.true

pub returns-else-lengths-gt64 : goal.returns-else-lengths-gt64
returns-else-lengths-gt64 c = may_be_tried c.batch_lent-lent.ensures c.desk_gate-gate.ensures (omega (arith, c.if-gate-ne0.false)) (omega (arith, c.if-lengths-gt64.false))
