use Rattle.std.proofs.Common.{arith}
use Rattle.printer.proofs.Deliveries.{deliverable, printed}
use Rattle.printer.proofs.render.Goals as goal

pub finish-requires : goal.finish-requires
finish-requires c = deliverable c.plan_for-a.result c.plan_for-a.ensures (omega arith) (omega arith) (omega arith) (omega arith)

pub returns : goal.returns
returns c = printed c.plan_for-a.result c.plan_for-a.ensures (omega arith) (omega arith) c.finish.ensures
