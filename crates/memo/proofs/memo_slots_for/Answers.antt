use Rattle.std.proofs.Common.{rules}
use Rattle.memo.proofs.Doubling.{twice}
use Rattle.memo.proofs.memo_slots_for.Goals as goal

pub loop-slots-preserved : goal.loop-slots-preserved
loop-slots-preserved c = twice c.args.entries c.loop-slots.slots (search rules) c.loop-slots-test.true c.loop-slots.invariant
