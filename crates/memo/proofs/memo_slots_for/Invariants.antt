use Rattle.std.proofs.Common.{◌-◌, ◌^◌}
use Rattle.memo.proofs.Doubling.{Doubled}
use Rattle.memo.proofs.memo_slots_for.Given as goal

abbrev pub invariant-loop-slots : goal.invariant-loop-slots
invariant-loop-slots l = Doubled l.entries l.slots

abbrev pub decreases-loop-slots : goal.decreases-loop-slots
decreases-loop-slots l = 2 ^ 34 - l.slots
