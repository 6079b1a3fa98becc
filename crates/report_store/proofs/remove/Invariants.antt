use Rattle.std.proofs.Common.{◌≡◌, ◌+◌, ◌-◌, drop}
use Rattle.std.proofs.Math.Seq.{paste}
use Rattle.report_store.proofs.remove.Given as goal

abbrev pub invariant-loop-i : goal.invariant-loop-i
invariant-loop-i g l = l.m ≡ paste l.initial.m l.at (drop (l.at + l.n) l.initial.m) (l.i - (l.at + l.n))
