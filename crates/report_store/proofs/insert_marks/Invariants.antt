use Rattle.std.proofs.Common.{◌≡◌, map}
use Rattle.std.proofs.Math.Seq.{paste}
use Rattle.report_store.specs.Marks.{words}
use Rattle.report_store.proofs.insert_marks.Given as goal

abbrev pub invariant-loop-i : goal.invariant-loop-i
invariant-loop-i l = l.m ≡ paste l.initial.m l.at (map words l.rows) l.i
