use mathlib.Core.List.{map}
use Prim.Native.Nat.{◌-◌}
use lib.ListN.{drop}
use Rattle.report_page.specs.Moves.{moved_words}
use Rattle.report_page.proofs.Puts.{Put}
use Rattle.report_page.proofs.put_marks.Given as goal

abbrev pub invariant-loop-i : goal.invariant-loop-i
invariant-loop-i l = Put l.initial.spans l.n (map (moved_words l.at l.n) (drop l.n l.marks)) (l.i - l.n) l.spans
