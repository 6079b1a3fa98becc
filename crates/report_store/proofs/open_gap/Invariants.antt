use Rattle.std.proofs.Common.{◌≡◌, ◌≤◌}
use Rattle.report_store.specs.Moves.{moved_up}
use Rattle.report_store.proofs.open_gap.Given as goal

abbrev pub invariant-loop-i : goal.invariant-loop-i
invariant-loop-i g l = record { low : l.at ≤ l.i; is : l.m ≡ moved_up l.initial.m l.used l.i l.n }
