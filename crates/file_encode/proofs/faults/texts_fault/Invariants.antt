use mathlib.Core.Path.{◌≡◌}
use Prim.Native.Nat.{◌≤◌}
use lib.ListN.{drop}
use Rattle.file_encode.specs.Faults.{texts_fault}
use Rattle.file_encode.proofs.faults.texts_fault.Given as goal

abbrev pub invariant-loop-row : goal.invariant-loop-row
invariant-loop-row l = (l.total ≤ 65536) × (texts_fault 0 l.texts ≡ texts_fault l.total (drop l.row-index l.texts))
