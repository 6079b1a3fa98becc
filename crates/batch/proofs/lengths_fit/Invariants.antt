use mathlib.Core.Path.{◌≡◌}
use Prim.Native.Nat.{◌+◌}
use lib.ListN.{take}
use Rattle.batch.specs.Documents.{total}
use Rattle.batch.proofs.lengths_fit.Given as goal

abbrev pub invariant-loop-n : goal.invariant-loop-n
invariant-loop-n l = total (take l.n-index l.lengths) + l.left ≡ l.bytes
