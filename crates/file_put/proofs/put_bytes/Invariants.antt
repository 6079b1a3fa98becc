use Prim.Native.Nat.{◌+◌}
use lib.ListN.{take}
use Rattle.file_put.specs.Put.{Put}
use Rattle.file_put.proofs.put_bytes.Given as goal

abbrev pub invariant-loop-i : goal.invariant-loop-i
invariant-loop-i l = Put l.initial.out l.out l.at (l.at + l.i) (take l.i l.part)
