use Prim.Native.Nat.{◌+◌, ◌*◌, ◌≤◌}
use lib.ListN.{take}
use Rattle.file_put.specs.Put.{Put}
use Rattle.file_encode.specs.Encode.{each, enc32}
use Rattle.file_put.proofs.put_numbers.Given as goal

abbrev pub invariant-loop-x : goal.invariant-loop-x
invariant-loop-x l = Put l.initial.out l.out l.at l.next (each enc32 (take l.x-index l.xs)) × (l.next ≤ l.at + 4 * l.x-index)
