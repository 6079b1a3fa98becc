use Prim.Native.Nat.{◌+◌, ◌*◌, ◌≤◌}
use lib.ListN.{take}
use Rattle.file_put.specs.Put.{Put}
use Rattle.file_encode.specs.Encode.{each, enc_node}
use Rattle.file_put.proofs.put_nodes.Given as goal

abbrev pub invariant-loop-row : goal.invariant-loop-row
invariant-loop-row l = Put l.initial.out l.out l.at l.next (each enc_node (take l.row-index l.nodes)) × (l.next ≤ l.at + 26 * l.row-index)
