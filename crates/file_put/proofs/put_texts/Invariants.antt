use mathlib.Core.Path.{◌≡◌}
use Prim.Native.Nat.{◌+◌, ◌*◌, ◌≤◌}
use lib.ListN.{take}
use Rattle.file_put.specs.Put.{Put}
use Rattle.file_encode.specs.Encode.{enc_texts, lengths}
use Rattle.file_put.proofs.put_texts.Given as goal

abbrev pub invariant-loop-row : goal.invariant-loop-row
invariant-loop-row l = Put l.initial.out l.out l.at l.next (enc_texts (take l.row-index l.texts) l.bytes) × ((l.next ≤ l.at + 9 * l.row-index + l.total) × (l.total ≡ lengths (take l.row-index l.texts)))
