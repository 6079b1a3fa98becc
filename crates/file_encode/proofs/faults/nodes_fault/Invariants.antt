use mathlib.Core.Path.{◌≡◌}
use lib.ListN.{drop}
use Rattle.file_encode.specs.Faults.{nodes_fault}
use Rattle.file_encode.proofs.faults.nodes_fault.Given as goal

abbrev pub invariant-loop-row : goal.invariant-loop-row
invariant-loop-row l = nodes_fault l.nodes ≡ nodes_fault (drop l.row-index l.nodes)
