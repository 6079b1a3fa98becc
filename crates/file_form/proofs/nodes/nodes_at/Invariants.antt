use mathlib.Core.Path.{◌≡◌}
use lib.ListN.{take}
use Rattle.file_form.specs.Nodes.{after_nodes, read_node_rows}
use Rattle.file_form.proofs.nodes.nodes_at.Given as goal

abbrev pub invariant-loop-row : goal.invariant-loop-row
invariant-loop-row l = (l.q ≡ after_nodes l.s l.initial.q l.row-index) × (take l.row-index l.row-items ≡ read_node_rows l.s l.initial.q l.row-index)
