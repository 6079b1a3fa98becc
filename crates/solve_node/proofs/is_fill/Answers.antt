use Rattle.solve_node.proofs.Leaves.{fill_kind, other_kind}
use Rattle.solve_node.proofs.Nodes.{row_node}
use Rattle.solve_node.proofs.is_fill.Goals as goal

pub returns-in-Fill : goal.returns-in-Fill
returns-in-Fill c = λ es. rw (row_node es _ _ 6 c.node_row.ensures c.in-Fill.ensures) (fill_kind es _ _)

pub returns-in_default : goal.returns-in_default
returns-in_default c = λ es. rw (row_node es _ _ _ c.node_row.ensures c.kind_of.ensures) (other_kind es _ _ _ c.in_default.not-Fill)
