use Rattle.solve_node.proofs.Leaves.{seq_children, no_children}
use Rattle.solve_node.proofs.Nodes.{row_node}
use Rattle.solve_node.proofs.sequence_child.Goals as goal

pub returns-in-Seq : goal.returns-in-Seq
returns-in-Seq c = rw (row_node c.args.edges.now _ _ _ c.node_row-row.ensures c.kind_of.ensures) (seq_children c.args.edges.now _ _ _ _ _ c.in-Seq.is (rw (← c.part.ensures) c.child_at.ensures))

pub returns-in_default : goal.returns-in_default
returns-in_default c = rw (row_node c.args.edges.now _ _ _ c.node_row-row.ensures c.kind_of.ensures) (no_children c.args.edges.now _ _ _ _ c.in_default.not-Seq c.in_default.not-Fill)
