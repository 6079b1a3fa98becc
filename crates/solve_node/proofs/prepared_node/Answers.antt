use Rattle.std.proofs.Common.{get_or}
use Rattle.solve_node.proofs.Nodes.{row_begins, empty_begins, text_begins, newline_begins, seq_begins, nest_begins, align_begins, annotate_begins, penalty_begins}
use Rattle.solve_node.proofs.prepared_node.Goals as goal

pub returns-in-Empty : goal.returns-in-Empty
returns-in-Empty c = λ R cs bs an root space. let r = c.node_row-row.result in row_begins c.args.edges.now r _ 0 c.node_row-row.ensures c.in-Empty.ensures (empty_begins R _ _ c.args.edges.now (get_or r 1 0) (get_or r 2 0))

pub returns-in-Text : goal.returns-in-Text
returns-in-Text c = λ R cs bs an root space. let r = c.node_row-row.result in row_begins c.args.edges.now r _ 1 c.node_row-row.ensures c.in-Text.ensures (text_begins R _ _ c.args.edges.now (get_or r 1 0) (get_or r 2 0) _ c.text_width-width.ensures)

pub returns-in-Break : goal.returns-in-Break
returns-in-Break c = λ R cs bs an root space. let r = c.node_row-row.result in row_begins c.args.edges.now r _ _ c.node_row-row.ensures c.kind_of.ensures (newline_begins R _ _ c.args.edges.now (get_or r 1 0) (get_or r 2 0) _ c.in-Break.is)

pub returns-in-Seq : goal.returns-in-Seq
returns-in-Seq c = λ R cs bs an root space. let r = c.node_row-row.result in row_begins c.args.edges.now r _ _ c.node_row-row.ensures c.kind_of.ensures (seq_begins R _ _ c.args.edges.now (get_or r 1 0) (get_or r 2 0) _ _ c.in-Seq.is (rw (← c.part.ensures) c.sequence_node.ensures))

pub returns-in-Group : goal.returns-in-Group
returns-in-Group c = λ R cs bs an root space. let r = c.node_row-row.result in row_begins c.args.edges.now r _ 5 c.node_row-row.ensures c.in-Group.ensures (c.group_node.ensures R _ cs _ bs an root space _)

pub returns-in-Nest : goal.returns-in-Nest
returns-in-Nest c = λ R cs bs an root space. let r = c.node_row-row.result in row_begins c.args.edges.now r _ 7 c.node_row-row.ensures c.in-Nest.ensures (nest_begins R _ _ c.args.edges.now (get_or r 1 0) (get_or r 2 0))

pub returns-in-Align : goal.returns-in-Align
returns-in-Align c = λ R cs bs an root space. let r = c.node_row-row.result in row_begins c.args.edges.now r _ 8 c.node_row-row.ensures c.in-Align.ensures (align_begins R _ _ c.args.edges.now (get_or r 1 0) (get_or r 2 0))

pub returns-in-Choice : goal.returns-in-Choice
returns-in-Choice c = λ R cs bs an root space. let r = c.node_row-row.result in row_begins c.args.edges.now r _ 9 c.node_row-row.ensures c.in-Choice.ensures (c.choice_node.ensures R _ cs _ bs an root space)

pub returns-in-Annotate : goal.returns-in-Annotate
returns-in-Annotate c = λ R cs bs an root space. let r = c.node_row-row.result in row_begins c.args.edges.now r _ 10 c.node_row-row.ensures c.in-Annotate.ensures (annotate_begins R _ _ c.args.edges.now (get_or r 1 0) (get_or r 2 0))

pub returns-in-Penalty : goal.returns-in-Penalty
returns-in-Penalty c = λ R cs bs an root space. let r = c.node_row-row.result in row_begins c.args.edges.now r _ 11 c.node_row-row.ensures c.in-Penalty.ensures (penalty_begins R _ _ c.args.edges.now (get_or r 1 0) (get_or r 2 0))
