use mathlib.Core.Path.{refl}
use Rattle.solve_node.proofs.Leaves.{leafed_at, empty_leaf, newline_leaf}
use Rattle.solve_node.proofs.leaf_candidate.Goals as goal

pub returns-in-Empty : goal.returns-in-Empty
returns-in-Empty c = leafed_at c.in-Empty.is (empty_leaf _ c.args.key _ _ refl c.scratch_candidate.ensures)

pub returns-in-Text : goal.returns-in-Text
returns-in-Text c = leafed_at c.in-Text.is (c.text_candidate.ensures _ _)

pub returns-in-Newline : goal.returns-in-Newline
returns-in-Newline c = leafed_at c.in-Newline.is (newline_leaf _ c.args.key _ c.newline_candidate.ensures)
