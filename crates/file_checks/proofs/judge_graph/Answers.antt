use Rattle.file_checks.proofs.Ways.{no_way_down}
use Rattle.file_checks.specs.Search.{circle, list, right}
use Rattle.file_checks.proofs.judge_graph.Goals as goal

pub returns-then-circle : goal.returns-then-circle
returns-then-circle c = circle (c.circle.ensures.yes c.if-circle.true)

pub lists_right-requires : goal.lists_right-requires
lists_right-requires c = record { by_index = no_way_down c.args.nodes.now c.args.edges.now (c.circle.ensures.no c.if-circle.false); lists_inside = c.requires.lists_inside; choices_in_bounds = c.requires.choices_in_bounds }

pub returns-then-not-lists_right : goal.returns-then-not-lists_right
returns-then-not-lists_right c = list (c.circle.ensures.no c.if-circle.false) (c.lists_right.ensures.no c.if-not-lists_right.true)

pub returns : goal.returns
returns c = right (c.circle.ensures.no c.if-circle.false) (c.lists_right.ensures.yes c.if-not-lists_right.false)
