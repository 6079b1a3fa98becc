use Rattle.file_checks.proofs.Judging.{lists_inside, judged_graph}
use Rattle.file_checks.proofs.Enumerated.{closed}
use Rattle.file_checks.specs.Judged.{tables, reference, text, space}
use Rattle.file_checks.proofs.judge.Goals as goal

pub returns-then-not-references : goal.returns-then-not-references
returns-then-not-references c = reference ((c.references.ensures c.args.bytes.now).no c.if-not-references.true)

pub returns-then-not-texts_ok : goal.returns-then-not-texts_ok
returns-then-not-texts_ok c = text ((c.references.ensures c.args.bytes.now).yes c.if-not-references.false) (c.texts_ok.ensures.no c.if-not-texts_ok.true)

pub space_ok-requires : goal.space_ok-requires
space_ok-requires c = record { inside = c.requires.formed.texts; space_in_bounds = ((c.references.ensures c.args.bytes.now).yes c.if-not-references.false).space }

pub returns-then-not-space_ok : goal.returns-then-not-space_ok
returns-then-not-space_ok c = space ((c.references.ensures c.args.bytes.now).yes c.if-not-references.false) (c.texts_ok.ensures.yes c.if-not-texts_ok.false) (c.space_ok.ensures.no c.if-not-space_ok.true)

pub judge_graph-requires : goal.judge_graph-requires
judge_graph-requires c =
    let t = (tables c.args.nodes.now c.args.edges.now c.args.choices.now c.args.texts.now c.args.bytes.now c.args.annotations c.args.root.0 c.args.space.0) in
    let r = ((c.references.ensures c.args.bytes.now).yes c.if-not-references.false) in
    record { nodes_len_bound = c.requires.formed.nodes; closed = closed t r; lists_inside = lists_inside t r; nodes_in_bounds = c.requires.nodes_in_bounds; choices_in_bounds = c.requires.choices_in_bounds }

pub returns : goal.returns
returns c = judged_graph (tables c.args.nodes.now c.args.edges.now c.args.choices.now c.args.texts.now c.args.bytes.now c.args.annotations c.args.root.0 c.args.space.0) _ ((c.references.ensures c.args.bytes.now).yes c.if-not-references.false) (c.texts_ok.ensures.yes c.if-not-texts_ok.false) (c.space_ok.ensures.yes c.if-not-space_ok.false) c.judge_graph.ensures
