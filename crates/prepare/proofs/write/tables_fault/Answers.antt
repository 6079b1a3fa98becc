use mathlib.Core.Path.{ap, ◌∙◌}
use Rattle.file_tables.specs.Tables.{tables}
use Rattle.refusals.specs.Numbers.{told}
use Rattle.prepare.proofs.Reading.{err_is}
use Rattle.prepare.proofs.Written.{header_first, nodes_first, texts_last}
use Rattle.prepare.proofs.write.tables_fault.Goals as goal

pub returns-in_err-header_fault-clause-by_index : goal.returns-in_err-header_fault-clause-by_index
returns-in_err-header_fault-clause-by_index c es xs bs root space le lx =
    ap told (err_is c.from_residual.ensures.1) ∙ header_first (tables c.args.nodes.now es xs c.args.texts.now bs c.args.n.annotations root space) _ (rw (c.requires.0, le, c.requires.1, lx) c.in_err-header_fault.ensures)

pub returns-in_err-nodes_fault-clause-by_index : goal.returns-in_err-nodes_fault-clause-by_index
returns-in_err-nodes_fault-clause-by_index c es xs bs root space le lx =
    ap told (err_is c.from_residual-in_err-nodes_fault.ensures.1)
    ∙ nodes_first (tables c.args.nodes.now es xs c.args.texts.now bs c.args.n.annotations root space) _ (rw (c.requires.0, le, c.requires.1, lx) c.in_ok-header_fault.ensures) c.in_err-nodes_fault.ensures.value

pub returns-clause-by_index : goal.returns-clause-by_index
returns-clause-by_index c es xs bs root space le lx =
    texts_last (tables c.args.nodes.now es xs c.args.texts.now bs c.args.n.annotations root space) (rw (c.requires.0, le, c.requires.1, lx) c.in_ok-header_fault.ensures) c.in_ok-nodes_fault.ensures.value c.texts_fault.ensures.value
