use mathlib.Core.Path.{refl, sym}
use Rattle.prepare.specs.Writing.{wrong}
use Rattle.prepare.proofs.Reading.{err_is}
use Rattle.prepare.proofs.Written.{answer_ill, formed_by, choices_few}
use Rattle.prepare.proofs.write.write_tables.Goals as goal

pub returns-in_err-tables_fault : goal.returns-in_err-tables_fault
returns-in_err-tables_fault c =
    let a = c.args in
    let e = c.in_err-tables_fault.ensures.by_index a.edges.now a.choices.now a.bytes.now a.n.root.0 a.n.space.0 c.requires.cut.edges_cut c.requires.cut.choices_cut in
    rw (err_is c.from_residual.ensures.1) (answer_ill _ _ c.requires.bytes_len a.out.now _ e)

pub judged-requires : goal.judged-requires
judged-requires c =
    let a = c.args in
    let e = c.in_ok-tables_fault.ensures.by_index a.edges.now a.choices.now a.bytes.now a.n.root.0 a.n.space.0 c.requires.cut.edges_cut c.requires.cut.choices_cut in
    record { formed = formed_by _ c.requires.bytes_len (sym e); choices_len_bound = choices_few _ (sym e) }

pub returns-in_err-judged : goal.returns-in_err-judged
returns-in_err-judged c =
    let a = c.args in
    let e = c.in_ok-tables_fault.ensures.by_index a.edges.now a.choices.now a.bytes.now a.n.root.0 a.n.space.0 c.requires.cut.edges_cut c.requires.cut.choices_cut in
    rw (err_is c.from_residual-in_err-judged.ensures.1) (wrong _ c.requires.bytes_len (sym e) c.in_err-judged.ensures refl)

pub write_right-requires : goal.write_right-requires
write_right-requires c =
    let a = c.args in
    let e = c.in_ok-tables_fault.ensures.by_index a.edges.now a.choices.now a.bytes.now a.n.root.0 a.n.space.0 c.requires.cut.edges_cut c.requires.cut.choices_cut in
    let w = c.in_ok-tables_fault.ensures.wide refl in
    record { space_value = sym e; sized = record { node_rows = w.0; text_rows = w.1; bytes = c.requires.bytes_len }; judged = c.in_ok-judged.ensures }
