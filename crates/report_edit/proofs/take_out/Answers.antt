use native.Mathlib.Omega.{arith}
use Rattle.report_rows.specs.SumLaws.{starting}
use Rattle.report_edit.proofs.Edited.{out_files, out_pages, out_marks, taken_out}
use Rattle.report_edit.proofs.take_out.Goals as goal

pub starts-used-requires : goal.starts-used-requires
starts-used-requires c = starting c.requires.sound (omega arith) (omega arith) (omega arith) c.args.rows (omega arith)

pub starts-at-requires : goal.starts-at-requires
starts-at-requires c = starting c.requires.sound (omega arith) (omega arith) (omega arith) c.args.place (omega (arith, c.requires.place_in))

pub entry_at-row-requires : goal.entry_at-row-requires
entry_at-row-requires c = omega (arith, c.requires.place_in, c.requires.sound.rows_in, c.requires.sound.table_lent)

pub remove-requires : goal.remove-requires
remove-requires c = out_files c.requires c.starts-used.ensures c.starts-at.ensures c.entry_at-row.ensures

pub remove-requires-2 : goal.remove-requires-2
remove-requires-2 c = out_pages c.requires c.starts-used.ensures c.starts-at.ensures c.entry_at-row.ensures

pub remove-requires-3 : goal.remove-requires-3
remove-requires-3 c = out_marks c.requires c.starts-used.ensures c.starts-at.ensures c.entry_at-row.ensures

pub remove-requires-4 : goal.remove-requires-4
remove-requires-4 c = (omega (arith, c.requires.place_in), omega (arith, c.requires.sound.rows_in, c.requires.sound.table_lent))

pub returns : goal.returns
returns c = taken_out c.requires c.starts-used.result c.starts-at.result c.entry_at-row.result c.starts-used.ensures c.starts-at.ensures c.entry_at-row.ensures c.remove.ensures c.remove-2.ensures c.remove-3.ensures c.remove-4.ensures c.remove-4.auto.m c.remove.auto.m c.remove-2.auto.m c.remove-3.auto.m
