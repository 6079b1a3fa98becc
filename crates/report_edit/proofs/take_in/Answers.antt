use mathlib.Core.Path.{refl}
use native.Mathlib.Omega.{arith}
use Rattle.report_rows.specs.SumLaws.{starting}
use Rattle.report_edit.proofs.Edited.{in_files, in_pages, in_marks, taken_in}
use Rattle.report_edit.proofs.take_in.Goals as goal

pub starts-used-requires : goal.starts-used-requires
starts-used-requires c = starting c.requires.sound (omega arith) (omega arith) (omega arith) c.args.rows (omega arith)

pub starts-at-requires : goal.starts-at-requires
starts-at-requires c = starting c.requires.sound (omega arith) (omega arith) (omega arith) c.args.place c.requires.place_in

pub insert-requires : goal.insert-requires
insert-requires c = in_files c.requires c.starts-used.ensures c.starts-at.ensures

pub insert-requires-2 : goal.insert-requires-2
insert-requires-2 c = in_pages c.requires c.starts-used.ensures c.starts-at.ensures

pub insert_marks-requires : goal.insert_marks-requires
insert_marks-requires c = in_marks c.requires c.starts-used.ensures c.starts-at.ensures

pub insert-requires-3 : goal.insert-requires-3
insert-requires-3 c = (c.requires.place_in, omega (arith, c.requires.room, c.requires.sound.table_lent))

pub returns : goal.returns
returns c = taken_in c.requires c.starts-used.result c.starts-at.result c.starts-used.ensures c.starts-at.ensures _ c.insert.ensures c.insert-2.ensures c.insert_marks.ensures c.insert-3.ensures refl refl refl refl c.insert-3.auto.m c.insert.auto.m c.insert-2.auto.m c.insert_marks.auto.m
