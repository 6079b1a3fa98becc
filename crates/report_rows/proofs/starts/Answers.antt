use native.Mathlib.Omega.{arith}
use Rattle.report.specs.Memory.{file_length, page_length, span_count}
use Rattle.report_rows.proofs.Sums.{none_yet, turn, so_far}
use Rattle.report_rows.proofs.starts.Goals as goal

pub loop-i-init : goal.loop-i-init
loop-i-init c = none_yet

pub overflow_add-sums : goal.overflow_add-sums
overflow_add-sums c = omega (arith, so_far file_length c.args.table.now c.loop-i.i c.args.place c.loop-i.sums.files c.entry_at-row.result.file (omega arith) c.requires.there c.loop-i.invariant.files_are c.entry_at-row.ensures.file_is)

pub overflow_add-sums-in-loop-i : goal.overflow_add-sums-in-loop-i
overflow_add-sums-in-loop-i c = omega (arith, so_far page_length c.args.table.now c.loop-i.i c.args.place c.loop-i.sums.pages c.entry_at-row.result.page (omega arith) c.requires.there c.loop-i.invariant.pages_are c.entry_at-row.ensures.page_is)

pub overflow_add-sums-in-loop-i-2 : goal.overflow_add-sums-in-loop-i-2
overflow_add-sums-in-loop-i-2 c = omega (arith, so_far span_count c.args.table.now c.loop-i.i c.args.place c.loop-i.sums.marks c.entry_at-row.result.spans (omega arith) c.requires.there c.loop-i.invariant.marks_are c.entry_at-row.ensures.spans_are)

pub loop-i-preserved : goal.loop-i-preserved
loop-i-preserved c = turn c.args.table.now c.loop-i.i c.loop-i.sums.files c.loop-i.sums.pages c.loop-i.sums.marks c.entry_at-row.result (omega arith) c.loop-i.invariant c.entry_at-row.ensures
