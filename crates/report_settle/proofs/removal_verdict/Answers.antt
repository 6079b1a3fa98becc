use Rattle.report_settle.proofs.Altering.{verdict_is, row_gone}
use Rattle.report.specs.Memory.{page_length, span_count}
use native.Mathlib.Omega.{arith}
use Rattle.report_settle.proofs.removal_verdict.Goals as goal

pub starts-used-requires : goal.starts-used-requires
starts-used-requires c = let s = c.requires.summable in record { there = s.table_in; files_small = omega (arith, s.files_small); pages_small = omega (arith, s.pages_small); marks_small = omega (arith, s.marks_small) }

pub entry_at-gone-requires : goal.entry_at-gone-requires
entry_at-gone-requires c = omega (arith, c.requires.place_in, c.requires.summable.table_in)

pub cost_without-cost-requires : goal.cost_without-cost-requires
cost_without-cost-requires c = let s = c.requires.summable in (s.rows_in, s.table_in, c.requires.place_in)

pub overflow_sub-count : goal.overflow_sub-count
overflow_sub-count c = omega (arith, c.requires.place_in)

pub overflow_sub-bytes : goal.overflow_sub-bytes
overflow_sub-bytes c = omega (arith, row_gone page_length c.args.table.now c.args.h.rows c.args.place c.requires.place_in c.requires.summable.table_in, c.starts-used.ensures.pages_are, c.entry_at-gone.ensures.page_is)

pub overflow_add-bytes : goal.overflow_add-bytes
overflow_add-bytes c = omega (arith, c.requires.summable.pages_small, c.requires.summable.rows_in, c.starts-used.ensures.pages_are)

pub overflow_sub-spans : goal.overflow_sub-spans
overflow_sub-spans c = omega (arith, row_gone span_count c.args.table.now c.args.h.rows c.args.place c.requires.place_in c.requires.summable.table_in, c.starts-used.ensures.marks_are, c.entry_at-gone.ensures.spans_are)

pub returns : goal.returns
returns c = verdict_is (omega (arith, row_gone page_length c.args.table.now c.args.h.rows c.args.place c.requires.place_in c.requires.summable.table_in, c.starts-used.ensures.pages_are, c.entry_at-gone.ensures.page_is)) (omega (arith, row_gone span_count c.args.table.now c.args.h.rows c.args.place c.requires.place_in c.requires.summable.table_in, c.starts-used.ensures.marks_are, c.entry_at-gone.ensures.spans_are)) (c.judge.ensures _ c.cost_without-cost.ensures)
