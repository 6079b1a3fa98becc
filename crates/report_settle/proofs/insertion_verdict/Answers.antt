use Rattle.report_settle.proofs.Altering.{verdict_is}
use native.Mathlib.Omega.{arith}
use Rattle.report_settle.proofs.insertion_verdict.Goals as goal

pub starts-used-requires : goal.starts-used-requires
starts-used-requires c = let s = c.requires.summable in record { there = s.table_in; files_small = omega (arith, s.files_small); pages_small = omega (arith, s.pages_small); marks_small = omega (arith, s.marks_small) }

pub cost_with-cost-requires : goal.cost_with-cost-requires
cost_with-cost-requires c = let s = c.requires.summable in (s.rows_in, s.table_in)

pub overflow_add-bytes : goal.overflow_add-bytes
overflow_add-bytes c = omega (arith, c.requires.summable.pages_small, c.requires.summable.rows_in, c.requires.page_small, c.starts-used.ensures.pages_are)

pub overflow_add-bytes-2 : goal.overflow_add-bytes-2
overflow_add-bytes-2 c = omega (arith, c.requires.summable.pages_small, c.requires.summable.rows_in, c.requires.page_small, c.starts-used.ensures.pages_are)

pub overflow_add-spans : goal.overflow_add-spans
overflow_add-spans c = omega (arith, c.requires.summable.marks_small, c.requires.spans_small, c.starts-used.ensures.marks_are)

pub returns : goal.returns
returns c = λ place h. verdict_is (omega (arith, c.starts-used.ensures.pages_are)) (omega (arith, c.starts-used.ensures.marks_are)) (c.judge.ensures _ (c.cost_with-cost.ensures place h))
