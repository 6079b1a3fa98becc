use mathlib.Core.Path.{◌≡◌}
use native.Mathlib.Omega.{arith}
use Rattle.report.specs.Memory.{file_length, page_length, span_count}
use Rattle.report_rows.specs.Sums.{sound, unsound}
use Rattle.report_rows.specs.SumLaws.{sum_next}
use Rattle.report_rows.proofs.Sums.{all_left, too_many}
use Rattle.report_rows.proofs.sum_rows.Goals as goal
use Rattle.report_rows.proofs.sum_rows.Goals.{then-rows-gt1024-via-then-rows-gt1024, then-rows-gt1024-via-else-rows-gt1024+then-table-lt1024}

pub returns-then-rows-gt1024 : goal.returns-then-rows-gt1024
returns-then-rows-gt1024 c =
    unsound λ s. elim c.then-rows-gt1024.branch [
      | then-rows-gt1024-via-then-rows-gt1024 w ↦ omega (arith, s.rows_in)
      | then-rows-gt1024-via-else-rows-gt1024+then-table-lt1024 w ↦ omega (arith, s.table_lent)
    ]

pub loop-i-init : goal.loop-i-init
loop-i-init c = all_left c.args.files c.args.pages c.args.marks

pub returns-in_err-left : goal.returns-in_err-left
returns-in_err-left c = rw c.from_residual.ensures (unsound λ s. too_many file_length c.args.table.now c.loop-i.i c.args.rows c.loop-i.left.files c.entry_at-row.result.file c.args.files (omega arith) (omega arith) c.loop-i.invariant.files_left c.entry_at-row.ensures.file_is (omega (arith, c.in_err-left.ensures)) s.files_in)

pub returns-in_err-left-2 : goal.returns-in_err-left-2
returns-in_err-left-2 c = rw c.from_residual-in_err-left-2.ensures (unsound λ s. too_many page_length c.args.table.now c.loop-i.i c.args.rows c.loop-i.left.pages c.entry_at-row.result.page c.args.pages (omega arith) (omega arith) c.loop-i.invariant.pages_left c.entry_at-row.ensures.page_is (omega (arith, c.in_err-left-2.ensures)) s.pages_in)

pub returns-in_err-left-3 : goal.returns-in_err-left-3
returns-in_err-left-3 c = rw c.from_residual-in_err-left-3.ensures (unsound λ s. too_many span_count c.args.table.now c.loop-i.i c.args.rows c.loop-i.left.marks c.entry_at-row.result.spans c.args.marks (omega arith) (omega arith) c.loop-i.invariant.marks_left c.entry_at-row.ensures.spans_are (omega (arith, c.in_err-left-3.ensures)) s.marks_in)

pub loop-i-preserved : goal.loop-i-preserved
loop-i-preserved c =
    let t = c.args.table.now in
    let i = c.loop-i.i in
    record {
      files_left = omega (arith, c.in_ok-left.ensures, sum_next file_length t i (omega arith));
      pages_left = omega (arith, c.in_ok-left-2.ensures, sum_next page_length t i (omega arith));
      marks_left = omega (arith, c.in_ok-left-3.ensures, sum_next span_count t i (omega arith));
    }

pub returns : goal.returns
returns c =
    let e : c.loop-i.i ≡ c.args.rows = omega arith in
    let t = rw e at c.loop-i.invariant in
    sound (record { rows_in = omega arith; table_lent = omega arith; files_in = omega (arith, t.files_left); pages_in = omega (arith, t.pages_left); marks_in = omega (arith, t.marks_left) })
    (record { files_are = omega (arith, t.files_left); pages_are = omega (arith, t.pages_left); marks_are = omega (arith, t.marks_left) })
