use native.Mathlib.Omega.{arith}
use Rattle.page_text.proofs.Laws.{prints_too_long, prints_fault, prints_answer, at_inside}
use Rattle.page_text.proofs.print_page.Goals as goal

pub returns-then-input-gt32768 : goal.returns-then-input-gt32768
returns-then-input-gt32768 c = prints_too_long (omega arith) c.refused_line.ensures

pub returns-then-next-ne0 : goal.returns-then-next-ne0
returns-then-next-ne0 c = prints_fault c.setting_at-setting.result c.setting_at-setting.ensures (omega arith) c.if-next-ne0.true c.refused_line-then-next-ne0.ensures

pub slice_bounds-print_file-count : goal.slice_bounds-print_file-count
slice_bounds-print_file-count c = at_inside c.args.input.now c.setting_at-setting.result c.setting_at-setting.ensures

pub returns : goal.returns
returns c = prints_answer c.setting_at-setting.result c.setting_at-setting.ensures (omega arith) c.if-next-ne0.false c.print_file.ensures

pub slice_bounds-print_file-start : goal.slice_bounds-print_file-start
slice_bounds-print_file-start c = at_inside c.args.input.now c.setting_at-setting.result c.setting_at-setting.ensures
