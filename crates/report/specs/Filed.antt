-- The whole page of a right report is well-formed UTF-8, as every page is (`answer` Filed).
use Rattle.std.specs.Prelude.{List, [], ◌∷◌, map}
use Rattle.file_utf8.specs.Utf8.{Utf8, nothing}
use Rattle.file_utf8.specs.Joined.{joined, newline_to}
use Rattle.layout.specs.Report.{lines_below, whole_page}
use Rattle.answer.specs.Answer.{Settings}
use Rattle.answer.specs.Filed.{filed_utf8}
use Rattle.report.specs.Report.{Row, Report, whole, pages_in, bytes_of}
use Rattle.report.specs.Right.{RightRow, RightRows, RightReport}

row_utf8 : (c : Settings) (r : Row) → RightRow c r → Utf8 r.page.bytes
row_utf8 c r h = filed_utf8 h.in_bytes h.means h.page

below_utf8 : (c : Settings) (rows : List Row) → RightRows c rows → Utf8 (lines_below (map bytes_of (pages_in rows)))
below_utf8 c [] h = nothing
below_utf8 c (r ∷ rows) h = joined (10 ∷ []) _ (newline_to 0) (joined r.page.bytes _ (row_utf8 c r h.0) (below_utf8 c rows h.1))

pub whole_utf8 : (X : Report) → RightReport X → Utf8 (whole X).bytes
whole_utf8 X h = go X.rows h.right
  where
    go : (rows : List Row) → RightRows X.settings rows → Utf8 (whole_page (map bytes_of (pages_in rows)))
    go [] g = nothing
    go (r ∷ rows) g = joined r.page.bytes _ (row_utf8 X.settings r g.0) (below_utf8 X.settings rows g.1)
