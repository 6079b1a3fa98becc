-- The report that lent memory holds (docs/MEMORY.md): a table of rows of 8 words, and the rows' files, pages and spans one after the other, in row order.
use Rattle.std.specs.Prelude.{List, [], ◌∷◌, map, ℕ, ◌+◌, ◌≤◌, length, get_or, take, drop}
use Rattle.cost.specs.Cost.{Cost}
use Rattle.cost.specs.Value.{halves}
use Rattle.layout.specs.SpanWords.{span_of}
use Rattle.machine.specs.Materializer.{Rendered}
use Rattle.answer.specs.Answer.{Settings}
use Rattle.report.specs.Report.{Row, Report, rows_most}

abbrev pub Words : Type 0
Words = List ℕ

-- a row of the table: the bytes of its file and of its page, its spans, its cost (overflow high and low, burden); two words are not read here
abbrev pub file_length : Words → ℕ
file_length w = get_or w 0 0

abbrev pub page_length : Words → ℕ
page_length w = get_or w 1 0

abbrev pub span_count : Words → ℕ
span_count w = get_or w 2 0

abbrev pub cost_at : Words → Cost
cost_at w = record { overflow = halves (get_or w 3 0) (get_or w 4 0); burden = get_or w 5 0 }

abbrev pub page_at : Words → List ℕ → List Words → Rendered
page_at w pages marks = record { bytes = take (page_length w) pages; spans = map span_of (take (span_count w) marks); cost = cost_at w }

-- the pages of a table's rows
abbrev pub pages_of : List Words → List ℕ → List Words → List Rendered
pages_of [] pages marks = []
pages_of (w ∷ t) pages marks = page_at w pages marks ∷ pages_of t (drop (page_length w) pages) (drop (span_count w) marks)

abbrev pub rows_of : List Words → List ℕ → List ℕ → List Words → List Row
rows_of [] files pages marks = []
rows_of (w ∷ t) files pages marks = record { file = take (file_length w) files; page = page_at w pages marks } ∷ rows_of t (drop (file_length w) files) (drop (page_length w) pages) (drop (span_count w) marks)

-- the report of n rows
abbrev pub report_of : Settings → ℕ → List Words → List ℕ → List ℕ → List Words → Report
report_of c n table files pages marks = record { settings = c; rows = rows_of (take n table) files pages marks }

-- a word summed over a table's rows
unfoldable pub sum_of : (Words → ℕ) → List Words → ℕ
sum_of g [] = 0
sum_of g (w ∷ t) = g w + sum_of g t

-- memory that holds a report of n rows: there is room for 1,024, and what the rows say lies in the stores, whose lengths these are
pub record Sound (n : ℕ) (table : List Words) (files pages marks : ℕ) : Type 0 where
  pub rows_in : n ≤ rows_most
  pub table_lent : rows_most ≤ length table
  pub files_in : sum_of file_length (take n table) ≤ files
  pub pages_in : sum_of page_length (take n table) ≤ pages
  pub marks_in : sum_of span_count (take n table) ≤ marks
