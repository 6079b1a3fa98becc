-- The whole page of a report and its spans, in output and spans.
use Rattle.std.specs.Prelude.{◌≡◌, List, ◌++◌, map, ℕ, ◌≤◌, ◌<◌, ◌^◌, length, take, drop}
use Rattle.layout.specs.Spans.{Span}
use Rattle.layout.specs.SpanWords.{span_of}
use Rattle.layout.specs.Report.{whole_page, whole_spans}
use Rattle.machine.specs.Materializer.{Rendered}
use Rattle.report.specs.Report.{bytes_of, spans_of}
use Rattle.report.specs.Memory.{Words, page_length, span_count, pages_of, sum_of}

abbrev pub whole_bytes : List Rendered → List ℕ
whole_bytes ps = whole_page (map bytes_of ps)

abbrev pub whole_marks : List Rendered → List Span
whole_marks ps = whole_spans (map bytes_of ps) (map spans_of ps)

-- what the rows say lies in the stores, and the whole has a place in output and spans
pub record Deliverable (n : ℕ) (table : List Words) (pages : List ℕ) (marks : List Words) (output : List ℕ) (spans : List Words) : Type 0 where
  pub rows_in : n ≤ length table
  pub pages_in : sum_of page_length (take n table) ≤ length pages
  pub marks_in : sum_of span_count (take n table) ≤ length marks
  pub output_in : length (whole_bytes (pages_of (take n table) pages marks)) ≤ length output
  pub spans_in : length (whole_marks (pages_of (take n table) pages marks)) ≤ length spans
  pub output_small : length (whole_bytes (pages_of (take n table) pages marks)) < 2 ^ 32
  pub spans_small : length (whole_marks (pages_of (take n table) pages marks)) < 2 ^ 32

-- output begins with the whole page, spans with the whole page's; what is past them stays
pub record Delivered (n : ℕ) (table : List Words) (pages : List ℕ) (marks : List Words) (output₀ output : List ℕ) (spans₀ spans : List Words) : Type 0 where
  pub output_is : output ≡ whole_bytes (pages_of (take n table) pages marks) ++ drop (length (whole_bytes (pages_of (take n table) pages marks))) output₀
  pub spans_are : map span_of (take (length (whole_marks (pages_of (take n table) pages marks))) spans) ≡ whole_marks (pages_of (take n table) pages marks)
  pub spans_past : drop (length (whole_marks (pages_of (take n table) pages marks))) spans ≡ drop (length (whole_marks (pages_of (take n table) pages marks))) spans₀
