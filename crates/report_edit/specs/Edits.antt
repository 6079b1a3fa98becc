-- A row comes into all four stores of a report, or goes out of them.
use Rattle.std.specs.Prelude.{◌≡◌, List, [], ◌∷◌, map, ℕ, ◌+◌, ◌-◌, ◌≤◌, ◌<◌, length, take}
use Rattle.cost.specs.Value.{value}
use Rattle.layout.specs.SpanWords.{span_of}
use Rattle.report.specs.Report.{Row, rows_most, insert_at, remove_at}
use Rattle.report.specs.Memory.{Words, file_length, page_length, span_count, rows_of, sum_of, Sound}
use Rattle.report_store.specs.Marks.{Small}
use Rattle.report_edit.specs.declared.RowPage.{RowPage}

-- the row of a file, and of a page that lies at the front of bytes and span rows
abbrev pub row_in : RowPage → List ℕ → List ℕ → List Words → Row
row_in p file row row_spans = record { file = file; page = record { bytes = take p.length row; spans = map span_of (take p.spans row_spans); cost = value p.cost } }

-- there is room for the row in each store
pub record TakingIn (place rows : ℕ) (page : RowPage) (file row : List ℕ) (row_spans table : List Words) (files pages : List ℕ) (marks : List Words) : Type 0 where
  pub sound : Sound rows table (length files) (length pages) (length marks)
  pub place_in : place ≤ rows
  pub room : rows < rows_most
  pub files_room : sum_of file_length (take rows table) + length file ≤ length files
  pub pages_room : sum_of page_length (take rows table) + page.length ≤ length pages
  pub marks_room : sum_of span_count (take rows table) + page.spans ≤ length marks
  pub page_in : page.length ≤ length row
  pub spans_in : page.spans ≤ length row_spans
  pub small : Small page.spans row_spans

-- the memory before is table₀, files₀, pages₀ and marks₀
pub record TakenIn (place rows : ℕ) (page : RowPage) (file row : List ℕ) (row_spans table₀ table : List Words) (files₀ files pages₀ pages : List ℕ) (marks₀ marks : List Words) : Type 0 where
  pub rows_are : rows_of (take (rows + 1) table) files pages marks ≡ insert_at place (row_in page file row row_spans ∷ []) (rows_of (take rows table₀) files₀ pages₀ marks₀)
  pub sound : Sound (rows + 1) table (length files) (length pages) (length marks)

pub record TakingOut (place rows : ℕ) (table : List Words) (files pages : List ℕ) (marks : List Words) : Type 0 where
  pub sound : Sound rows table (length files) (length pages) (length marks)
  pub place_in : place < rows

pub record TakenOut (place rows : ℕ) (table₀ table : List Words) (files₀ files pages₀ pages : List ℕ) (marks₀ marks : List Words) : Type 0 where
  pub rows_are : rows_of (take (rows - 1) table) files pages marks ≡ remove_at place 1 (rows_of (take rows table₀) files₀ pages₀ marks₀)
  pub sound : Sound (rows - 1) table (length files) (length pages) (length marks)
