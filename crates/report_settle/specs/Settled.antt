-- What a step leaves once its row is solved: the answer, output and spans, and the report in its memory.
use Rattle.std.specs.Prelude.{◌≡◌, Ok, Err, List, ℕ, ◌+◌, ◌≤◌, ◌<◌, length, take}
use Rattle.cost.specs.declared.ConsumerCost.{ConsumerCost}
use Rattle.machine.specs.Events.{Counts, no_counts, with_needs}
use Rattle.stats.specs.declared.SolveStats.{SolveStats}
use Rattle.solve_workspace.specs.declared.Bounds.{Bounds}
use Rattle.solve_workspace.specs.declared.Needs.{Needs}
use Rattle.solve_workspace.specs.Meets.{limits, tally, needs_told}
use Rattle.render.specs.Rendered.{Rendered, page_with, refusal_with, meant, page_length, span_count, counts_of, Front}
use Rattle.report.specs.Report.{Report, with_row, without_row, rows_most}
use Rattle.report.specs.Answers.{Tested}
use Rattle.report.specs.Memory.{Words, file_length, sum_of, Sound}
use Rattle.report_store.specs.Marks.{Small}
use Rattle.report_edit.specs.declared.RowPage.{RowPage}
use Rattle.report_edit.specs.Edits.{row_in}
use Rattle.report_gate.specs.declared.Head.{Head}
use Rattle.report_gate.specs.declared.Stores.{Stores}
use Rattle.report_gate.specs.Heads.{held}
use Rattle.report_gate.specs.Gates.{StoresLent}
use Rattle.report_settle.specs.declared.Step.{Step}
use Rattle.report_settle.specs.Verdicts.{refusal_of}

abbrev pub stores : List ℕ → List ℕ → List Words → List ℕ → List Words → Stores
stores files pages marks output spans = record { files = length files; pages = length pages; marks = length marks; output = length output; spans = length spans }

-- output and spans: a page at the front, and nothing on a refusal
pub record Stands (r : Rendered) (output₀ output : List ℕ) (spans₀ spans : List Words) : Type 0 where
  pub output_is : Front (page_length r) output₀ output
  pub spans_are : Front (span_count r) spans₀ spans
  pub no_fit_checks : (counts_of r).fit_checks ≡ 0

-- nothing of the report is altered, word for word
pub record Unaltered (h : Head) (table₀ table : List Words) (files₀ files pages₀ pages : List ℕ) (marks₀ marks : List Words) (r : Step) : Type 0 where
  pub head_is : r.head ≡ h
  pub table_is : table ≡ table₀
  pub files_are : files ≡ files₀
  pub pages_are : pages ≡ pages₀
  pub marks_are : marks ≡ marks₀

-- the row is solved, with counts k, and the report with it is Y: the whole page is tested, and what is told stands in memory
pub record Settles (b : Bounds) (k : Counts) (h : Head) (Y : Report) (table₀ table : List Words) (files₀ files pages₀ pages : List ℕ) (marks₀ marks : List Words) (output₀ output : List ℕ) (spans₀ spans : List Words) (r : Step) : Type 0 where
  pub tested : Tested (held h table₀ files₀ pages₀ marks₀) (limits b) k Y (meant r.answer output spans) (held r.head table files pages marks)
  pub stands : Stands r.answer output₀ output spans₀ spans
  pub kept : (n needed : ℕ) (s : SolveStats) → r.answer ≡ Err (refusal_with n needed s) → Unaltered h table₀ table files₀ files pages₀ pages marks₀ marks r
  pub sound : Sound r.head.rows table (length files) (length pages) (length marks)

-- ---- an insertion

-- what it asks: the row's page and spans are there and in their sizes, and the report has room
pub record PageHeld (b : Bounds) (page : RowPage) (row : List ℕ) (row_spans : List Words) : Type 0 where
  pub page_in : page.length ≤ length row
  pub spans_in : page.spans ≤ length row_spans
  pub page_fits : page.length ≤ b.output
  pub spans_fit : page.spans ≤ b.spans
  pub small : Small page.spans row_spans

pub record Room (place : ℕ) (b : Bounds) (h : Head) (file : List ℕ) (table : List Words) (files pages : List ℕ) (marks : List Words) (output : List ℕ) (spans : List Words) : Type 0 where
  pub sound : Sound h.rows table (length files) (length pages) (length marks)
  pub lent : StoresLent b (stores files pages marks output spans)
  pub place_in : place ≤ h.rows
  pub room : h.rows < rows_most
  pub files_room : sum_of file_length (take h.rows table) + length file ≤ length files

pub record Inserting (place : ℕ) (b : Bounds) (h : Head) (page : RowPage) (stats : SolveStats) (file row : List ℕ) (row_spans table : List Words) (files pages : List ℕ) (marks : List Words) (output : List ℕ) (spans : List Words) : Type 0 where
  pub room : Room place b h file table files pages marks output spans
  pub there : PageHeld b page row row_spans
  pub no_fit_checks : stats.fit_checks ≡ 0

abbrev pub InsertionSettled : ℕ → Bounds → Head → RowPage → SolveStats → Needs → List ℕ → List ℕ → List Words → List Words → List Words → List ℕ → List ℕ → List ℕ → List ℕ → List Words → List Words → List ℕ → List ℕ → List Words → List Words → Step → Type 0
InsertionSettled place b h page stats needs file row row_spans table₀ table files₀ files pages₀ pages marks₀ marks output₀ output spans₀ spans r =
    Settles b (with_needs (tally stats) (needs_told needs)) h (with_row (held h table₀ files₀ pages₀ marks₀) place (row_in page file row row_spans)) table₀ table files₀ files pages₀ pages marks₀ marks output₀ output spans₀ spans r

abbrev pub row_page : ConsumerCost → ℕ → ℕ → RowPage
row_page c n m = record { cost = c; length = n; spans = m }

-- whatever the single call has answered
pub record Settling (place : ℕ) (b : Bounds) (h : Head) (a : Rendered) (file row : List ℕ) (row_spans table : List Words) (files pages : List ℕ) (marks : List Words) (output : List ℕ) (spans : List Words) : Type 0 where
  pub room : Room place b h file table files pages marks output spans
  pub page : (c : ConsumerCost) (n m : ℕ) (k : SolveStats) (q : Needs) → a ≡ Ok (page_with c n m k q) → PageHeld b (row_page c n m) row row_spans
  pub no_fit_checks : (counts_of a).fit_checks ≡ 0

pub record Settled (place : ℕ) (b : Bounds) (h : Head) (a : Rendered) (file row : List ℕ) (row_spans : List Words) (table₀ table : List Words) (files₀ files pages₀ pages : List ℕ) (marks₀ marks : List Words) (output₀ output : List ℕ) (spans₀ spans : List Words) (r : Step) : Type 0 where
  pub refused : (n needed : ℕ) (k : SolveStats) → a ≡ Err (refusal_with n needed k)
      → (r ≡ refusal_of n needed k h) × Unaltered h table₀ table files₀ files pages₀ pages marks₀ marks r × (output ≡ output₀) × (spans ≡ spans₀)
  pub paged : (c : ConsumerCost) (n m : ℕ) (k : SolveStats) (q : Needs) → a ≡ Ok (page_with c n m k q)
      → InsertionSettled place b h (row_page c n m) k q file row row_spans table₀ table files₀ files pages₀ pages marks₀ marks output₀ output spans₀ spans r

-- ---- a removal

pub record Removing (place : ℕ) (b : Bounds) (h : Head) (table : List Words) (files pages : List ℕ) (marks : List Words) (output : List ℕ) (spans : List Words) : Type 0 where
  pub sound : Sound h.rows table (length files) (length pages) (length marks)
  pub lent : StoresLent b (stores files pages marks output spans)
  pub place_in : place < h.rows

abbrev pub RemovalSettled : ℕ → Bounds → Head → List Words → List Words → List ℕ → List ℕ → List ℕ → List ℕ → List Words → List Words → List ℕ → List ℕ → List Words → List Words → Step → Type 0
RemovalSettled place b h table₀ table files₀ files pages₀ pages marks₀ marks output₀ output spans₀ spans r =
    Settles b no_counts h (without_row (held h table₀ files₀ pages₀ marks₀) place) table₀ table files₀ files pages₀ pages marks₀ marks output₀ output spans₀ spans r
