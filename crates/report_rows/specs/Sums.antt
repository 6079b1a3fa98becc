-- What a table's rows sum to, and where a row starts in each store.
use Rattle.std.specs.Prelude.{◌≡◌, Option, Some, None, List, ℕ, ◌^◌, ◌≤◌, ◌<◌, length, take}
use Rattle.report.specs.Memory.{Words, file_length, page_length, span_count, sum_of, Sound}
use Rattle.report_rows.specs.declared.Totals.{Totals}
use Rattle.report_rows.specs.declared.Entry.{Entry}

pub record Totalled (t : List Words) (s : Totals) : Type 0 where
  pub files_are : s.files ≡ sum_of file_length t
  pub pages_are : s.pages ≡ sum_of page_length t
  pub marks_are : s.marks ≡ sum_of span_count t

-- whether memory with stores of these lengths holds a report of n rows
pub data Summing (n : ℕ) (table : List Words) (files pages marks : ℕ) : Option Totals → Type 0 where
  sound : {s : Totals} → Sound n table files pages marks → Totalled (take n table) s → Summing n table files pages marks (Some s)
  unsound : (Sound n table files pages marks → ⊥) → Summing n table files pages marks None

-- the rows before a place are there, and what they sum to has its place in a word
pub record Starting (place : ℕ) (table : List Words) : Type 0 where
  pub there : place ≤ length table
  pub files_small : sum_of file_length (take place table) < 2 ^ 64
  pub pages_small : sum_of page_length (take place table) < 2 ^ 64
  pub marks_small : sum_of span_count (take place table) < 2 ^ 64

pub record EntryIs (w : Words) (r : Entry) : Type 0 where
  pub file_is : r.file ≡ file_length w
  pub page_is : r.page ≡ page_length w
  pub spans_are : r.spans ≡ span_count w
