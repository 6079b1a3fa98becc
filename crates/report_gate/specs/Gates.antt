-- What 1 (order) asks of a step, and the order of 1, 28, 23 and 24 (document 02, changes 2 and 8).
use Rattle.std.specs.Prelude.{Option, Some, Bool, true, false, List, ℕ, zero, suc, ◌+◌, ◌≤◌, ◌<◌, take}
use Rattle.solve_workspace.specs.declared.Bounds.{Bounds}
use Rattle.render.specs.declared.order.Lengths.{Lengths}
use Rattle.render.specs.Order.{OptionsRight, InOrder}
use Rattle.desks.specs.Desks.{last_desk}
use Rattle.desks.specs.Desks.{gate_number as desk_number}
use Rattle.report.specs.Memory.{Words, file_length, sum_of, Sound}
use Rattle.report_rows.specs.declared.Totals.{Totals}
use Rattle.report_gate.specs.declared.Head.{Head}
use Rattle.report_gate.specs.declared.Stores.{Stores}
use Rattle.report_gate.specs.Heads.{options}

-- the whole page has room, in the report and in what is lent for the answer
pub record StoresLent (b : Bounds) (k : Stores) : Type 0 where
  pub pages : b.output ≤ k.pages
  pub output : b.output ≤ k.output
  pub marks : b.spans ≤ k.marks
  pub spans : b.spans ≤ k.spans

-- what an insertion asks: memory that holds a report, room for the whole page and for one file more, and all that 1 asks of a single call on the file
pub record InsertionLent (h : Head) (b : Bounds) (file : ℕ) (table : List Words) (k : Stores) (l : Lengths) : Type 0 where
  pub sound : Sound h.rows table k.files k.pages k.marks
  pub stores : StoresLent b k
  pub files : sum_of file_length (take h.rows table) + file ≤ k.files
  pub call : InOrder (options h) b l

-- what a removal asks; it is lent no working memory
pub record RemovalLent (h : Head) (b : Bounds) (table : List Words) (k : Stores) : Type 0 where
  pub sound : Sound h.rows table k.files k.pages k.marks
  pub stores : StoresLent b k
  pub setting : OptionsRight (options h)

-- ---- the parts of the test

pub data FilesRoom : Option Totals → ℕ → ℕ → Type 0 where
  room : {t : Totals} {file files : ℕ} → t.files + file ≤ files → FilesRoom (Some t) file files

pub data IsSound : Option Totals → Type 0 where
  is : {t : Totals} → IsSound (Some t)

-- ---- the order

-- the first of two numbers that refuses; 0 is that nothing is refused
abbrev pub first : ℕ → ℕ → ℕ
first zero n = n
first (suc m) n = suc m

abbrev pub row_number : Bool → Bool → ℕ
row_number false full = 23
row_number true true = 24
row_number true false = 0

-- 1 and 28 as in every call for a desk, then 23 and 24
abbrev pub gate_number : Bool → ℕ → Bool → Bool → ℕ
gate_number ordered d there full = first (desk_number ordered d) (row_number there full)

-- what a number says; 0 is that the step may go on
pub data Gate (lent : Type 0) (d : ℕ) (there full : Type 0) : ℕ → Type 0 where
  opens : lent → d ≤ last_desk → there → (full → ⊥) → Gate lent d there full 0
  order : (lent → ⊥) → Gate lent d there full 1
  desk : lent → last_desk < d → Gate lent d there full 28
  place : lent → d ≤ last_desk → (there → ⊥) → Gate lent d there full 23
  rows : lent → d ≤ last_desk → there → full → Gate lent d there full 24
