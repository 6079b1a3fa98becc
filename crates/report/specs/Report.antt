-- Document 02, change 2: a live report, its steps and its whole page.
use Rattle.std.specs.Prelude.{List, [], ◌∷◌, ◌++◌, map, ℕ, ◌+◌, ◌≤◌, ◌<◌, length, take, drop}
use Rattle.cost.specs.Cost.{Cost}
use Rattle.layout.specs.Spans.{Span}
use Rattle.layout.specs.Report.{whole_page, whole_spans, whole_cost}
use Rattle.machine.specs.Materializer.{Rendered}
use Rattle.answer.specs.Answer.{Settings}

-- a row: an accepted file, and its own page, with spans from its own first byte and first span
pub record Row : Type 0 where
  pub file : List ℕ
  pub page : Rendered

-- "a live report holds up to 1,024 rows, each an accepted file, under one setting"
pub record Report : Type 0 where
  pub settings : Settings
  pub rows : List Row

abbrev pub rows_most : ℕ
rows_most = 1024

-- a file is inserted at a place, or the row at a place is removed
pub data Step : Type 0 where
  insert : ℕ → List ℕ → Step
  remove : ℕ → Step

-- ---- the whole page

abbrev pub bytes_of : Rendered → List ℕ
bytes_of r = r.bytes

abbrev pub spans_of : Rendered → List Span
spans_of r = r.spans

abbrev pub cost_of : Rendered → Cost
cost_of r = r.cost

-- pages one below the other, at a newline cost
abbrev pub stacked_pages : ℕ → List Rendered → Rendered
stacked_pages n ps = record { bytes = whole_page (map bytes_of ps); spans = whole_spans (map bytes_of ps) (map spans_of ps); cost = whole_cost n (map cost_of ps) }

abbrev pub pages_in : List Row → List Rendered
pages_in rows = map (λ (r : Row). r.page) rows

abbrev pub whole : Report → Rendered
whole X = stacked_pages X.settings.newline_cost (pages_in X.rows)

-- ---- rows that come and go

-- new ones stand at place i, what stood from there on after them
abbrev pub insert_at : {A : Type 0} → ℕ → List A → List A → List A
insert_at i new l = take i l ++ (new ++ drop i l)

-- the n at place i are gone
abbrev pub remove_at : {A : Type 0} → ℕ → ℕ → List A → List A
remove_at i n l = take i l ++ drop (i + n) l

abbrev pub with_row : Report → ℕ → Row → Report
with_row X i r = record { settings = X.settings; rows = insert_at i (r ∷ []) X.rows }

abbrev pub without_row : Report → ℕ → Report
without_row X i = record { settings = X.settings; rows = remove_at i 1 X.rows }

-- an insertion's place is 0 to the number of rows, a removal's that of a row
abbrev pub PlaceThere : Report → Step → Type 0
PlaceThere X (insert i f) = i ≤ length X.rows
PlaceThere X (remove i) = i < length X.rows

-- an insertion finds no room for one row more
abbrev pub Full : Report → Step → Type 0
Full X (insert i f) = rows_most ≤ length X.rows
Full X (remove i) = ⊥
