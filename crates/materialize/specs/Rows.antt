-- A span as a row of words holds it: annotation, start, end, parent.
use Rattle.std.proofs.Math.Option.{Option, none, some}
use Rattle.std.specs.Prelude.{List, [], ◌∷◌, map, ℕ, suc, ◌<◌, ◌≤◌, ◌^◌, length, get_or}
use Rattle.layout.specs.Layout.{Plan}
use Rattle.layout.specs.Spans.{Span, spans}

abbrev pub Row : Type 0
Row = List ℕ

-- a parent as a word: 0 is none, and k + 1 the span k
abbrev pub parent_word : Option ℕ → ℕ
parent_word none = 0
parent_word (some k) = suc k

abbrev pub row_of : Span → Row
row_of s = s.annotation ∷ s.start ∷ s.end ∷ parent_word s.parent ∷ []

-- its annotation and its parent have a place in the words of a span record
abbrev pub Fits : Row → Type 0
Fits r = (get_or r 0 0 < 2 ^ 32) × (get_or r 3 0 ≤ 2 ^ 32)

-- the rows of a layout's spans, in the order in which they open
abbrev pub span_rows : Plan → List Row
span_rows p = map row_of (spans p)

abbrev pub AllFit : List Row → Type 0
AllFit rows = (k : ℕ) → k < length rows → Fits (get_or rows k [])
