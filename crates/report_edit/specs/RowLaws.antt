-- Laws of the rows that memory holds: their pages, how many they are, how long the whole page is.
use Rattle.std.specs.Prelude.{◌≡◌, refl, List, [], ◌∷◌, map, ℕ, suc, ◌+◌, ◌-◌, length, drop}
use Rattle.std.proofs.Common.{ap, arith, length-append}
use Rattle.std.proofs.lemmas.List.{length-map}
use Rattle.layout.specs.Spans.{Span}
use Rattle.layout.specs.Report.{lines_below, whole_page, spans_below, whole_spans, moved}
use Rattle.machine.specs.Materializer.{Rendered}
use Rattle.report.specs.Report.{pages_in}
use Rattle.report.specs.Memory.{Words, file_length, page_length, span_count, page_at, pages_of, rows_of}

pub rows_pages : (t : List Words) (files pages : List ℕ) (marks : List Words) → pages_in (rows_of t files pages marks) ≡ pages_of t pages marks
rows_pages [] files pages marks = refl
rows_pages (w ∷ t) files pages marks = ap (λ (l : List Rendered). page_at w pages marks ∷ l) (rows_pages t (drop (file_length w) files) (drop (page_length w) pages) (drop (span_count w) marks))

pub rows_count : (t : List Words) (files pages : List ℕ) (marks : List Words) → length (rows_of t files pages marks) ≡ length t
rows_count [] files pages marks = refl
rows_count (w ∷ t) files pages marks = ap suc (rows_count t (drop (file_length w) files) (drop (page_length w) pages) (drop (span_count w) marks))

pub pages_count : (t : List Words) (pages : List ℕ) (marks : List Words) → length (pages_of t pages marks) ≡ length t
pages_count [] pages marks = refl
pages_count (w ∷ t) pages marks = ap suc (pages_count t (drop (page_length w) pages) (drop (span_count w) marks))

-- ---- how long the whole page is

-- how long lists are together
unfoldable pub lengths : {A : Type 0} → List (List A) → ℕ
lengths [] = 0
lengths (l ∷ ls) = length l + lengths ls

lines_length : (bs : List (List ℕ)) → length (lines_below bs) ≡ lengths bs + length bs
unfolding lengths
lines_length [] = refl
lines_length (b ∷ bs) = omega (arith, length-append b (lines_below bs), lines_length bs)

-- byte 10 between neighbours
pub whole_page_length : (bs : List (List ℕ)) → length (whole_page bs) ≡ lengths bs + (length bs - 1)
unfolding lengths
whole_page_length [] = omega arith
whole_page_length (b ∷ bs) = omega (arith, length-append b (lines_below bs), lines_length bs)

below_length : (at n : ℕ) (bs : List (List ℕ)) (ss : List (List Span)) → length bs ≡ length ss → length (spans_below at n bs ss) ≡ lengths ss
unfolding lengths
below_length at n [] [] h = refl
below_length at n [] (s ∷ ss) h = absurd (omega arith)
below_length at n (b ∷ bs) [] h = absurd (omega arith)
below_length at n (b ∷ bs) (s ∷ ss) h =
    let rest = spans_below (at + length b + 1) (n + length s) bs ss in
    omega (arith, length-append (map (moved at n) s) rest, length-map s (moved at n), below_length (at + length b + 1) (n + length s) bs ss (omega arith))

pub whole_spans_length : (bs : List (List ℕ)) (ss : List (List Span)) → length bs ≡ length ss → length (whole_spans bs ss) ≡ lengths ss
whole_spans_length bs ss h = below_length 0 0 bs ss h
