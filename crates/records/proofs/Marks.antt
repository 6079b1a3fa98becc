-- A mark in span records is the mark in the rows that they are.
use mathlib.Core.Path.{◌≡◌, refl, sym, ap, ◌∙◌}
use mathlib.Core.List.{List, [], ◌∷◌}
use Prim.Native.Nat.{ℕ, zero, suc, ◌<◌}
use native.Mathlib.Omega.{arith}
use lib.ListN.{length, set, get_or, length-set}
use Rattle.spans.specs.declared.AnnotationSpan.{AnnotationSpan}
use Rattle.spans.specs.Spans.{open_span, close_span, parent_from, blank}
use Rattle.materialize.specs.declared.Mark.{Mark}
use Rattle.materialize.specs.declared.Mark.TheVariants.{Nothing, Open, Close}
use Rattle.materialize.specs.Rows.{Row, parent_word}
use Rattle.materialize.specs.Writes.{marked, MarkFits}
use Rattle.records.specs.Records.{parent_in}
use Rattle.records.specs.Records.{recorded, row_in, rows_in}

map_set : (l : List AnnotationSpan) (n : ℕ) (x : AnnotationSpan) → rows_in (set l n x) ≡ set (rows_in l) n (row_in x)
map_set [] n x = refl
map_set (y ∷ l) zero x = refl
map_set (y ∷ l) (suc n) x = ap (λ (r : List Row). row_in y ∷ r) (map_set l n x)

get_or_in : (l : List AnnotationSpan) (n : ℕ) → n < length l → get_or (rows_in l) n [] ≡ row_in (get_or l n blank)
get_or_in [] n h = absurd (omega arith)
get_or_in (y ∷ l) zero h = refl
get_or_in (y ∷ l) (suc n) h = get_or_in l n (omega arith)

parent_same : (w : ℕ) → parent_word (parent_in (parent_from w)) ≡ w
unfolding parent_from
parent_same zero = refl
parent_same (suc k) = refl

pub rows_recorded : (m : Mark) (l : List AnnotationSpan) → MarkFits (length l) m → rows_in (recorded m l) ≡ marked m (rows_in l)
rows_recorded Nothing l f = refl
rows_recorded (Open n k at up) l f = map_set l n (open_span k at (parent_from up)) ∙ ap (λ (w : ℕ). set (rows_in l) n (k.0 ∷ at ∷ at ∷ w ∷ [])) (parent_same up)
rows_recorded (Close n at) l f = map_set l n (close_span (get_or l n blank) at) ∙ ap (λ (r : Row). set (rows_in l) n (set r 2 at)) (sym (get_or_in l n f))

pub recorded_length : (m : Mark) (l : List AnnotationSpan) → length (recorded m l) ≡ length l
recorded_length Nothing l = refl
recorded_length (Open n k at up) l = length-set l n _
recorded_length (Close n at) l = length-set l n _
