-- The words of one row's spans.
use mathlib.Core.Path.{◌≡◌, refl, ap}
use mathlib.Core.Option.{Option}
use mathlib.Core.List.{List, [], ◌∷◌, map}
use Prim.Native.Nat.{ℕ, zero, suc, ◌+◌}
use native.Mathlib.Nat.{suc-add}
use lib.ListN.{get_or}
use Rattle.layout.specs.Spans.{Span}
use Rattle.layout.specs.SpanWords.{parent_of, span_of}
use Rattle.layout.specs.Report.{up_by, moved}
use Rattle.report.specs.Memory.{Words}
use Rattle.report_page.specs.Moves.{moved_parent, moved_words}

parent_moved : (n p : ℕ) → parent_of (moved_parent n p) ≡ up_by n (parent_of p)
parent_moved n zero = refl
parent_moved n (suc p) = ap parent_of (suc-add p n)

span_moved : (at n : ℕ) (r : Words) → span_of (moved_words at n r) ≡ moved at n (span_of r)
span_moved at n r = ap (λ (o : Option ℕ). record { annotation = get_or r 0 0; start = get_or r 1 0 + at; end = get_or r 2 0 + at; parent = o }) (parent_moved n (get_or r 3 0))

-- moved words are the moved spans'
pub spans_moved : (at n : ℕ) (l : List Words) → map span_of (map (moved_words at n) l) ≡ map (moved at n) (map span_of l)
spans_moved at n [] = refl
spans_moved at n (r ∷ l) = rw (span_moved at n r) (ap (λ (x : List Span). moved at n (span_of r) ∷ x) (spans_moved at n l))
