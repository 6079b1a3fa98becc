-- A span in four words: annotation, start, end, and 0 for no parent or one more than the parent's number.
use Rattle.std.proofs.Math.Option.{Option, none, some}
use Rattle.std.specs.Prelude.{List, ℕ, zero, suc, get_or}
use Rattle.layout.specs.Spans.{Span}

abbrev pub parent_of : ℕ → Option ℕ
parent_of zero = none
parent_of (suc k) = some k

abbrev pub span_of : List ℕ → Span
span_of r = record { annotation = get_or r 0 0; start = get_or r 1 0; end = get_or r 2 0; parent = parent_of (get_or r 3 0) }
