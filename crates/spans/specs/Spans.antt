-- A span as it is opened and as it is closed, and its parent as a word holds it.
use Rattle.std.specs.Prelude.{ℕ, zero, suc, ◌≤◌, ◌^◌, Option, Some, None}
use Rattle.file_tables.specs.declared.AnnotationId.{AnnotationId}
use Rattle.spans.specs.declared.AnnotationSpan.{AnnotationSpan}
use Rattle.spans.specs.declared.SpanId.{SpanId}

abbrev pub open_span : AnnotationId → ℕ → Option SpanId → AnnotationSpan
open_span a p m = record { annotation = a; start = p; end = p; parent = m }

abbrev pub close_span : AnnotationSpan → ℕ → AnnotationSpan
close_span s p = record { annotation = s.annotation; start = s.start; end = p; parent = s.parent }

-- what `get_or` gives past the end of a list of spans
abbrev pub blank : AnnotationSpan
blank = record { annotation = record { 0 = 0 }; start = 0; end = 0; parent = None }

-- a parent as a word holds it: 0 is none, and k + 1 the span k
abbrev pub word_fits : ℕ → Type 0
word_fits w = w ≤ 2 ^ 32

unfoldable pub parent_from : ℕ → Option SpanId
parent_from zero = None
parent_from (suc k) = Some (record { 0 = k })
