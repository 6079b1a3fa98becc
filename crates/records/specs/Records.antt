-- What the second pass makes of span records and of the record of counts: a span record is a row of words, and what is marked is marked in it.
use Rattle.std.specs.Prelude.{◌≡◌, List, map, ℕ, ◌+◌, ◌<◌, length, set, get_or, take}
use Rattle.std.proofs.Math.Option.{Option, none, some}
use Rattle.layout.specs.Layout.{Plan}
use Rattle.layout.specs.Spans.{Span}
use Rattle.stats.specs.declared.SolveStats.{SolveStats}
use Rattle.stats.specs.Counts.{counts}
use Rattle.spans.specs.declared.AnnotationSpan.{AnnotationSpan}
use Rattle.std.specs.Prelude.{Option as Optional, Some as Inside, None as Outside}
use Rattle.spans.specs.declared.SpanId.{SpanId}
use Rattle.spans.specs.Spans.{open_span, close_span, parent_from, blank}
use Rattle.materialize.specs.declared.Mark.{Mark}
use Rattle.materialize.specs.declared.Mark.TheVariants.{Nothing, Open, Close}
use Rattle.materialize.specs.declared.Capacity.{Capacity}
use Rattle.materialize.specs.declared.Chosen.{Chosen}
use Rattle.materialize.specs.declared.Walk.{Walk}
use Rattle.materialize.specs.Rows.{Row, row_of}
use Rattle.materialize.specs.Texts.{InBytes, Planned}
use Rattle.materialize.specs.Answer.{Lent}
use Rattle.materialize.specs.Walks.{begin, plan}
use Rattle.materialize.specs.Writes.{InUse, Passes, Written}

-- a mark in span records
abbrev pub recorded : Mark → List AnnotationSpan → List AnnotationSpan
recorded Nothing l = l
recorded (Open n k at up) l = set l n (open_span k at (parent_from up))
recorded (Close n at) l = set l n (close_span (get_or l n blank) at)

-- a span record in the rule's words, and as a row of words
abbrev pub parent_in : Optional SpanId → Option ℕ
parent_in Outside = none
parent_in (Inside s) = some s.0

abbrev pub span_in : AnnotationSpan → Span
span_in s = record { annotation = s.annotation.0; start = s.start; end = s.end; parent = parent_in s.parent }

abbrev pub row_in : AnnotationSpan → Row
row_in s = row_of (span_in s)

abbrev pub rows_in : List AnnotationSpan → List Row
rows_in l = map row_in l

-- the counts, with so many visits
abbrev pub visited : SolveStats → ℕ → SolveStats
visited s v = counts s.work_items s.fit_checks s.memo_hits s.memo_misses s.candidates_generated s.candidates_pruned s.peak_frontier s.memo_entries s.plan_nodes v

-- the layout that is chosen, over the part of the tables that is in use
abbrev pub laid_out : Chosen → List Row → List Row → List ℕ → Plan
laid_out k P X bytes = plan (take k.plans P) (take k.texts X) (take k.bytes bytes) k.root.0

-- the second pass can begin: the layout has passed every test, and its plan is the visit stack's one item
pub record Ready (c : Capacity) (k : Chosen) (P X : List Row) (bytes e h out : List ℕ) (spans : List AnnotationSpan) (w : Walk) : Type 0 where
  pub in_use : InUse k P X bytes
  pub lent : Lent c e h out (rows_in spans)
  pub planned : Planned (take k.plans P) (length (take k.plans P)) (take k.texts X) k.root.0
  pub inside : InBytes (take k.texts X) (take k.bytes bytes)
  pub passes : Passes c (laid_out k P X bytes)
  pub started : w ≡ begin
  pub root_first : get_or e 0 0 ≡ k.root.0 + 1

-- a walk with nothing on its visit stack asks nothing
pub record Begun (c : Capacity) (k : Chosen) (P X : List Row) (bytes e h out : List ℕ) (stats : SolveStats) (spans : List AnnotationSpan) (w : Walk) : Type 0 where
  pub ready : 0 < w.top → Ready c k P X bytes e h out spans w
  pub uncounted : 0 < w.top → stats.visits ≡ 0

-- the promise. A walk with nothing on its visit stack alters nothing; else page and spans stand in output and records, and the visits, with which the layout passes, in the counts
pub record Recorded (c : Capacity) (k : Chosen) (P X : List Row) (bytes out₀ out : List ℕ) (stats₀ stats : SolveStats) (spans₀ spans : List AnnotationSpan) (w : Walk) : Type 0 where
  pub none : w.top ≡ 0 → (out ≡ out₀) × (stats ≡ stats₀) × (spans ≡ spans₀)
  pub written : 0 < w.top → Written (laid_out k P X bytes) out₀ out (rows_in spans₀) (rows_in spans)
  pub visits_are : 0 < w.top → (h : Passes c (laid_out k P X bytes)) → stats ≡ visited stats₀ h.visits
