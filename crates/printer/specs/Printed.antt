-- What the call promises (document 01, "Calls"; document 02, change 8), where the caller lends the shared record and the span records.
use Rattle.std.specs.Prelude.{◌≡◌, Result, Ok, Err, List, map, ℕ, take}
use Rattle.cost.specs.declared.ConsumerCost.{ConsumerCost}
use Rattle.cost.specs.Value.{value}
use Rattle.machine.specs.Events.{with_needs}
use Rattle.machine.specs.Answer.{Answer, paged, refused}
use Rattle.stats.specs.declared.SolveStats.{SolveStats}
use Rattle.spans.specs.declared.AnnotationSpan.{AnnotationSpan}
use Rattle.solve_workspace.specs.declared.Bounds.{Bounds}
use Rattle.solve_workspace.specs.declared.Needs.{Needs}
use Rattle.solve_workspace.specs.declared.RenderOptions.{RenderOptions}
use Rattle.solve_workspace.specs.Meets.{tally, needs_told}
use Rattle.records.specs.Records.{span_in}
use Rattle.render.specs.declared.order.Lengths.{Lengths}
use Rattle.render.specs.Rendered.{Front}
use Rattle.desks.specs.declared.SharedRecord.{SharedRecord}
use Rattle.desks.specs.Calls.{DeskRight}
use Rattle.printer.specs.declared.PrintedPage.{PrintedPage}
use Rattle.printer.specs.declared.Unprinted.{Unprinted}

-- what a call answers
abbrev pub Outcome : Type 0
Outcome = Result PrintedPage Unprinted

-- a page and a refusal, by their parts
abbrev pub printed_with : ConsumerCost → ℕ → ℕ → Needs → PrintedPage
printed_with c n m q = record { cost = c; length = n; spans = m; needs = q }

abbrev pub unprinted_with : ℕ → ℕ → Unprinted
unprinted_with n needed = record { number = n; needed = needed }

-- ---- what an answer says

-- document 01's answer. A page: its bytes are the first of the output, its spans the first of the records, its cost, and its needs; a refusal: number and needed size. Both with the counts in the lent record
abbrev pub answered : Outcome → SolveStats → List ℕ → List AnnotationSpan → Answer
answered (Ok p) stats output spans = paged (record { bytes = take p.length output; spans = map span_in (take p.spans spans); cost = value p.cost }) (with_needs (tally stats) (needs_told p.needs))
answered (Err e) stats output spans = refused e.number e.needed (tally stats)

-- bytes and spans that a page has; a refusal has none
abbrev pub bytes_of : Outcome → ℕ
bytes_of (Ok p) = p.length
bytes_of (Err e) = 0

abbrev pub spans_of : Outcome → ℕ
spans_of (Ok p) = p.spans
spans_of (Err e) = 0

-- ---- the whole call

-- the answer is right, every count in the lent record included, and its work is charged (`DeskRight`); a page stands at the front of output and span records, and what stood past it is unaltered, on a refusal all of it
pub record Printed (d : ℕ) (before : SharedRecord) (file : List ℕ) (o : RenderOptions) (b : Bounds) (l : Lengths) (output₀ output : List ℕ) (spans₀ spans : List AnnotationSpan) (after : SharedRecord) (r : Outcome) : Type 0 where
  pub right : DeskRight d before.desks file o b l (answered r after.stats output spans) after.desks
  pub output_is : Front (bytes_of r) output₀ output
  pub spans_are : Front (spans_of r) spans₀ spans
  pub no_fit_checks : after.stats.fit_checks ≡ 0
