-- What the materializer answers, in the machine's words, and what stands in output and spans afterwards.
use Rattle.std.specs.Prelude.{◌≡◌, Result, Ok, Err, List, ◌++◌, ℕ, ◌≤◌, ◌<◌, ◌^◌, length, drop}
use Rattle.layout.specs.Layout.{Plan, page}
use Rattle.layout.specs.Spans.{spans}
use Rattle.machine.specs.Events.{Counts, no_needs, Why, too_small, visits_spent, Out, done, stop}
use Rattle.machine.specs.Events.{visit as visit_size, depth as depth_size, output as output_size, spans as spans_size}
use Rattle.machine.specs.Materializer.{materialize}
use Rattle.machine.specs.Enough.{peak}
use Rattle.materialize.specs.declared.Capacity.{Capacity}
use Rattle.materialize.specs.declared.Exhausted.{Exhausted}
use Rattle.materialize.specs.declared.Exhausted.TheVariants.{Visit, Depth, Output, Spans, Visits}
use Rattle.materialize.specs.declared.MeasuredPage.{MeasuredPage}
use Rattle.materialize.specs.declared.Passed.{Passed}
use Rattle.materialize.specs.Rows.{Row}

-- what the first pass answers
abbrev pub Measured : Type 0
Measured = Result MeasuredPage Passed

-- a page and what is passed, by their parts
abbrev pub measured_with : ℕ → ℕ → ℕ → ℕ → ℕ → MeasuredPage
measured_with n m v x d = record { bytes = n; spans = m; visits = v; visit = x; depth = d }

abbrev pub passed_with : Exhausted → ℕ → ℕ → Passed
passed_with e needed v = record { what = e; needed = needed; visits = v }

-- why the machine stops: document 01's 18 to 22
abbrev pub why_of : Exhausted → Why
why_of Visit = too_small visit_size
why_of Depth = too_small depth_size
why_of Output = too_small output_size
why_of Spans = too_small spans_size
why_of Visits = visits_spent

-- the solver's counts, with so many visits; needs apart
abbrev pub with_visits : Counts → ℕ → Counts
with_visits k v = record {
  work_items = k.work_items;
  memo_hits = k.memo_hits;
  memo_misses = k.memo_misses;
  candidates_generated = k.candidates_generated;
  candidates_pruned = k.candidates_pruned;
  peak_frontier = k.peak_frontier;
  memo_entries = k.memo_entries;
  plan_nodes = k.plan_nodes;
  visits = v;
  needs = no_needs;
}

-- what a run comes to where this is the answer: the end, or why it stops, the needed size, and the counts there
abbrev pub told : Counts → Measured → Out (Unit {0})
told k (Ok m) = done (with_visits k m.visits) tt
told k (Err e) = stop (why_of e.what) e.needed (with_visits k e.visits)

-- a page's length and number of spans are the layout's
abbrev pub Sized : Plan → Measured → Type 0
Sized p (Ok m) = (m.bytes ≡ length (page p)) × (m.spans ≡ length (spans p))
Sized p (Err e) = Unit {0}

-- the most items on the visit stack and the most open spans are what the materializer needs of them (document 02, change 10)
abbrev pub Needing : Plan → Measured → Type 0
Needing p (Ok m) = (m.visit ≡ peak visit_size (materialize p)) × (m.depth ≡ peak depth_size (materialize p))
Needing p (Err e) = Unit {0}

-- xs lies over the front of l, and what is past it stays
abbrev pub over : {A : Type 0} → List A → List A → List A
over xs l = xs ++ drop (length xs) l

-- sizes are numbers of 32 bits
pub record Small (c : Capacity) : Type 0 where
  pub visit_fits : c.visit < 2 ^ 32
  pub depth_fits : c.depth < 2 ^ 32
  pub output_fits : c.output < 2 ^ 32
  pub spans_fits : c.spans < 2 ^ 32

-- lent memory is not shorter than its sizes: a word for each item of the visit stack and for each open span, a row for each span
pub record Lent (c : Capacity) (visit depth output : List ℕ) (spans : List Row) : Type 0 where
  pub small : Small c
  pub visit_lent : c.visit ≤ length visit
  pub depth_lent : c.depth ≤ length depth
  pub output_lent : c.output ≤ length output
  pub spans_lent : c.spans ≤ length spans
