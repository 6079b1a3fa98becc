-- The second half of a call, in the caller's records: what it begins with, what it may rely on, and what it leaves.
use Rattle.std.specs.Prelude.{◌≡◌, Ok, Err, List, ℕ, ◌+◌, ◌≤◌, ◌<◌, length, set}
use Rattle.stats.specs.declared.SolveStats.{SolveStats}
use Rattle.spans.specs.declared.AnnotationSpan.{AnnotationSpan}
use Rattle.solve_workspace.specs.declared.Bounds.{Bounds}
use Rattle.materialize.specs.declared.Chosen.{Chosen}
use Rattle.materialize.specs.declared.Walk.{Walk}
use Rattle.materialize.specs.Rows.{Row}
use Rattle.materialize.specs.Answer.{Lent}
use Rattle.materialize.specs.Walks.{begin}
use Rattle.materialize.specs.Writes.{Written}
use Rattle.records.specs.Records.{rows_in}
use Rattle.render.specs.declared.page.Draft.{Draft}
use Rattle.render.specs.Rendered.{with_counts}
use Rattle.render.specs.Drafts.{Drafted, capacity, chosen, Drawn}
use Rattle.desks.specs.declared.SharedRecord.{SharedRecord}
use Rattle.desks.specs.Desks.{remaining}
use Rattle.desks.specs.Lent.{settled}
use Rattle.printer.specs.declared.Start.{Start}
use Rattle.printer.specs.Printed.{Outcome, printed_with, unprinted_with}

-- ---- what is drafted

-- its answer, and its counts before and after the second pass
abbrev pub outcome : Drafted → Outcome
outcome (Ok d) = Ok (printed_with d.cost d.length d.spans d.needs)
outcome (Err e) = Err (unprinted_with e.number e.needed)

abbrev pub counts_first : Drafted → SolveStats
counts_first (Ok d) = d.stats
counts_first (Err e) = e.stats

abbrev pub counts_last : Drafted → SolveStats
counts_last (Ok d) = with_counts d.stats d.visits
counts_last (Err e) = e.stats

-- ---- where the second pass begins: at the page's plan, or for a refusal nowhere

abbrev pub chosen_in : Draft → Chosen
chosen_in d = record { root = d.root; plans = d.plans; texts = d.texts; bytes = d.bytes }

abbrev pub nothing_chosen : Chosen
nothing_chosen = record { root = record { 0 = 0 }; plans = 0; texts = 0; bytes = 0 }

abbrev pub at_rest : Walk
at_rest = record { top = 0; depth = 0; at = 0; spans = 0; visits = 0 }

abbrev pub start_of : Bounds → Drafted → Start
start_of b (Ok d) = record { capacity = capacity b; chosen = chosen_in d; walk = begin }
start_of b (Err e) = record { capacity = capacity b; chosen = nothing_chosen; walk = at_rest }

abbrev pub start_words : Drafted → List ℕ → List ℕ
start_words (Ok d) visit = set visit 0 (d.root.0 + 1)
start_words (Err e) visit = visit

abbrev pub RootedOf : List ℕ → Drafted → Type 0
RootedOf visit (Ok d) = 0 < length visit
RootedOf visit (Err e) = Unit {0}

pub record Rooted (a : Drafted) (visit : List ℕ) : Type 0 where
  pub by : RootedOf visit a

-- ---- the whole half

-- a page is written; a refusal alters nothing
abbrev pub WroteOf : List Row → List Row → List ℕ → List ℕ → List ℕ → List AnnotationSpan → List AnnotationSpan → Drafted → Type 0
WroteOf plans texts bytes output₀ output spans₀ spans (Ok d) = Written (chosen d plans texts bytes) output₀ output (rows_in spans₀) (rows_in spans)
WroteOf plans texts bytes output₀ output spans₀ spans (Err e) = (output ≡ output₀) × (spans ≡ spans₀)

-- a page that can be written, and memory for it
abbrev pub DeliverableOf : Bounds → List Row → List Row → List ℕ → List ℕ → List ℕ → List ℕ → List AnnotationSpan → Drafted → Type 0
DeliverableOf b plans texts bytes visit depth output spans (Ok d) = Drawn b d plans texts bytes × Lent (capacity b) visit depth output (rows_in spans)
DeliverableOf b plans texts bytes visit depth output spans (Err e) = Unit {0}

pub record Deliverable (d : ℕ) (before : SharedRecord) (b : Bounds) (a : Drafted) (plans texts : List Row) (bytes visit depth output : List ℕ) (spans : List AnnotationSpan) : Type 0 where
  pub by : DeliverableOf b plans texts bytes visit depth output spans a
  -- once that is done, its work is no more than the desk may do
  pub work_left : (output' : List ℕ) (spans' : List AnnotationSpan) → length output' ≡ length output → length spans' ≡ length spans → WroteOf plans texts bytes output output' spans spans' a
      → (counts_first a).work_items ≤ remaining before.desks d

pub record Delivered (d : ℕ) (before : SharedRecord) (a : Drafted) (plans texts : List Row) (bytes output₀ output : List ℕ) (spans₀ spans : List AnnotationSpan) (after : SharedRecord) (r : Outcome) : Type 0 where
  pub outcome_is : r ≡ outcome a
  pub record_is : after ≡ settled before d (counts_last a)
  pub wrote : WroteOf plans texts bytes output₀ output spans₀ spans a
