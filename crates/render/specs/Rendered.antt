-- What the answer of a call says, in the machine's words, and what stands in output and spans afterwards (document 01, "Calls").
use Rattle.std.specs.Prelude.{◌≡◌, Result, Ok, Err, List, [], ◌++◌, map, ℕ, ◌≤◌, ◌<◌, length, take, drop, get_or}
use Rattle.cost.specs.declared.ConsumerCost.{ConsumerCost}
use Rattle.cost.specs.Value.{value}
-- a span as a row of words holds it
pub use Rattle.layout.specs.SpanWords.{parent_of, span_of}
use Rattle.machine.specs.Events.{with_needs}
use Rattle.machine.specs.Answer.{Answer, paged, refused}
use Rattle.stats.specs.declared.SolveStats.{SolveStats}
use Rattle.solve_workspace.specs.declared.Needs.{Needs}
use Rattle.solve_workspace.specs.Meets.{tally, needs_told}
use Rattle.materialize.specs.Rows.{Row, Fits}
use Rattle.render.specs.declared.page.Page.{Page}
use Rattle.render.specs.declared.page.Refusal.{Refusal}

-- what a call answers
abbrev pub Rendered : Type 0
Rendered = Result Page Refusal

-- a page and a refusal, by their parts
abbrev pub page_with : ConsumerCost → ℕ → ℕ → SolveStats → Needs → Page
page_with c n m k q = record { cost = c; length = n; spans = m; stats = k; needs = q }

abbrev pub refusal_with : ℕ → ℕ → SolveStats → Refusal
refusal_with n needed k = record { number = n; needed = needed; stats = k }

-- the machine's answer: a page's bytes are the first of the output, its spans the first of the rows; a refusal tells no needs
abbrev pub meant : Rendered → List ℕ → List Row → Answer
meant (Ok p) output rows = paged (record { bytes = take p.length output; spans = map span_of (take p.spans rows); cost = value p.cost }) (with_needs (tally p.stats) (needs_told p.needs))
meant (Err e) output rows = refused e.number e.needed (tally e.stats)

-- bytes and spans that a page has; a refusal has none
abbrev pub page_length : Rendered → ℕ
page_length (Ok p) = p.length
page_length (Err e) = 0

abbrev pub span_count : Rendered → ℕ
span_count (Ok p) = p.spans
span_count (Err e) = 0

abbrev pub counts_of : Rendered → SolveStats
counts_of (Ok p) = p.stats
counts_of (Err e) = e.stats

-- n are put at the front of what was lent, and what stood past them is unaltered
pub record Front {A : Type 0} (n : ℕ) (was is : List A) : Type 0 where
  pub within : n ≤ length was
  pub past : is ≡ take n is ++ drop n was

-- output and span rows: a page at the front, and nothing on a refusal
pub record Stands (r : Rendered) (output₀ output : List ℕ) (rows₀ rows : List Row) : Type 0 where
  pub output_is : Front (page_length r) output₀ output
  pub rows_are : Front (span_count r) rows₀ rows
  pub fitting : (k : ℕ) → k < span_count r → Fits (get_or rows k [])
  pub no_fit_checks : (counts_of r).fit_checks ≡ 0

-- counts with the visits, and no fit checks
abbrev pub with_counts : SolveStats → ℕ → SolveStats
with_counts k v = record {
  work_items = k.work_items;
  fit_checks = 0;
  memo_hits = k.memo_hits;
  memo_misses = k.memo_misses;
  candidates_generated = k.candidates_generated;
  candidates_pruned = k.candidates_pruned;
  peak_frontier = k.peak_frontier;
  memo_entries = k.memo_entries;
  plan_nodes = k.plan_nodes;
  visits = v;
}
