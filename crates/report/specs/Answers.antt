-- What a step answers, and the report after it (document 02, change 2), in the order of refusals.
use Rattle.std.specs.Prelude.{◌≡◌, List, ℕ, ◌≤◌, ◌<◌, ◌^◌, length}
use Rattle.cost.specs.Cost.{Cost}
use Rattle.machine.specs.Numbers.{Numbered}
use Rattle.machine.specs.Events.{Bounds, Counts, Needs, no_counts, with_needs, bare}
use Rattle.machine.specs.Materializer.{Rendered}
use Rattle.machine.specs.Answer.{Answer, paged, refused}
use Rattle.answer.specs.Answer.{Answers}
use Rattle.report.specs.Report.{Report, Step, insert, remove, whole, with_row, without_row, PlaceThere, Full}

-- the whole page's cost has its place
pub record CostFits (c : Cost) : Type 0 where
  pub overflow : c.overflow < 2 ^ 128
  pub burden : c.burden < 2 ^ 64

-- nothing of 1, 23 and 24. `lent`: what 1 asks of the step
pub record Admitted (lent : Type 0) (X : Report) (s : Step) : Type 0 where
  pub lent_enough : lent
  pub place : PlaceThere X s
  pub room : Full X s → ⊥

-- "only the touched row is solved anew": the counts, and the report, before the whole page is tested. An insertion is a single call on its file with the step's sizes and limits
pub data Solved (X : Report) (b : Bounds) : Step → Counts → Report → Type 0 where
  inserted : {i : ℕ} {f : List ℕ} {r : Rendered} {k : Counts} → Answers (Unit {0}) f X.settings b (paged r k) → Solved X b (insert i f) k (with_row X i (record { file = f; page = r }))
  removed : {i : ℕ} → Solved X b (remove i) no_counts (without_row X i)

-- a step's needs: the row's, but of output and spans the whole page's
abbrev pub page_needs : Needs → Rendered → Needs
page_needs q r = record {
  stack = q.stack;
  memo = q.memo;
  kept = q.kept;
  frontier = q.frontier;
  plans = q.plans;
  visit = q.visit;
  depth = q.depth;
  output = length r.bytes;
  spans = length r.spans;
}

abbrev pub page_counts : Counts → Rendered → Counts
page_counts k r = with_needs k (page_needs k.needs r)

-- the whole page of the report Y is tested: its cost, its bytes, then its spans. The answer, and the report after it: Y, or on a refusal the report X before
pub data Tested (X : Report) (b : Bounds) (k : Counts) (Y : Report) : Answer → Report → Type 0 where
  too_dear : (CostFits (whole Y).cost → ⊥) → Tested X b k Y (refused 26 0 (bare k)) X
  no_bytes : CostFits (whole Y).cost → b.output < length (whole Y).bytes → Tested X b k Y (refused 20 (length (whole Y).bytes) (bare k)) X
  no_spans : CostFits (whole Y).cost → length (whole Y).bytes ≤ b.output → b.spans < length (whole Y).spans → Tested X b k Y (refused 21 (length (whole Y).spans) (bare k)) X
  fits : CostFits (whole Y).cost → length (whole Y).bytes ≤ b.output → length (whole Y).spans ≤ b.spans → Tested X b k Y (paged (whole Y) (page_counts k (whole Y))) Y

-- a step of report X: the answer, and the report after it
pub data StepAnswers (lent : Type 0) (X : Report) (b : Bounds) : Step → Answer → Report → Type 0 where
  out_of_order : {s : Step} → (lent → ⊥) → StepAnswers lent X b s (refused 1 0 no_counts) X
  no_place : {s : Step} → lent → (PlaceThere X s → ⊥) → StepAnswers lent X b s (refused 23 0 no_counts) X
  full : {s : Step} → lent → PlaceThere X s → Full X s → StepAnswers lent X b s (refused 24 0 no_counts) X
  row_refused : {i : ℕ} {f : List ℕ} {n m : ℕ} {k : Counts} → Admitted lent X (insert i f) → Answers (Unit {0}) f X.settings b (refused n m k) → StepAnswers lent X b (insert i f) (refused n m k) X
  tested : {s : Step} {k : Counts} {Y Z : Report} {a : Answer} → Admitted lent X s → Solved X b s k Y → Tested X b k Y a Z → StepAnswers lent X b s a Z

-- the numbers of a step: those of a call on one file, 23 and 24
pub data StepNumbered (n : ℕ) : Type 0 where
  of_a_call : Numbered n → StepNumbered n
  place : n ≡ 23 → StepNumbered n
  rows : n ≡ 24 → StepNumbered n
