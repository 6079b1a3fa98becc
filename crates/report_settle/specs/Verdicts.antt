-- The whole page tested, and the answers that a step makes of it.
use Rattle.std.specs.Prelude.{◌≡◌, Result, Ok, Err, List, ℕ, ◌≤◌, ◌<◌, ◌^◌, length, take}
use Rattle.cost.specs.Cost.{Cost}
use Rattle.cost.specs.Value.{value}
use Rattle.stats.specs.declared.SolveStats.{SolveStats}
use Rattle.solve_workspace.specs.declared.Needs.{Needs}
use Rattle.solve_workspace.specs.Rows.{low}
use Rattle.render.specs.Rendered.{page_with, refusal_with}
use Rattle.report.specs.Report.{rows_most}
use Rattle.report.specs.Answers.{CostFits}
use Rattle.report.specs.Memory.{Words, file_length, page_length, span_count, sum_of}
use Rattle.report_edit.specs.declared.RowPage.{RowPage}
use Rattle.report_gate.specs.declared.Head.{Head}
use Rattle.report_settle.specs.declared.Step.{Step}
use Rattle.report_settle.specs.declared.Whole.{Whole}
use Rattle.report_settle.specs.declared.Lack.{Lack}

abbrev pub lack_of : ℕ → ℕ → Lack
lack_of number needed = record { number = number; needed = needed }

-- a page of cost c with n bytes and m spans, under the two sizes: cost (26), bytes (20), then spans (21)
pub data Judged (c : Cost) (output spans n m : ℕ) : Result Whole Lack → Type 0 where
  dear : (CostFits c → ⊥) → Judged c output spans n m (Err (lack_of 26 0))
  long : CostFits c → output < n → Judged c output spans n m (Err (lack_of 20 n))
  many : CostFits c → n ≤ output → spans < m → Judged c output spans n m (Err (lack_of 21 m))
  fits : {w : Whole} → value w.cost ≡ c → w.bytes ≡ n → w.spans ≡ m → CostFits c → n ≤ output → m ≤ spans → Judged c output spans n m (Ok w)

-- sums over the rows that have their place in a word
pub record Summable (h : Head) (table : List Words) : Type 0 where
  pub rows_in : h.rows ≤ rows_most
  pub table_in : h.rows ≤ length table
  pub files_small : sum_of file_length (take h.rows table) < 2 ^ 63
  pub pages_small : sum_of page_length (take h.rows table) < 2 ^ 63
  pub marks_small : sum_of span_count (take h.rows table) < 2 ^ 63

pub record VerdictRoom (h : Head) (page : RowPage) (table : List Words) : Type 0 where
  pub summable : Summable h table
  pub page_small : page.length < 2 ^ 32
  pub spans_small : page.spans < 2 ^ 32

pub record Removable (h : Head) (place : ℕ) (table : List Words) : Type 0 where
  pub summable : Summable h table
  pub place_in : place < h.rows

-- ---- answers

abbrev pub refusal_of : ℕ → ℕ → SolveStats → Head → Step
refusal_of number needed stats h = record { answer = Err (refusal_with number needed stats); head = h }

abbrev pub head_with : Head → ℕ → Head
head_with h n = record { rows = n; width = h.width; newline_cost = h.newline_cost; policy = h.policy; rule = h.rule }

-- of output and spans the whole page's, in 32 bits
abbrev pub needs_with : Needs → ℕ → ℕ → Needs
needs_with q n m = record {
  stack = q.stack;
  memo = q.memo;
  kept = q.kept;
  frontier = q.frontier;
  plans = q.plans;
  visit = q.visit;
  depth = q.depth;
  output = low n;
  spans = low m;
}

abbrev pub page_of : Whole → SolveStats → Needs → Head → ℕ → Step
page_of w stats needs h n = record { answer = Ok (page_with w.cost w.bytes w.spans stats (needs_with needs w.bytes w.spans)); head = head_with h n }
