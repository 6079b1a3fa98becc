-- A report's head, and the report that memory holds under it.
use Rattle.std.specs.Prelude.{◌≡◌, Result, Ok, Err, List, [], ℕ}
use Rattle.solve_workspace.specs.declared.RenderOptions.{RenderOptions}
use Rattle.render.specs.Order.{OptionsRight}
use Rattle.render.specs.Call.{settings}
use Rattle.report.specs.Report.{Report}
use Rattle.report.specs.Memory.{Words, report_of}
use Rattle.report_gate.specs.declared.Head.{Head}

abbrev pub options : Head → RenderOptions
options h = record { width = h.width; newline_cost = h.newline_cost; policy = h.policy; rule = h.rule }

-- read off any memory, whatever it holds
abbrev pub held : Head → List Words → List ℕ → List ℕ → List Words → Report
held h table files pages marks = report_of (settings (options h)) h.rows table files pages marks

-- the report without rows, under a setting that is right; anything else is 1
pub record EmptyHead (width newline_cost policy rule : ℕ) (h : Head) : Type 0 where
  pub right : OptionsRight (options h)
  pub width_is : h.width ≡ width
  pub newline_cost_is : h.newline_cost ≡ newline_cost
  pub policy_is : h.policy ≡ policy
  pub rule_is : h.rule ≡ rule
  pub empty : (table : List Words) (files pages : List ℕ) (marks : List Words) → (held h table files pages marks).rows ≡ []

pub data Opening (width newline_cost policy rule : ℕ) : Result Head ℕ → Type 0 where
  opens : {h : Head} → EmptyHead width newline_cost policy rule h → Opening width newline_cost policy rule (Ok h)
  order : (OptionsRight (record { width = width; newline_cost = newline_cost; policy = policy; rule = rule }) → ⊥) → Opening width newline_cost policy rule (Err 1)
