-- A live report as it is handed to another language.
use Rattle.std.specs.Prelude.{◌≡◌, Result, List, ℕ, get_or}
use Rattle.solve_workspace.specs.declared.Bounds.{Bounds}
use Rattle.report.specs.Report.{Step as Asked}
use Rattle.report.specs.Memory.{Words}
use Rattle.report_gate.specs.declared.Head.{Head}
use Rattle.report_gate.specs.Heads.{Opening}
use Rattle.report_step.specs.declared.DeskStep.{DeskStep}
use Rattle.report_step.specs.Stepping.{Stepping}
use Rattle.call_words.specs.Words.{words}
use Rattle.call_words.specs.Accounts.{desks_at, desk_words}
use Rattle.call_words.specs.Heads.{head_at, head_words, opened_number, opened_words}

-- 0 and the words of an empty report's head; or 1, and the words are left as they were
pub record OpenedReport (width newline_cost policy rule : ℕ) (was is : List ℕ) (number : ℕ) : Type 0 where
  pub told : Result Head ℕ
  pub opening : Opening width newline_cost policy rule told
  pub head_is : is ≡ opened_words told was
  pub number_is : number ≡ opened_number told

-- the words are those of the step's answer, the number is the first of them, and the words of head and desks are those after the step
pub record Stepped (d : ℕ) (desks₀ desks : List ℕ) (s : Asked) (lent : Type 0) (b : Bounds) (was is : List ℕ) (table₀ table : List Words) (files₀ files pages₀ pages : List ℕ) (marks₀ marks : List Words) (output₀ output : List ℕ) (spans₀ spans : List Words) (answer : List ℕ) (number : ℕ) : Type 0 where
  pub told : DeskStep
  pub stepping : Stepping s lent d (desks_at desks₀) b (head_at was) table₀ table files₀ files pages₀ pages marks₀ marks output₀ output spans₀ spans told
  pub head_is : is ≡ head_words told.head
  pub desks_are : desks ≡ desk_words told.desks
  pub answer_is : answer ≡ words told.answer
  pub number_is : number ≡ get_or (words told.answer) 0 0
