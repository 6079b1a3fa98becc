-- What the program `page` writes, from the bytes that it reads (document 01, "Calls", the last paragraph).
use Rattle.std.specs.Prelude.{◌≡◌, List, ℕ, ◌≤◌, ◌<◌, length, take, drop}
use Rattle.page_setting.specs.declared.Setting.{Setting}
use Rattle.page_setting.specs.Setting.{setting_at}
use Rattle.page_lines.specs.Lines.{refused_line, page_text}
use Rattle.machine.specs.Numbers.{Numbered}
use Rattle.machine.specs.Events.{Bounds, Counts}
use Rattle.machine.specs.Materializer.{Rendered}
use Rattle.machine.specs.Answer.{Answer, paged, refused}
use Rattle.answer.specs.Answer.{Settings, Answers}
use Rattle.answer.specs.Page.{RulesPage}

-- the program's sizes, in the order of 13 to 21, and its limits
abbrev pub page_bounds : Bounds
page_bounds = record {
  stack = 512;
  memo = 1024;
  kept = 1024;
  frontier = 256;
  plans = 2048;
  visit = 512;
  depth = 64;
  output = 32768;
  spans = 512;
  work_limit = 1000000;
  visit_limit = 1000000;
}

abbrev pub settings_of : Setting → Settings
settings_of s = record { width = s.width; newline_cost = s.newline_cost; policy = s.policy; rule = s.rule }

-- what the setting in front says, its own refusal (0: none), and the file after it
abbrev pub settings_in : List ℕ → Settings
settings_in input = settings_of (setting_at input)

abbrev pub setting_fault : List ℕ → ℕ
setting_fault input = (setting_at input).next.fault

abbrev pub file_in : List ℕ → List ℕ
file_in input = drop (setting_at input).next.at input

-- an answer as text: `refused N`; or `page`, work, overflow, burden and the number of spans, and on the next line the page
abbrev pub text_of : Answer → List ℕ
text_of (paged page counts) = page_text counts.work_items page.cost.overflow page.cost.burden (length page.spans) page.bytes
text_of (refused number needed counts) = refused_line number

-- more than 32,768 bytes are 4, before all else; then comes what is wrong with the setting; then the answer to a call on the file.
-- The program lends all memory that its sizes ask for
pub data Printed (input : List ℕ) : List ℕ → Type 0 where
  too_long : 32768 < length input → Printed input (refused_line 4)
  wrong_setting : length input ≤ 32768 → (setting_fault input ≡ 0 → ⊥) → Printed input (refused_line (setting_fault input))
  answered : length input ≤ 32768 → setting_fault input ≡ 0 → (a : Answer) → Answers (Unit {0}) (file_in input) (settings_in input) page_bounds a → Printed input (text_of a)

-- the text of a page that is the rule's for the file, or of a refusal by one of the numbers of documents 01 and 02
pub data Right (input : List ℕ) : List ℕ → Type 0 where
  page : (r : Rendered) (k : Counts) → RulesPage (file_in input) (settings_in input) r → Right input (text_of (paged r k))
  refusal : (n : ℕ) → Numbered n → Right input (refused_line n)

-- the first r bytes are what the program writes, all of it; and what it writes is right
pub record Prints (input out : List ℕ) (r : ℕ) : Type 0 where
  pub within : r ≤ length out
  pub printed : Printed input (take r out)
  pub right : Right input (take r out)
