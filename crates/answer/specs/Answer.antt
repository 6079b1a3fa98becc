-- What a call answers (document 01, "Calls"), from the file's bytes, the settings, the sizes and limits, and whether the lent memory is as long as its sizes.
use Rattle.std.specs.Prelude.{List, ℕ, ◌≤◌}
use Rattle.layout.specs.Rules.{Rules, charging}
use Rattle.file_form.specs.Form.{tables_of, counts_of}
use Rattle.std.specs.Prelude.{Ok, Err}
use Rattle.refusals.specs.declared.Refusal.{Refusal}
use Rattle.refusals.specs.Numbers.{number_of}
use Rattle.prepare.specs.File.{Means}
use Rattle.machine_input.specs.Reading.{prepared}
use Rattle.machine.specs.Events.{Bounds, no_counts}
use Rattle.machine.specs.Model.{Prepared}
use Rattle.machine.specs.Answer.{Answer, refused, answer}

pub record Settings : Type 0 where
  pub width : ℕ
  pub newline_cost : ℕ
  pub policy : ℕ
  pub rule : ℕ  -- the cost rule (document 02, change 5)

-- the settings as rules of layout and cost
abbrev pub rules_of : Settings → Rules
rules_of c = charging c.rule c.width c.newline_cost c.policy

-- the document of a file, as solver and materializer read it
abbrev pub document_of : List ℕ → Prepared
document_of file = prepared (tables_of file)

-- what 1 (order) asks of a call. `lent`: no lent slice or table is shorter than its size
pub record Ordered (lent : Type 0) (c : Settings) : Type 0 where
  pub wide : 1 ≤ c.width
  pub policy_known : c.policy ≤ 1
  pub rule_known : (1 ≤ c.rule) × (c.rule ≤ 2)
  pub lent_enough : lent

-- the same settings beside other memory
pub lent_as : {lent other : Type 0} {c : Settings} → other → Ordered lent c → Ordered other c
lent_as w o = record { wide = o.wide; policy_known = o.policy_known; rule_known = o.rule_known; lent_enough = w }

-- the answer in document 01's order. A refusal has its number, the needed size and the counts; a page its bytes, spans and cost, and the counts.
-- For 1 to 10 the needed size and all counts are 0; from 11 on the answer is that of solver and materializer under the sizes and limits
pub data Answers (lent : Type 0) (file : List ℕ) (c : Settings) (b : Bounds) : Answer → Type 0 where
  out_of_order : (Ordered lent c → ⊥) → Answers lent file c b (refused 1 0 no_counts)
  wrong_file : (p : Refusal) → Ordered lent c → Means file (Err p) → Answers lent file c b (refused (number_of p) 0 no_counts)
  laid_out : Ordered lent c → Means file (Ok (counts_of file)) → Answers lent file c b (answer (rules_of c) (document_of file) b)
