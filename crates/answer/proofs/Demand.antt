-- Every answer is as promised; under sizes and limits none smaller a page stays the same page, counts too; so it does under just the sizes that it needs, and under less of one kind it is that kind's refusal; the counts balance.
use Rattle.std.specs.Prelude.{List, ℕ}
use Rattle.std.proofs.Common.{ap, arith}
use Rattle.layout.specs.Charging.{charging_lawful}
use Rattle.file_encode.specs.Fields.{Bytes}
use Rattle.machine.specs.Numbers.{Numbered, listed, machine_numbered}
use Rattle.machine.specs.Events.{Bounds, Counts}
use Rattle.machine.specs.Materializer.{Rendered}
use Rattle.machine.specs.Answer.{Answer, paged, refused}
use Rattle.machine_right.specs.Right.{RightPage, Right, answer_right}
use Rattle.machine_right.specs.Right.{right_page as found_page, right_refusal as found_refusal}
use Rattle.answer.specs.Answer.{Settings, rules_of, document_of, Answers, out_of_order, wrong_file, laid_out}
use Rattle.answer.specs.Page.{RulesPage, Promised, right_page, right_refusal}
use Rattle.answer.specs.Ready.{means_ready}
use Rattle.answer.specs.Faults.{file_faults}

-- ---- every answer is as promised

rules_page : (file : List ℕ) (c : Settings) {r : Rendered} → RightPage (rules_of c) (document_of file) r → RulesPage file c r
rules_page file c p = record {
  layout = p.layout;
  rule = p.rule;
  bytes_are = ap (λ (x : Rendered). x.bytes) p.is;
  spans_are = ap (λ (x : Rendered). x.spans) p.is;
  overflow_is = ap (λ (x : Rendered). x.cost.overflow) p.is;
  burden_is = ap (λ (x : Rendered). x.cost.burden) p.is;
}

promised_of : (file : List ℕ) (c : Settings) {a : Answer} → Right (rules_of c) (document_of file) a → Promised file c a
promised_of file c (found_page p) = right_page (rules_page file c p)
promised_of file c (found_refusal l) = right_refusal (machine_numbered l)

module _ {lent : Type 0} {file : List ℕ} {c : Settings} {b : Bounds} (z : Bytes file) where
  pub promised : {a : Answer} → Answers lent file c b a → Promised file c a
  promised (out_of_order n) = right_refusal {n = 1} (listed (omega arith) (omega arith))
  promised (wrong_file n o m) = let h = file_faults m in right_refusal (listed (omega (arith, h.0)) (omega (arith, h.1)))
  promised (laid_out o m) = promised_of file c (answer_right (rules_of c) (charging_lawful c.rule c.width c.newline_cost c.policy) (document_of file) (means_ready file z m) b)

  pub page_right : {r : Rendered} {k : Counts} → Answers lent file c b (paged r k) → RulesPage file c r
  page_right {r} {k} a = go (promised a)
    where
      go : Promised file c (paged r k) → RulesPage file c r
      go (right_page p) = p

  pub refusal_right : {n m : ℕ} {k : Counts} → Answers lent file c b (refused n m k) → Numbered n
  refusal_right {n} {m} {k} a = go (promised a)
    where
      go : Promised file c (refused n m k) → Numbered n
      go (right_refusal h) = h
