-- What is promised of every answer (document 01, "Layouts" and "Calls").
use Rattle.std.specs.Prelude.{◌≡◌, List, ℕ}
use Rattle.layout.specs.Layout.{Plan, page, overflow_of, burden_of}
use Rattle.layout.specs.Spans.{spans}
use Rattle.layout.specs.Cheapest.{FirstCheapest}
use Rattle.machine.specs.Numbers.{Numbered}
use Rattle.machine.specs.Events.{Counts}
use Rattle.machine.specs.Materializer.{Rendered}
use Rattle.machine.specs.Answer.{Answer, paged, refused}
use Rattle.answer.specs.Answer.{Settings, rules_of, document_of}

-- a page is that of a layout which the file's document allows, the first of its cheapest in choice order: no allowed layout has less overflow, nor as much and less burden
pub record RulesPage (file : List ℕ) (c : Settings) (r : Rendered) : Type 0 where
  pub layout : Plan
  pub rule : FirstCheapest (rules_of c) (document_of file).table (document_of file).root layout
  pub bytes_are : r.bytes ≡ page layout
  pub spans_are : r.spans ≡ spans layout
  pub overflow_is : r.cost.overflow ≡ overflow_of (rules_of c) layout
  pub burden_is : r.cost.burden ≡ burden_of (rules_of c) layout

-- an answer is such a page, or a refusal by one of the numbers of documents 01 and 02
pub data Promised (file : List ℕ) (c : Settings) : Answer → Type 0 where
  right_page : {r : Rendered} {k : Counts} → RulesPage file c r → Promised file c (paged r k)
  right_refusal : {n m : ℕ} {k : Counts} → Numbered n → Promised file c (refused n m k)
