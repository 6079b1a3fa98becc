-- What a reader may take from `Printed`: a refusal alters neither output nor span records, a page is the rule's, and a call out of order or for a desk above 7 charges nothing.
use Rattle.std.specs.Prelude.{◌≡◌, refl, Ok, Err, List, map, ℕ, ◌≤◌, take}
use Rattle.cost.specs.Value.{value}
use Rattle.machine.specs.Events.{Bounds as Limits, Counts}
use Rattle.machine.specs.Materializer.{Rendered}
use Rattle.machine.specs.Answer.{Answer, paged}
use Rattle.answer.specs.Answer.{Settings}
use Rattle.answer.specs.Page.{RulesPage, Promised, right_page}
use Rattle.spans.specs.declared.AnnotationSpan.{AnnotationSpan}
use Rattle.solve_workspace.specs.declared.Bounds.{Bounds}
use Rattle.solve_workspace.specs.declared.RenderOptions.{RenderOptions}
use Rattle.render.specs.declared.order.Lengths.{Lengths}
use Rattle.render.specs.Order.{InOrder}
use Rattle.render.specs.Call.{settings}
use Rattle.desks.specs.declared.Desks.{Desks}
use Rattle.desks.specs.declared.SharedRecord.{SharedRecord}
use Rattle.desks.specs.Desks.{last_desk}
use Rattle.desks.specs.Served.{Served, out_of_order, no_desk, served, Kept, as_the_call}
use Rattle.printer.specs.declared.PrintedPage.{PrintedPage}
use Rattle.printer.specs.declared.Unprinted.{Unprinted}
use Rattle.records.specs.Records.{span_in}
use Rattle.printer.specs.Printed.{Outcome, Printed}

kept_page : {file : List ℕ} {c : Settings} {r : Rendered} {k : Counts} → Kept (Promised file c) (paged r k) → RulesPage file c r
kept_page (as_the_call (right_page p)) = p

unserved : {lent : Type 0} {D : Desks} {d : ℕ} {call : Limits → Answer → Unit {0} → Type 0} {b : Limits} {a : Answer} {D' : Desks} → (lent → d ≤ last_desk → ⊥) → Served lent D d call b tt a tt D' → D' ≡ D
unserved h (out_of_order n) = refl
unserved h (no_desk l g) = refl
unserved h (served l g c) = absurd (h l g)

module _ {d : ℕ} {before after : SharedRecord} {file : List ℕ} {o : RenderOptions} {b : Bounds} {l : Lengths} {output₀ output : List ℕ} {spans₀ spans : List AnnotationSpan} where
  pub refusal_alters_nothing : {e : Unprinted} → Printed d before file o b l output₀ output spans₀ spans after (Err e) → (output ≡ output₀) × (spans ≡ spans₀)
  refusal_alters_nothing p = (p.output_is.past, p.spans_are.past)

  pub page_of_the_rule : {x : PrintedPage} → Printed d before file o b l output₀ output spans₀ spans after (Ok x)
      → RulesPage file (settings o) (record { bytes = take x.length output; spans = map span_in (take x.spans spans); cost = value x.cost })
  page_of_the_rule p = kept_page p.right.promised

  pub unserved_uncharged : {r : Outcome} → (InOrder o b l → d ≤ last_desk → ⊥) → Printed d before file o b l output₀ output spans₀ spans after r → after.desks ≡ before.desks
  unserved_uncharged h p = unserved h p.right.serving.answers
