-- Demand 3 for steps: a right report's whole page is that of the first of the cheapest layouts of its one document, and a step leaves a right report (proofs/Whole).
use Rattle.std.specs.Prelude.{◌≡◌, refl, List, [], ◌∷◌, map, ℕ}
use Rattle.std.proofs.Common.{sym, ap, ap₂, ◌∙◌, arith}
use Rattle.cost.specs.Cost.{Cost}
use Rattle.layout.specs.Document.{Doc}
use Rattle.layout.specs.Layout.{Plan, page}
use Rattle.layout.specs.Spans.{Span, spans}
use Rattle.layout.specs.Choice.{price}
use Rattle.layout.specs.Charging.{charging_lawful}
use Rattle.layout.specs.Lawful.{Lawful}
use Rattle.layout.specs.Report.{stacked, Each, no_row, whole_page, stacked_page, whole_spans, stacked_spans}
use Rattle.layout.specs.Report.{one_more as each_more}
use Rattle.machine.specs.Materializer.{Rendered}
use Rattle.answer.specs.Answer.{Settings, rules_of, document_of}
use Rattle.answer.specs.Page.{RulesPage}
use Rattle.report.specs.Report.{Row, Report, whole, pages_in, bytes_of, spans_of, cost_of}
use Rattle.report.specs.Right.{RightRows, RightReport, Documents, none, one_more}

-- ---- the one document's answer

abbrev pub lawful : (c : Settings) → Lawful (rules_of c)
lawful c = charging_lawful c.rule c.width c.newline_cost c.policy

-- the rows' documents and their layouts
pub record Laid (c : Settings) (rows : List Row) : Type 0 where
  pub docs : List Doc
  pub documents : Documents rows docs
  pub plans : List Plan
  pub each : Each (rules_of c) docs plans
  pub bytes_are : map bytes_of (pages_in rows) ≡ map page plans
  pub spans_are : map spans_of (pages_in rows) ≡ map spans plans
  pub costs_are : map cost_of (pages_in rows) ≡ map (price (rules_of c)) plans

pub cost_right : {f : List ℕ} {c : Settings} {r : Rendered} → (p : RulesPage f c r) → r.cost ≡ price (rules_of c) p.layout
cost_right {r = r} p = ap₂ (λ (o u : ℕ). record { overflow = o; burden = u }) p.overflow_is p.burden_is

pub laid : (c : Settings) (rows : List Row) → RightRows c rows → Laid c rows
laid c [] h = record { docs = []; documents = none; plans = []; each = no_row; bytes_are = refl; spans_are = refl; costs_are = refl }
laid c (r ∷ rows) h =
    let z = laid c rows h.1 in
    let p = h.0.page in
    record {
      docs = p.rule.document (document_of r.file).root ∷ z.docs;
      documents = one_more p.rule.document p.rule.reads z.documents;
      plans = p.layout ∷ z.plans;
      each = each_more p.rule.first z.each;
      bytes_are = ap₂ (λ (x : List ℕ) (l : List (List ℕ)). x ∷ l) p.bytes_are z.bytes_are;
      spans_are = ap₂ (λ (x : List Span) (l : List (List Span)). x ∷ l) p.spans_are z.spans_are;
      costs_are = ap₂ (λ (x : Cost) (l : List Cost). x ∷ l) (cost_right p) z.costs_are;
    }

-- what the rows laid out come to, one below the other
module _ (X : Report) (z : Laid X.settings X.rows) where
  pub whole_bytes : (whole X).bytes ≡ page (stacked z.plans)
  whole_bytes = ap whole_page z.bytes_are ∙ sym (stacked_page z.plans)

  pub whole_marks : (whole X).spans ≡ spans (stacked z.plans)
  whole_marks = ap₂ whole_spans z.bytes_are z.spans_are ∙ sym (stacked_spans z.plans)

-- ---- a step leaves a right report

-- the empty report is right, whatever its settings
pub right_empty : (c : Settings) → RightReport (record { settings = c; rows = [] })
right_empty c = record { right = tt; most = omega arith }
