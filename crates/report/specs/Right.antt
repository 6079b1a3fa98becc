-- What is right of a live report, and of its whole page: "the layouts of that one document" (document 02, change 2).
use Rattle.std.specs.Prelude.{◌≡◌, Ok, List, [], ◌∷◌, ℕ, ◌≤◌, length}
use Rattle.std.proofs.Math.Option.{some}
use Rattle.layout.specs.Document.{Doc}
use Rattle.layout.specs.Layout.{Plan, page, overflow_of, burden_of}
use Rattle.layout.specs.Spans.{spans}
use Rattle.layout.specs.Choice.{chosen}
use Rattle.layout.specs.Cheapest.{Cheapest}
use Rattle.layout.specs.Table.{Reads}
use Rattle.layout.specs.Report.{report_doc}
use Rattle.file_encode.specs.Fields.{Bytes}
use Rattle.file_form.specs.Form.{counts_of}
use Rattle.prepare.specs.File.{Means}
use Rattle.machine.specs.Materializer.{Rendered}
use Rattle.answer.specs.Answer.{Settings, rules_of, document_of}
use Rattle.answer.specs.Page.{RulesPage}
use Rattle.report.specs.Report.{Row, Report, rows_most}

-- a row is an accepted file with the rule's page of it
pub record RightRow (c : Settings) (r : Row) : Type 0 where
  pub in_bytes : Bytes r.file
  pub means : Means r.file (Ok (counts_of r.file))
  pub page : RulesPage r.file c r.page

abbrev pub RightRows : Settings → List Row → Type 0
RightRows c [] = Unit {0}
RightRows c (r ∷ rows) = RightRow c r × RightRows c rows

pub record RightReport (X : Report) : Type 0 where
  pub right : RightRows X.settings X.rows
  pub most : length X.rows ≤ rows_most

-- each the document of its row's root
pub data Documents : List Row → List Doc → Type 0 where
  none : Documents [] []
  one_more : {r : Row} {rows : List Row} {ds : List Doc} (D : ℕ → Doc) → Reads (document_of r.file).table D → Documents rows ds → Documents (r ∷ rows) (D (document_of r.file).root ∷ ds)

-- the page is that of a layout which the one document allows, the first of its cheapest in choice order
pub record WholePage (X : Report) (r : Rendered) : Type 0 where
  pub docs : List Doc
  pub documents : Documents X.rows docs
  pub layout : Plan
  pub first : chosen (rules_of X.settings) (report_doc docs) ≡ some layout
  pub cheapest : Cheapest (rules_of X.settings) (report_doc docs) layout
  pub bytes_are : r.bytes ≡ page layout
  pub spans_are : r.spans ≡ spans layout
  pub overflow_is : r.cost.overflow ≡ overflow_of (rules_of X.settings) layout
  pub burden_is : r.cost.burden ≡ burden_of (rules_of X.settings) layout
