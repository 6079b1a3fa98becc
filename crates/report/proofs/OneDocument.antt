-- Where the one document itself, as a table of nodes with that Seq as its root, gets a page, it is the report's whole page (document 02, change 2: "wherever that document, with sizes and limits enough, gets a page").
use Rattle.std.specs.Prelude.{◌≡◌, refl, List, [], ◌∷◌, ℕ}
use Rattle.std.proofs.Common.{sym, ap, ap₂, subst, ◌∙◌, arith}
use Rattle.std.proofs.Math.Option.{some-injective}
use Rattle.cost.specs.Cost.{Cost}
use Rattle.layout.specs.Document.{Doc}
use Rattle.layout.specs.Layout.{Plan}
use Rattle.layout.specs.Spans.{Span}
use Rattle.layout.specs.Choice.{price, chosen}
use Rattle.layout.specs.Table.{Reads}
use Rattle.layout.specs.Reading.{reads_only}
use Rattle.layout.specs.Report.{report_doc, stacked}
use Rattle.layout.proofs.Report.{report_chosen}
use Rattle.machine.specs.Events.{Bounds, Counts}
use Rattle.machine.specs.Model.{Prepared}
use Rattle.machine.specs.Materializer.{Rendered, rendered}
use Rattle.machine.specs.Answer.{Answer, paged, answer}
use Rattle.machine_right.specs.Ready.{Ready}
use Rattle.machine_right.specs.Right.{RightPage, Right, answer_right, right_page, right_refusal}
use Rattle.answer.specs.Answer.{Settings, rules_of, document_of}
use Rattle.answer.specs.Ready.{means_ready}
use Rattle.report.specs.Report.{Row, Report, whole}
use Rattle.report.specs.Right.{RightRows, RightReport, Documents, none, one_more}
use Rattle.report.specs.Whole.{lawful, laid, whole_bytes, whole_marks}
use Rattle.report.proofs.Whole.{whole_price}

-- rows have one list of documents
documents_one : (c : Settings) (rows : List Row) {ds es : List Doc} → RightRows c rows → Documents rows ds → Documents rows es → ds ≡ es
documents_one c [] h none none = refl
documents_one c (r ∷ rows) h (one_more D d x) (one_more E e y) =
    let K = means_ready r.file h.0.in_bytes h.0.means in
    ap₂ (λ (d : Doc) (l : List Doc). d ∷ l) (reads_only (document_of r.file).table K.ranked D E d e (document_of r.file).root) (documents_one c rows h.1 x y)

module _ (X : Report) (h : RightReport X) {docs : List Doc} (ds : Documents X.rows docs) where
  whole_is : whole X ≡ rendered (stacked (laid X.settings X.rows h.right).plans) (price (rules_of X.settings) (stacked (laid X.settings X.rows h.right).plans))
  whole_is =
      let z = laid X.settings X.rows h.right in
      ap₂ (λ (x : List ℕ) (k : Rendered). record { bytes = x; spans = k.spans; cost = k.cost }) (whole_bytes X z)
      (ap₂ (λ (x : List Span) (y : Cost). record { bytes = (whole X).bytes; spans = x; cost = y }) (whole_marks X z) (whole_price X z))

  -- for any tables P whose root is that document, and any sizes and limits
  pub document_page : (P : Prepared) (K : Ready P) (D : ℕ → Doc) → Reads P.table D → D P.root ≡ report_doc docs
      → (b : Bounds) {r : Rendered} {k : Counts} → answer (rules_of X.settings) P b ≡ paged r k → r ≡ whole X
  document_page P K D reads root b {r} {k} e = go (answer_right (rules_of X.settings) (lawful X.settings) P K b) e
    where
      of : RightPage (rules_of X.settings) P r → r ≡ whole X
      of p =
          let z = laid X.settings X.rows h.right in
          let same : docs ≡ z.docs = documents_one X.settings X.rows h.right ds z.documents in
          let doc : p.rule.document P.root ≡ report_doc z.docs = reads_only P.table K.ranked p.rule.document D p.rule.reads reads P.root ∙ root ∙ ap report_doc same in
          let plan : p.layout ≡ stacked z.plans
          = some-injective p.layout (stacked z.plans) (sym p.rule.first ∙ ap (chosen (rules_of X.settings)) doc ∙ report_chosen (rules_of X.settings) (lawful X.settings) z.each) in
          p.is ∙ ap (λ (q : Plan). rendered q (price (rules_of X.settings) q)) plan ∙ sym whole_is

      go : {a : Answer} → Right (rules_of X.settings) P a → a ≡ paged r k → r ≡ whole X
      go (right_page {page = q} p) e = let i : q ≡ r = cc in of (subst (λ (y : Rendered). RightPage (rules_of X.settings) P y) i p)
      go (right_refusal l) e = let w : ◌≡◌ {A = ℕ} 0 1 = cc in absurd (omega arith)
