-- "The page that a larger call must repeat is read for the same step, with the same place and file, on a report of the same rows" (document 02, change 2).
use Rattle.std.specs.Prelude.{◌≡◌, refl, List, [], ◌∷◌, map, ℕ, ◌≤◌, length}
use Rattle.std.proofs.Common.{sym, ap, ap₂, subst, ◌∙◌, arith}
use Rattle.layout.specs.Layout.{Plan}
use Rattle.layout.specs.Choice.{price}
use Rattle.layout.proofs.Answers.{one_answer}
use Rattle.machine.specs.Events.{Bounds, Counts}
use Rattle.machine.specs.Materializer.{Rendered, rendered}
use Rattle.machine.specs.Answer.{Answer, paged}
use Rattle.answer.specs.Answer.{Settings, rules_of, document_of}
use Rattle.answer.specs.Page.{RulesPage}
use Rattle.answer.specs.Ready.{means_ready}
use Rattle.report.specs.Report.{Row, Report, Step, without_row, with_row}
use Rattle.report.specs.Answers.{Admitted, Solved, Tested, too_dear, no_bytes, no_spans, fits, StepAnswers, out_of_order, no_place, full, row_refused, tested}
use Rattle.report.specs.Right.{RightRow, RightRows, RightReport}
use Rattle.report.specs.Lists.{removed_again}
use Rattle.report.specs.Whole.{cost_right}

-- ---- the same files are the same rows, whatever sizes made them

abbrev pub files_in : List Row → List (List ℕ)
files_in rows = map (λ (r : Row). r.file) rows

page_is : {f : List ℕ} {c : Settings} {r : Rendered} (p : RulesPage f c r) → r ≡ rendered p.layout (price (rules_of c) p.layout)
page_is {r = r} p = ap₂ (λ (x : List ℕ) (k : Rendered). record { bytes = x; spans = k.spans; cost = k.cost }) p.bytes_are (ap₂ (λ x y. record { bytes = r.bytes; spans = x; cost = y }) p.spans_are (cost_right p))

same_row : (c : Settings) (x y : Row) → x.file ≡ y.file → RightRow c x → RightRow c y → x ≡ y
same_row c x y e h g =
    let k : RightRow c (record { file = x.file; page = y.page }) = subst (λ (f : List ℕ). RightRow c (record { file = f; page = y.page })) (sym e) g in
    let K = means_ready x.file h.in_bytes h.means in
    let one = one_answer (rules_of c) (document_of x.file).table K.ranked (document_of x.file).root h.page.layout k.page.layout h.page.rule k.page.rule in
    let same : x.page ≡ y.page = page_is h.page ∙ ap (λ (p : Plan). rendered p (price (rules_of c) p)) one ∙ sym (page_is k.page) in
    ap₂ (λ (f : List ℕ) (p : Rendered). record { file = f; page = p }) e same

same_rows : (c : Settings) (xs ys : List Row) → files_in xs ≡ files_in ys → RightRows c xs → RightRows c ys → xs ≡ ys
same_rows c [] [] e h g = refl
same_rows c [] (y ∷ ys) e h g = let z : ◌≡◌ {A = ℕ} 0 1 = cc in absurd (omega arith)
same_rows c (x ∷ xs) [] e h g = let z : ◌≡◌ {A = ℕ} 0 1 = cc in absurd (omega arith)
same_rows c (x ∷ xs) (y ∷ ys) e h g =
    let f : x.file ≡ y.file = cc in
    let t : files_in xs ≡ files_in ys = cc in
    ap₂ (λ (r : Row) (l : List Row). r ∷ l) (same_row c x y f h.0 g.0) (same_rows c xs ys t h.1 g.1)

pub same_report : (X Y : Report) → X.settings ≡ Y.settings → files_in X.rows ≡ files_in Y.rows → RightReport X → RightReport Y → X ≡ Y
same_report X Y e f h g =
    ap₂ (λ (c : Settings) (l : List Row). record { settings = c; rows = l }) e
    (same_rows X.settings X.rows Y.rows f h.right (subst (λ (c : Settings). RightRows c Y.rows) (sym e) g.right))

-- ---- under sizes and limits none smaller

-- how a page came about
pub record Paged (lent : Type 0) (X : Report) (b : Bounds) (s : Step) (r : Rendered) (k : Counts) (Y : Report) : Type 0 where
  pub counts : Counts
  pub admitted : Admitted lent X s
  pub solved : Solved X b s counts Y
  pub tests : Tested X b counts Y (paged r k) Y

module _ {lent : Type 0} {X : Report} {b : Bounds} where
  pub came : {s : Step} {r : Rendered} {k : Counts} {Y : Report} → StepAnswers lent X b s (paged r k) Y → Paged lent X b s r k Y
  came {r = r} {k = k} w = go w refl
    where
      of_test : {s : Step} {j : Counts} {W Z : Report} {a : Answer} → Admitted lent X s → Solved X b s j W → Tested X b j W a Z → a ≡ paged r k → Paged lent X b s r k Z
      of_test d w (too_dear x) e = let w : ◌≡◌ {A = ℕ} 0 1 = cc in absurd (omega arith)
      of_test d w (no_bytes x y) e = let w : ◌≡◌ {A = ℕ} 0 1 = cc in absurd (omega arith)
      of_test d w (no_spans x y z) e = let w : ◌≡◌ {A = ℕ} 0 1 = cc in absurd (omega arith)
      of_test {j = j} {W = W} d w (fits x y z) e = record { counts = j; admitted = d; solved = w; tests = subst (λ (a : Answer). Tested X b j W a W) e (fits x y z) }

      go : {s : Step} {a : Answer} {Z : Report} → StepAnswers lent X b s a Z → a ≡ paged r k → Paged lent X b s r k Z
      go (out_of_order x) e = let w : ◌≡◌ {A = ℕ} 0 1 = cc in absurd (omega arith)
      go (no_place l p) e = let w : ◌≡◌ {A = ℕ} 0 1 = cc in absurd (omega arith)
      go (full l p f) e = let w : ◌≡◌ {A = ℕ} 0 1 = cc in absurd (omega arith)
      go (row_refused d w) e = let w : ◌≡◌ {A = ℕ} 0 1 = cc in absurd (omega arith)
      go (tested d w t) e = of_test d w t e

pub admitted_as : {lent other : Type 0} {X : Report} {s : Step} → other → Admitted lent X s → Admitted other X s
admitted_as w d = record { lent_enough = w; place = d.place; room = d.room }

-- ---- removing what was just inserted

pub undone : (X : Report) (i : ℕ) (r : Row) → i ≤ length X.rows → without_row (with_row X i r) i ≡ X
undone X i r h = ap (λ (l : List Row). record { settings = X.settings; rows = l }) (removed_again i (r ∷ []) X.rows h)
