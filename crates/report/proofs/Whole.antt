-- Demand 3 for steps: a right report's whole page is that of the first of the cheapest layouts of its one document, and a step leaves a right report.
use Rattle.std.specs.Prelude.{◌≡◌, refl, List, [], ◌∷◌, ℕ, zero, suc, ◌+◌, ◌≤◌, length}
use Rattle.std.proofs.Common.{sym, ap, subst, ◌∙◌, arith}
use Rattle.cost.specs.Cost.{Cost}
use Rattle.layout.specs.Choice.{price}
use Rattle.layout.proofs.First.{chosen_cheapest}
use Rattle.layout.specs.Report.{report_doc, stacked, whole_cost, stacked_cost}
use Rattle.layout.proofs.Report.{report_chosen}
use Rattle.machine.specs.Events.{Bounds, Counts}
use Rattle.machine.specs.Materializer.{Rendered}
use Rattle.machine.specs.Answer.{Answer, paged}
use Rattle.answer.specs.Answer.{Settings, rules_of}
use Rattle.answer.specs.Demand.{accepted_page}
use Rattle.answer.proofs.Demand.{page_right}
use Rattle.report.specs.Report.{Row, Report, Step, whole, insert_at, remove_at, rows_most}
use Rattle.report.specs.Answers.{Admitted, Solved, inserted, removed, Tested, too_dear, no_bytes, no_spans, fits, StepAnswers, out_of_order, no_place, full, row_refused, tested}
use Rattle.report.specs.Right.{RightRow, RightRows, RightReport, WholePage}
use Rattle.report.specs.Lists.{remove_cons, remove_none, length_insert, length_remove}
use Rattle.report.specs.Exactly.{InBytes}
use Rattle.report.specs.Whole.{lawful, Laid, laid, whole_bytes, whole_marks}

-- ---- the one document's answer

-- what the rows laid out come to, one below the other
module _ (X : Report) (z : Laid X.settings X.rows) where
  pub whole_price : (whole X).cost ≡ price (rules_of X.settings) (stacked z.plans)
  whole_price = ap (whole_cost X.settings.newline_cost) z.costs_are ∙ sym (stacked_cost (rules_of X.settings) (lawful X.settings) z.plans)

pub whole_right : (X : Report) → RightReport X → WholePage X (whole X)
whole_right X h =
    let z = laid X.settings X.rows h.right in
    let R = rules_of X.settings in
    let first = report_chosen R (lawful X.settings) z.each in
    record {
      docs = z.docs;
      documents = z.documents;
      layout = stacked z.plans;
      first = first;
      cheapest = chosen_cheapest R (report_doc z.docs) (stacked z.plans) first;
      bytes_are = whole_bytes X z;
      spans_are = whole_marks X z;
      overflow_is = ap (λ (k : Cost). k.overflow) (whole_price X z);
      burden_is = ap (λ (k : Cost). k.burden) (whole_price X z);
    }

-- ---- a step leaves a right report

right_insert : (c : Settings) (i : ℕ) (r : Row) (rows : List Row) → RightRow c r → RightRows c rows → RightRows c (insert_at i (r ∷ []) rows)
right_insert c zero r rows h g = (h, g)
right_insert c (suc i) r [] h g = (h, tt)
right_insert c (suc i) r (x ∷ rows) h g = (g.0, right_insert c i r rows h g.1)

right_remove : (c : Settings) (i : ℕ) (rows : List Row) → RightRows c rows → RightRows c (remove_at i 1 rows)
right_remove c zero [] g = g
right_remove c zero (x ∷ rows) g = g.1
right_remove c (suc i) [] g = subst (RightRows c) (sym (remove_none {A = Row} (suc i) [] (omega arith))) tt
right_remove c (suc i) (x ∷ rows) g = subst (RightRows c) (sym (remove_cons i 1 x rows)) (g.0, right_remove c i rows g.1)

module _ {lent : Type 0} {X : Report} {b : Bounds} where
  right_solved : {s : Step} {k : Counts} {Y : Report} → InBytes s → Admitted lent X s → RightReport X → Solved X b s k Y → RightReport Y
  right_solved z d h (inserted {i} {f} {r} {k} p) = record {
    right = right_insert X.settings i (record { file = f; page = r }) X.rows (record { in_bytes = z; means = accepted_page p; page = page_right z p }) h.right;
    most = let n = d.room in by_room (length X.rows) (length_insert i (record { file = f; page = r } ∷ []) X.rows d.place) n;
  }
    where
      by_room : (m : ℕ) {n : ℕ} → n ≡ 1 + m → (rows_most ≤ m → ⊥) → n ≤ rows_most
      by_room m e no_room = omega (arith, e, no_room)
  right_solved z d h (removed {i}) = record { right = right_remove X.settings i X.rows h.right; most = omega (arith, h.most, length_remove i 1 X.rows (omega (arith, d.place))) }

  -- a step's page is that of the report after it, which is right
  pub step_right : {s : Step} {r : Rendered} {k : Counts} {Y : Report} → InBytes s → RightReport X → StepAnswers lent X b s (paged r k) Y → RightReport Y × WholePage Y r
  step_right {s} {r} {k} {Y} z h w = go z w refl
    where
      of_test : {j : Counts} {W Z : Report} {a : Answer} → RightReport W → Tested X b j W a Z → a ≡ paged r k → RightReport Z × WholePage Z r
      of_test g (too_dear x) e = let w : ◌≡◌ {A = ℕ} 0 1 = cc in absurd (omega arith)
      of_test g (no_bytes x y) e = let w : ◌≡◌ {A = ℕ} 0 1 = cc in absurd (omega arith)
      of_test g (no_spans x y w) e = let w : ◌≡◌ {A = ℕ} 0 1 = cc in absurd (omega arith)
      of_test {W = W} g (fits x y w) e = let q : whole W ≡ r = cc in (g, subst (λ (p : Rendered). WholePage W p) q (whole_right W g))

      go : {s : Step} {a : Answer} {Z : Report} → InBytes s → StepAnswers lent X b s a Z → a ≡ paged r k → RightReport Z × WholePage Z r
      go z (out_of_order x) e = let w : ◌≡◌ {A = ℕ} 0 1 = cc in absurd (omega arith)
      go z (no_place l p) e = let w : ◌≡◌ {A = ℕ} 0 1 = cc in absurd (omega arith)
      go z (full l p f) e = let w : ◌≡◌ {A = ℕ} 0 1 = cc in absurd (omega arith)
      go z (row_refused d w) e = let w : ◌≡◌ {A = ℕ} 0 1 = cc in absurd (omega arith)
      go z (tested d w t) e = of_test (right_solved z d h w) t e
