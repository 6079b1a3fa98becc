-- Each step has exactly one answer, and one report after it; a refusal's report is the report before.
use Rattle.std.specs.Prelude.{◌≡◌, refl, List, ℕ, length}
use Rattle.std.proofs.Common.{ap, ap₂, arith}
use Rattle.std.proofs.Math.Logic.{by_cases}
use Rattle.std.proofs.Math.Decide.{dec_lt}
use Rattle.machine.specs.Events.{Bounds, Counts, no_counts}
use Rattle.machine.specs.Materializer.{Rendered}
use Rattle.machine.specs.Answer.{Answer, paged, refused}
use Rattle.answer.specs.Answer.{Answers}
use Rattle.answer.specs.Exactly.{answers_one}
use Rattle.answer.proofs.Exactly.{answered}
use Rattle.report.specs.Report.{Report, Step, insert, remove, whole, with_row, without_row, rows_most, PlaceThere, Full}
use Rattle.report.specs.Answers.{Admitted, Solved, inserted, removed, Tested, too_dear, no_bytes, no_spans, fits, StepAnswers, out_of_order, no_place, full, row_refused, tested}
use Rattle.report.specs.Exactly.{both, Come, Stepped, cost_fits?}

solved_one : {X : Report} {b : Bounds} {s : Step} {k l : Counts} {Y Z : Report} → Solved X b s k Y → Solved X b s l Z → ◌≡◌ {A = Come} (record { counts = k; report = Y }) (record { counts = l; report = Z })
solved_one {X} (inserted {i} {f} {r} {k} p) (inserted {r = q} {k = l} m) =
    let e : ◌≡◌ {A = Answer} (paged r k) (paged q l) = answers_one p m in
    let c : k ≡ l = cc in
    let d : r ≡ q = cc in
    ap₂ (λ (j : Counts) (z : Rendered). record { counts = j; report = with_row X i (record { file = f; page = z }) }) c d
solved_one removed removed = refl

tested_one : {X Y : Report} {b : Bounds} {k : Counts} {a c : Answer} {U W : Report} → Tested X b k Y a U → Tested X b k Y c W → both a U ≡ both c W
tested_one (too_dear n) (too_dear m) = refl
tested_one (too_dear n) (no_bytes c o) = absurd (n c)
tested_one (too_dear n) (no_spans c o p) = absurd (n c)
tested_one (too_dear n) (fits c o p) = absurd (n c)
tested_one (no_bytes c o) (too_dear n) = absurd (n c)
tested_one (no_bytes c o) (no_bytes d p) = refl
tested_one (no_bytes c o) (no_spans d p q) = absurd (omega arith)
tested_one (no_bytes c o) (fits d p q) = absurd (omega arith)
tested_one (no_spans c o p) (too_dear n) = absurd (n c)
tested_one (no_spans c o p) (no_bytes d q) = absurd (omega arith)
tested_one (no_spans c o p) (no_spans d q r) = refl
tested_one (no_spans c o p) (fits d q r) = absurd (omega arith)
tested_one (fits c o p) (too_dear n) = absurd (n c)
tested_one (fits c o p) (no_bytes d q) = absurd (omega arith)
tested_one (fits c o p) (no_spans d q r) = absurd (omega arith)
tested_one (fits c o p) (fits d q r) = refl

-- a row that is refused was not solved
not_solved : {X : Report} {b : Bounds} {i : ℕ} {f : List ℕ} {n m : ℕ} {k l : Counts} {Y : Report} → Answers (Unit {0}) f X.settings b (refused n m k) → Solved X b (insert i f) l Y → ⊥
not_solved {n = n} {m = m} {k = k} {l = l} w (inserted {r = r} p) =
    let e : ◌≡◌ {A = Answer} (refused n m k) (paged r l) = answers_one w p in
    let z : ◌≡◌ {A = ℕ} 0 1 = cc in
    absurd (omega arith)

module _ {lent : Type 0} {X : Report} {b : Bounds} where
  pub step_one : {s : Step} {a c : Answer} {Y Z : Report} → StepAnswers lent X b s a Y → StepAnswers lent X b s c Z → both a Y ≡ both c Z
  step_one (out_of_order n) (out_of_order m) = refl
  step_one (out_of_order n) (no_place l p) = absurd (n l)
  step_one (out_of_order n) (full l p f) = absurd (n l)
  step_one (out_of_order n) (row_refused d w) = absurd (n d.lent_enough)
  step_one (out_of_order n) (tested d w t) = absurd (n d.lent_enough)
  step_one (no_place l p) (out_of_order m) = absurd (m l)
  step_one (no_place l p) (no_place m q) = refl
  step_one (no_place l p) (full m q f) = absurd (p q)
  step_one (no_place l p) (row_refused d w) = absurd (p d.place)
  step_one (no_place l p) (tested d w t) = absurd (p d.place)
  step_one (full l p f) (out_of_order m) = absurd (m l)
  step_one (full l p f) (no_place m q) = absurd (q p)
  step_one (full l p f) (full m q g) = refl
  step_one (full l p f) (row_refused d w) = absurd (d.room f)
  step_one (full l p f) (tested d w t) = absurd (d.room f)
  step_one (row_refused d w) (out_of_order m) = absurd (m d.lent_enough)
  step_one (row_refused d w) (no_place m q) = absurd (q d.place)
  step_one (row_refused d w) (full m q g) = absurd (d.room g)
  step_one (row_refused {i} {f} d w) (row_refused e v) = ap (λ (a : Answer). both a X) (answers_one w v)
  step_one (row_refused d w) (tested e v t) = absurd (not_solved w v)
  step_one (tested d w t) (out_of_order m) = absurd (m d.lent_enough)
  step_one (tested d w t) (no_place m q) = absurd (q d.place)
  step_one (tested d w t) (full m q g) = absurd (d.room g)
  step_one (tested d w t) (row_refused e v) = absurd (not_solved v w)
  step_one (tested {s = s} {k = k} {Y = Y} {Z = U} {a = a} d w t) (tested {k = l} {Y = Z} {Z = W} {a = c} e v u) = go (solved_one w v) t u
    where
      go : ◌≡◌ {A = Come} (record { counts = k; report = Y }) (record { counts = l; report = Z }) → Tested X b k Y a U → Tested X b l Z c W → both a U ≡ both c W
      go e t u =
          let c₀ : k ≡ l = ap (λ (z : Come). z.counts) e in
          let c₁ : Y ≡ Z = ap (λ (z : Come). z.report) e in
          tested_one t (rw (c₀, c₁) u)

-- ---- there is one

record TestedAs (X : Report) (b : Bounds) (k : Counts) (Y : Report) : Type 0 where
  pub is : Answer
  pub after : Report
  pub tests : Tested X b k Y is after

tested? : (X : Report) (b : Bounds) (k : Counts) (Y : Report) → TestedAs X b k Y
tested? X b k Y =
    by_cases (cost_fits? (whole Y).cost)
    (λ c. by_cases (dec_lt b.output (length (whole Y).bytes))
    (λ o. record { is = _; after = _; tests = no_bytes c o })
    (λ o. by_cases (dec_lt b.spans (length (whole Y).spans))
    (λ p. record { is = _; after = _; tests = no_spans c (omega arith) p })
    (λ p. record { is = _; after = _; tests = fits c (omega arith) (omega arith) })))
    (λ n. record { is = _; after = _; tests = too_dear n })

place? : (X : Report) (s : Step) → Dec (PlaceThere X s)
place? X (insert i f) = by_cases (dec_lt (length X.rows) i) (λ l. no (λ h. omega arith)) (λ n. yes (omega arith))
place? X (remove i) = dec_lt i (length X.rows)

full? : (X : Report) (s : Step) → Dec (Full X s)
full? X (insert i f) = by_cases (dec_lt (length X.rows) rows_most) (λ l. no (λ h. omega arith)) (λ n. yes (omega arith))
full? X (remove i) = no (λ h. h)

module _ {lent : Type 0} (X : Report) (b : Bounds) where
  solved : (s : Step) → Admitted lent X s → Stepped lent X b s
  solved (insert i f) d = row (answered f X.settings b (yes tt)).is (answered f X.settings b (yes tt)).answers
    where
      row : (a : Answer) → Answers (Unit {0}) f X.settings b a → Stepped lent X b (insert i f)
      row (paged r k) w = let t = tested? X b k (with_row X i (record { file = f; page = r })) in record { is = t.is; after = t.after; answers = tested d (inserted w) t.tests }
      row (refused n m k) w = record { is = _; after = _; answers = row_refused d w }
  solved (remove i) d = let t = tested? X b no_counts (without_row X i) in record { is = t.is; after = t.after; answers = tested d removed t.tests }

  pub stepped : Dec lent → (s : Step) → Stepped lent X b s
  stepped (yes l) s =
      by_cases (place? X s)
      (λ p. by_cases (full? X s) (λ f. record { is = _; after = _; answers = full l p f }) (λ n. solved s (record { lent_enough = l; place = p; room = n })))
      (λ p. record { is = _; after = _; answers = no_place l p })
  stepped (no l) s = record { is = _; after = _; answers = out_of_order l }
