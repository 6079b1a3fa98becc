-- What a step leaves, from the verdict on the whole page.
use mathlib.Core.Path.{◌≡◌, refl, sym, ap, ap₂, subst, ◌∙◌}
use mathlib.Core.List.{List, ◌++◌, map}
use Prim.Native.Nat.{ℕ, ◌≤◌, ◌<◌, ◌^◌}
use native.Mathlib.Omega.{arith}
use lib.ListN.{length, take, drop, take-append-drop}
use lib.Seq.{take_at}
use Rattle.cost.specs.Cost.{Cost}
use Rattle.cost.specs.Value.{value}
use Rattle.layout.specs.Spans.{Span}
use Rattle.layout.specs.SpanWords.{span_of}
use Rattle.layout.specs.Report.{whole_page, whole_spans}
use Rattle.machine.specs.Events.{Counts, with_needs, bare}
use Rattle.machine.specs.Events.{Bounds as Limits}
use Rattle.machine.specs.Materializer.{Rendered as Page}
use Rattle.machine.specs.Answer.{Answer, paged, refused}
use Rattle.stats.specs.declared.SolveStats.{SolveStats}
use Rattle.solve_workspace.specs.declared.Bounds.{Bounds}
use Rattle.solve_workspace.specs.declared.Needs.{Needs}
use Rattle.solve_workspace.specs.Meets.{limits, tally, needs_told}
use Rattle.solve_workspace.specs.Rows.{low}
use Rattle.render.specs.Rendered.{meant, Front}
use Rattle.render.specs.Call.{settings}
use Rattle.report.specs.Report.{Row, Report, pages_in, bytes_of, spans_of, whole}
use Rattle.report.specs.Answers.{CostFits, Tested, too_dear, no_bytes, no_spans, page_counts}
use Rattle.report.specs.Answers.{fits as all_fits}
use Rattle.report.specs.Memory.{Words, pages_of, rows_of, Sound}
use Rattle.report_edit.specs.RowLaws.{rows_pages}
use Rattle.report_page.specs.Delivered.{Deliverable, Delivered}
use Rattle.report_gate.specs.declared.Head.{Head}
use Rattle.report_gate.specs.Heads.{options, held}
use Rattle.report_gate.specs.Gates.{StoresLent}
use Rattle.report_settle.specs.declared.Step.{Step}
use Rattle.report_settle.specs.declared.Whole.{Whole}
use Rattle.std.specs.Prelude.{Result, Ok, Err}
use Rattle.report_settle.specs.declared.Lack.{Lack}
use Rattle.report_settle.specs.Verdicts.{lack_of, Judged, dear, long, many, fits, refusal_of, head_with, needs_with, page_of}
use Rattle.report_settle.specs.Settled.{stores, Stands, Unaltered, Settles}
use Rattle.report_settle.proofs.Wholes.{Sums}

-- ---- the verdict

-- what a page that passes is
pub record Passing (c : Cost) (output spans n m : ℕ) (w : Whole) : Type 0 where
  pub cost_is : value w.cost ≡ c
  pub bytes_are : w.bytes ≡ n
  pub spans_are : w.spans ≡ m
  pub cost_fits : CostFits c
  pub bytes_fit : n ≤ output
  pub spans_fit : m ≤ spans

pub passing : {c : Cost} {output spans n m : ℕ} {v : Result Whole Lack} (w : Whole) → v ≡ Ok w → Judged c output spans n m v → Passing c output spans n m w
passing w e (dear x) = absurd (cc)
passing w e (long x y) = absurd (cc)
passing w e (many x y u) = absurd (cc)
passing {c} {output} {spans} {n} {m} w e (fits {w = u} a b d f g h) = let i : u ≡ w = cc in subst (λ (x : Whole). Passing c output spans n m x) i (record { cost_is = a; bytes_are = b; spans_are = d; cost_fits = f; bytes_fit = g; spans_fit = h })

module _ {X Y : Report} {b : Limits} {k : Counts} {c : Cost} {n m : ℕ} where
  lacking : (number needed : ℕ) {v : Result Whole Lack} → v ≡ Err (lack_of number needed) → (whole Y).cost ≡ c → length (whole Y).bytes ≡ n → length (whole Y).spans ≡ m → Judged c b.output b.spans n m v → Tested X b k Y (refused number needed (bare k)) X
  lacking number needed e p q r (dear x) =
      let l : lack_of 26 0 ≡ lack_of number needed = cc in
      let i : 26 ≡ number = ap (λ (x : Lack). x.number) l in
      let j : 0 ≡ needed = ap (λ (x : Lack). x.needed) l in
      subst (λ (a : Answer). Tested X b k Y a X) (ap₂ (λ (s t : ℕ). refused s t (bare k)) i j) (too_dear (λ h. x (subst CostFits p h)))
  lacking number needed e p q r (long x y) =
      let l : lack_of 20 n ≡ lack_of number needed = cc in
      let i : 20 ≡ number = ap (λ (x : Lack). x.number) l in
      let j : n ≡ needed = ap (λ (x : Lack). x.needed) l in
      subst (λ (a : Answer). Tested X b k Y a X) (ap₂ (λ (s t : ℕ). refused s t (bare k)) i (q ∙ j)) (no_bytes (subst CostFits (sym p) x) (omega (arith, y, q)))
  lacking number needed e p q r (many x y z) =
      let l : lack_of 21 m ≡ lack_of number needed = cc in
      let i : 21 ≡ number = ap (λ (x : Lack). x.number) l in
      let j : m ≡ needed = ap (λ (x : Lack). x.needed) l in
      subst (λ (a : Answer). Tested X b k Y a X) (ap₂ (λ (s t : ℕ). refused s t (bare k)) i (r ∙ j)) (no_spans (subst CostFits (sym p) x) (omega (arith, y, q)) (omega (arith, z, r)))
  lacking number needed e p q r (fits a f d g h l) = absurd (cc)

-- ---- a refusal alters nothing

front_none : {A : Type 0} (l : List A) → Front 0 l l
front_none l = record { within = omega arith; past = refl }

pub stands_refused : {n needed : ℕ} {k : SolveStats} {h : Head} (r : Step) → r ≡ refusal_of n needed k h → k.fit_checks ≡ 0 → (output : List ℕ) (spans : List Words) → Stands r.answer output output spans spans
stands_refused {n} {needed} {k} {h} r e z output spans = subst (λ (x : Step). Stands x.answer output output spans spans) (sym e) (record { output_is = front_none output; spans_are = front_none spans; no_fit_checks = z })

pub unaltered : {n needed : ℕ} {k : SolveStats} {h : Head} (r : Step) → r ≡ refusal_of n needed k h → (table : List Words) (files pages : List ℕ) (marks : List Words) → Unaltered h table table files files pages pages marks marks r
unaltered r e table files pages marks = record { head_is = ap (λ (x : Step). x.head) e; table_is = refl; files_are = refl; pages_are = refl; marks_are = refl }

module _ (b : Bounds) (h : Head) (R : List Row) (stats : SolveStats) (needs : Needs) {c : Cost} {n m : ℕ} (s : Sums h.newline_cost (pages_in R) c n m) (z : stats.fit_checks ≡ 0) where
  abbrev after : Report
  after = record { settings = settings (options h); rows = R }

  abbrev counts : Counts
  counts = with_needs (tally stats) (needs_told needs)

  pub settles_lacks : (number needed : ℕ) {v : Result Whole Lack} → v ≡ Err (lack_of number needed) → Judged c b.output b.spans n m v → (r : Step) → r ≡ refusal_of number needed stats h
      → (table : List Words) (files pages : List ℕ) (marks : List Words) (output : List ℕ) (spans : List Words) → Sound h.rows table (length files) (length pages) (length marks)
      → Settles b (with_needs (tally stats) (needs_told needs)) h (record { settings = settings (options h); rows = R }) table table files files pages pages marks marks output output spans spans r
  settles_lacks number needed e j r q table files pages marks output spans g =
      subst (λ (x : Step). Settles b counts h after table table files files pages pages marks marks output output spans spans x) (sym q)
      (record {
        tested = lacking {X = held h table files pages marks} {Y = after} {b = limits b} {k = counts} number needed e s.cost_is s.bytes_are s.spans_are j;
        stands = stands_refused (refusal_of number needed stats h) refl z output spans;
        kept = λ i d k p. unaltered (refusal_of number needed stats h) refl table files pages marks;
        sound = g;
      })

  -- ---- a page

  module _ (w : Whole) (p : Passing c b.output b.spans n m w) (bo : b.output < 2 ^ 32) (bs : b.spans < 2 ^ 32) (rows : ℕ) (table : List Words) (files pages : List ℕ) (marks : List Words) (g : Sound rows table (length files) (length pages) (length marks)) (e : rows_of (take rows table) files pages marks ≡ R) where
    pages_are : pages_of (take rows table) pages marks ≡ pages_in R
    pages_are = sym (rows_pages (take rows table) files pages marks) ∙ ap pages_in e

    pub deliverable : (output : List ℕ) (spans : List Words) → StoresLent b (stores files pages marks output spans) → Deliverable rows table pages marks output spans
    deliverable output spans l =
        let x : length (whole_page (map bytes_of (pages_of (take rows table) pages marks))) ≡ n = ap (λ (ps : List Page). length (whole_page (map bytes_of ps))) pages_are ∙ s.bytes_are in
        let y : length (whole_spans (map bytes_of (pages_of (take rows table) pages marks)) (map spans_of (pages_of (take rows table) pages marks))) ≡ m
        = ap (λ (ps : List Page). length (whole_spans (map bytes_of ps) (map spans_of ps))) pages_are ∙ s.spans_are in
        record {
          rows_in = omega (arith, g.rows_in, g.table_lent);
          pages_in = g.pages_in;
          marks_in = g.marks_in;
          output_in = omega (arith, x, p.bytes_fit, l.output);
          spans_in = omega (arith, y, p.spans_fit, l.spans);
          output_small = omega (arith, x, p.bytes_fit, bo);
          spans_small = omega (arith, y, p.spans_fit, bs);
        }

    module _ {output₀ output : List ℕ} {spans₀ spans : List Words} (l : StoresLent b (stores files pages marks output₀ spans₀)) (d : Delivered rows table pages marks output₀ output spans₀ spans) where
      bytes_put : output ≡ whole_page (map bytes_of (pages_in R)) ++ drop (length (whole_page (map bytes_of (pages_in R)))) output₀
      bytes_put = d.output_is ∙ ap (λ (ps : List Page). whole_page (map bytes_of ps) ++ drop (length (whole_page (map bytes_of ps))) output₀) pages_are

      bytes_there : take w.bytes output ≡ whole_page (map bytes_of (pages_in R))
      bytes_there = ap (take w.bytes) bytes_put ∙ take_at (whole_page (map bytes_of (pages_in R))) (drop (length (whole_page (map bytes_of (pages_in R)))) output₀) w.bytes (s.bytes_are ∙ sym p.bytes_are)

      spans_count : length (whole_spans (map bytes_of (pages_of (take rows table) pages marks)) (map spans_of (pages_of (take rows table) pages marks))) ≡ w.spans
      spans_count = ap (λ (ps : List Page). length (whole_spans (map bytes_of ps) (map spans_of ps))) pages_are ∙ s.spans_are ∙ sym p.spans_are

      spans_there : map span_of (take w.spans spans) ≡ whole_spans (map bytes_of (pages_in R)) (map spans_of (pages_in R))
      spans_there = ap (λ (i : ℕ). map span_of (take i spans)) (sym spans_count) ∙ d.spans_are ∙ ap (λ (ps : List Page). whole_spans (map bytes_of ps) (map spans_of ps)) pages_are

      output_front : Front w.bytes output₀ output
      output_front = record {
        within = omega (arith, p.bytes_are, p.bytes_fit, l.output);
        past = bytes_put ∙ ap₂ (λ (x : List ℕ) (i : ℕ). x ++ drop i output₀) (sym bytes_there) (s.bytes_are ∙ sym p.bytes_are);
      }

      spans_front : Front w.spans spans₀ spans
      spans_front = record {
        within = omega (arith, p.spans_are, p.spans_fit, l.spans);
        past = sym (take-append-drop w.spans spans) ∙ ap (λ (x : List Words). take w.spans spans ++ x) (ap (λ (i : ℕ). drop i spans) (sym spans_count) ∙ d.spans_past ∙ ap (λ (i : ℕ). drop i spans₀) spans_count);
      }

      low_is : (x y : ℕ) → x ≡ y → y < 2 ^ 32 → low x ≡ y
      low_is x y q h = omega (arith, q, h)

      -- what is told is the whole page, with its needs
      told : (table₀ : List Words) (files₀ pages₀ : List ℕ) (marks₀ : List Words) → Tested (held h table₀ files₀ pages₀ marks₀) (limits b) counts after (meant (page_of w stats needs h rows).answer output spans) (held (head_with h rows) table files pages marks)
      told table₀ files₀ pages₀ marks₀ =
          let X = held h table₀ files₀ pages₀ marks₀ in
          let page : record { bytes = take w.bytes output; spans = map span_of (take w.spans spans); cost = value w.cost } ≡ whole after
          = ap₂ (λ (x : List ℕ) (y : Page). record { bytes = x; spans = y.spans; cost = y.cost }) bytes_there
          (ap₂ (λ (x : List Span) (y : Cost). record { bytes = whole_page (map bytes_of (pages_in R)); spans = x; cost = y }) spans_there (p.cost_is ∙ sym s.cost_is)) in
          let o : low w.bytes ≡ length (whole after).bytes = low_is w.bytes (length (whole after).bytes) (p.bytes_are ∙ sym s.bytes_are) (omega (arith, s.bytes_are, p.bytes_fit, bo)) in
          let u : low w.spans ≡ length (whole after).spans = low_is w.spans (length (whole after).spans) (p.spans_are ∙ sym s.spans_are) (omega (arith, s.spans_are, p.spans_fit, bs)) in
          let count : with_needs (tally stats) (needs_told (needs_with needs w.bytes w.spans)) ≡ page_counts counts (whole after) = rw (o, u) refl in
          let here : held (head_with h rows) table files pages marks ≡ after = ap (λ (x : List Row). record { settings = settings (options h); rows = x }) e in
          let t : Tested X (limits b) counts after (paged (whole after) (page_counts counts (whole after))) after
          = all_fits (subst CostFits (sym s.cost_is) p.cost_fits) (omega (arith, s.bytes_are, p.bytes_fit)) (omega (arith, s.spans_are, p.spans_fit)) in
          subst (λ (Z : Report). Tested X (limits b) counts after (meant (page_of w stats needs h rows).answer output spans) Z) (sym here)
          (subst (λ (a : Answer). Tested X (limits b) counts after a after) (sym (ap₂ (λ (x : Page) (y : Counts). paged x y) page count)) t)

      pub settles_fits : (r : Step) → r ≡ page_of w stats needs h rows → (table₀ : List Words) (files₀ pages₀ : List ℕ) (marks₀ : List Words)
          → Settles b (with_needs (tally stats) (needs_told needs)) h (record { settings = settings (options h); rows = R }) table₀ table files₀ files pages₀ pages marks₀ marks output₀ output spans₀ spans r
      settles_fits r q table₀ files₀ pages₀ marks₀ =
          subst (λ (x : Step). Settles b counts h after table₀ table files₀ files pages₀ pages marks₀ marks output₀ output spans₀ spans x) (sym q)
          (record {
            tested = told table₀ files₀ pages₀ marks₀;
            stands = record { output_is = output_front; spans_are = spans_front; no_fit_checks = z };
            kept = λ n needed k f. let x : ◌≡◌ {A = ℕ} 0 1 = cc in absurd (omega arith);
            sound = g;
          })
