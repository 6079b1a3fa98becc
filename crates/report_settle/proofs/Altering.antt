-- A row comes in, or goes: from the verdict to what is left.
use mathlib.Core.Path.{◌≡◌, refl, sym, ap, subst, ◌∙◌}
use mathlib.Core.List.{List, [], ◌∷◌, map}
use Prim.Native.Nat.{ℕ, ◌+◌, ◌-◌, ◌≤◌, ◌<◌, ◌^◌}
use native.Mathlib.Omega.{arith}
use lib.ListN.{length, get_or, take, length-map}
use lib.Seq.{length-take-le, get_or-take}
use Rattle.cost.specs.Cost.{Cost}
use Rattle.cost.specs.Value.{value}
use Rattle.layout.specs.SpanWords.{span_of}
use Rattle.layout.specs.Report.{whole_cost}
use Rattle.machine.specs.Materializer.{Rendered as Page}
use Rattle.stats.specs.declared.SolveStats.{SolveStats}
use Rattle.solve_workspace.specs.declared.Bounds.{Bounds}
use Rattle.solve_workspace.specs.declared.Needs.{Needs}
use Rattle.cost.specs.declared.ConsumerCost.{ConsumerCost}
use Rattle.std.specs.Prelude.{Result, Ok, Err}
use Rattle.render.specs.declared.page.Page.{Page as Paged}
use Rattle.render.specs.declared.page.Refusal.{Refusal}
use Rattle.render.specs.Rendered.{Rendered, page_with, refusal_with, counts_of}
use Rattle.stats.specs.Counts.{none_counted}
use Rattle.report.specs.Report.{Row, insert_at, remove_at, pages_in}
use Rattle.report.specs.Memory.{Words, page_length, span_count, cost_at, rows_of, sum_of, Sound}
use Rattle.report_rows.specs.SumLaws.{sum_remove}
use Rattle.report_edit.specs.declared.RowPage.{RowPage}
use Rattle.report_edit.specs.Edits.{row_in, TakingIn, TakenIn, TakenOut}
use Rattle.report_page.specs.Delivered.{Deliverable, Delivered}
use Rattle.report_gate.specs.declared.Head.{Head}
use Rattle.report_gate.specs.Gates.{StoresLent}
use Rattle.report_settle.specs.declared.Step.{Step}
use Rattle.report_settle.specs.declared.Whole.{Whole}
use Rattle.report_settle.specs.declared.Lack.{Lack}
use Rattle.report_settle.specs.Verdicts.{lack_of, Judged, Summable, VerdictRoom, Removable, refusal_of, page_of}
use Rattle.report_settle.specs.Settled.{stores, Inserting, InsertionSettled, Removing, RemovalSettled, row_page, Settling, Settled}
use Rattle.report_settle.proofs.Wholes.{Sums, insertion_sums, removal_sums, pages_insert, pages_remove}
use Rattle.report_settle.proofs.Settling.{passing, settles_lacks, deliverable, settles_fits, unaltered}

-- no needs
abbrev pub none_needed : Needs
none_needed = record { stack = 0; memo = 0; kept = 0; frontier = 0; plans = 0; visit = 0; depth = 0; output = 0; spans = 0 }

pub verdict_is : {c : Cost} {o s n m x y : ℕ} {v : Result Whole Lack} → n ≡ x → m ≡ y → Judged c o s n m v → Judged c o s x y v
verdict_is {c} {o} {s} {n} {m} {x} {y} {v} e f j = subst (λ (k : ℕ). Judged c o s x k v) f (subst (λ (k : ℕ). Judged c o s k m v) e j)

-- stores keep their lengths
stores_as : {b : Bounds} (files₀ files pages₀ pages : List ℕ) (marks₀ marks : List Words) (output : List ℕ) (spans : List Words) → length pages ≡ length pages₀ → length marks ≡ length marks₀ → StoresLent b (stores files₀ pages₀ marks₀ output spans) → StoresLent b (stores files pages marks output spans)
stores_as files₀ files pages₀ pages marks₀ marks output spans e f l = record { pages = omega (arith, e, l.pages); output = l.output; marks = omega (arith, f, l.marks); spans = l.spans }

pub summable : {h : Head} {table : List Words} {F P M : ℕ} → Sound h.rows table F P M → F < 2 ^ 63 → P < 2 ^ 63 → M < 2 ^ 63 → Summable h table
summable {h} {table} g f p m = record {
  rows_in = g.rows_in;
  table_in = omega (arith, g.rows_in, g.table_lent);
  files_small = omega (arith, g.files_in, f);
  pages_small = omega (arith, g.pages_in, p);
  marks_small = omega (arith, g.marks_in, m);
}

sums_as : {n : ℕ} {ps qs : List Page} {c d : Cost} {x y u v : ℕ} → ps ≡ qs → c ≡ d → x ≡ y → u ≡ v → Sums n qs c x u → Sums n ps d y v
sums_as {n} e f g h s = rw (e, ← f, ← g, ← h) s

-- ---- a row comes in

module _ {place : ℕ} {b : Bounds} {h : Head} {page : RowPage} {stats : SolveStats} {file row : List ℕ} {row_spans table₀ : List Words} {files₀ pages₀ : List ℕ} {marks₀ : List Words} {output₀ : List ℕ} {spans₀ : List Words} (i : Inserting place b h page stats file row row_spans table₀ files₀ pages₀ marks₀ output₀ spans₀) where
  pub verdict_room : b.output < 2 ^ 32 → b.spans < 2 ^ 32 → length files₀ < 2 ^ 63 → length pages₀ < 2 ^ 63 → length marks₀ < 2 ^ 63 → VerdictRoom h page table₀
  verdict_room bo bs f p m = record { summable = summable i.room.sound f p m; page_small = omega (arith, i.there.page_fits, bo); spans_small = omega (arith, i.there.spans_fit, bs) }

  rows_there : length (take h.rows table₀) ≡ h.rows
  rows_there = length-take-le h.rows table₀ (omega (arith, i.room.sound.rows_in, i.room.sound.table_lent))

  abbrev come : List Row
  come = insert_at place (row_in page file row row_spans ∷ []) (rows_of (take h.rows table₀) files₀ pages₀ marks₀)

  in_sums : Sums h.newline_cost (pages_in (insert_at place (row_in page file row row_spans ∷ []) (rows_of (take h.rows table₀) files₀ pages₀ marks₀))) (whole_cost h.newline_cost (insert_at place (value page.cost ∷ []) (map cost_at (take h.rows table₀))))
      (sum_of page_length (take h.rows table₀) + page.length + h.rows) (sum_of span_count (take h.rows table₀) + page.spans)
  in_sums =
      let t = take h.rows table₀ in
      let x : length (take page.length row) ≡ page.length = length-take-le page.length row i.there.page_in in
      let y : length (map span_of (take page.spans row_spans)) ≡ page.spans = length-map (take page.spans row_spans) span_of ∙ length-take-le page.spans row_spans i.there.spans_in in
      sums_as (pages_insert t files₀ pages₀ marks₀ place (row_in page file row row_spans)) refl (omega (arith, x, rows_there)) (omega (arith, y))
      (insertion_sums h.newline_cost t pages₀ marks₀ i.room.sound.pages_in i.room.sound.marks_in place (omega (arith, i.room.place_in, rows_there)) (row_in page file row row_spans).page)

  module _ {v : Result Whole Lack} (j : Judged (whole_cost h.newline_cost (insert_at place (value page.cost ∷ []) (map cost_at (take h.rows table₀)))) b.output b.spans (sum_of page_length (take h.rows table₀) + page.length + h.rows) (sum_of span_count (take h.rows table₀) + page.spans) v) where
    pub in_lacks : (number needed : ℕ) → v ≡ Err (lack_of number needed) → (needs : Needs) (r : Step) → r ≡ refusal_of number needed stats h
        → InsertionSettled place b h page stats needs file row row_spans table₀ table₀ files₀ files₀ pages₀ pages₀ marks₀ marks₀ output₀ output₀ spans₀ spans₀ r
    in_lacks number needed e needs r q = settles_lacks b h come stats needs in_sums i.no_fit_checks number needed e j r q table₀ files₀ pages₀ marks₀ output₀ spans₀ i.room.sound

    pub taking_in : (w : Whole) → v ≡ Ok w → TakingIn place h.rows page file row row_spans table₀ files₀ pages₀ marks₀
    taking_in w e =
        let p = passing w e j in
        record {
          sound = i.room.sound;
          place_in = i.room.place_in;
          room = i.room.room;
          files_room = i.room.files_room;
          pages_room = omega (arith, p.bytes_fit, i.room.lent.pages);
          marks_room = omega (arith, p.spans_fit, i.room.lent.marks);
          page_in = i.there.page_in;
          spans_in = i.there.spans_in;
          small = i.there.small;
        }

    module _ (w : Whole) (e : v ≡ Ok w) (bo : b.output < 2 ^ 32) (bs : b.spans < 2 ^ 32) {table : List Words} {files pages : List ℕ} {marks : List Words} (lp : length pages ≡ length pages₀) (lm : length marks ≡ length marks₀)
        (k : TakenIn place h.rows page file row row_spans table₀ table files₀ files pages₀ pages marks₀ marks) where
      pub in_deliverable : Deliverable (h.rows + 1) table pages marks output₀ spans₀
      in_deliverable = deliverable b h come stats (none_needed) in_sums i.no_fit_checks w (passing w e j) bo bs (h.rows + 1) table files pages marks k.sound k.rows_are output₀ spans₀ (stores_as files₀ files pages₀ pages marks₀ marks output₀ spans₀ lp lm i.room.lent)

      pub in_fits : {output : List ℕ} {spans : List Words} → Delivered (h.rows + 1) table pages marks output₀ output spans₀ spans → (needs : Needs) (r : Step) → r ≡ page_of w stats needs h (h.rows + 1)
          → InsertionSettled place b h page stats needs file row row_spans table₀ table files₀ files pages₀ pages marks₀ marks output₀ output spans₀ spans r
      in_fits d needs r q = settles_fits b h come stats needs in_sums i.no_fit_checks w (passing w e j) bo bs (h.rows + 1) table files pages marks k.sound k.rows_are (stores_as files₀ files pages₀ pages marks₀ marks output₀ spans₀ lp lm i.room.lent) d r q table₀ files₀ pages₀ marks₀

-- ---- a row goes

module _ {place : ℕ} {b : Bounds} {h : Head} {table₀ : List Words} {files₀ pages₀ : List ℕ} {marks₀ : List Words} {output₀ : List ℕ} {spans₀ : List Words} (i : Removing place b h table₀ files₀ pages₀ marks₀ output₀ spans₀) where
  pub removable : length files₀ < 2 ^ 63 → length pages₀ < 2 ^ 63 → length marks₀ < 2 ^ 63 → Removable h place table₀
  removable f p m = record { summable = summable i.sound f p m; place_in = i.place_in }

  rows_here : length (take h.rows table₀) ≡ h.rows
  rows_here = length-take-le h.rows table₀ (omega (arith, i.sound.rows_in, i.sound.table_lent))

  abbrev left : List Row
  left = remove_at place 1 (rows_of (take h.rows table₀) files₀ pages₀ marks₀)

  out_sums : Sums h.newline_cost (pages_in (remove_at place 1 (rows_of (take h.rows table₀) files₀ pages₀ marks₀))) (whole_cost h.newline_cost (remove_at place 1 (map cost_at (take h.rows table₀))))
      (sum_of page_length (remove_at place 1 (take h.rows table₀)) + (h.rows - 1 - 1)) (sum_of span_count (remove_at place 1 (take h.rows table₀)))
  out_sums =
      let t = take h.rows table₀ in
      sums_as (pages_remove t files₀ pages₀ marks₀ place) refl (ap (λ (x : ℕ). sum_of page_length (remove_at place 1 t) + (x - 1 - 1)) rows_here) refl
      (removal_sums h.newline_cost t pages₀ marks₀ i.sound.pages_in i.sound.marks_in place (omega (arith, i.place_in, rows_here)))

  module _ {v : Result Whole Lack} (j : Judged (whole_cost h.newline_cost (remove_at place 1 (map cost_at (take h.rows table₀)))) b.output b.spans (sum_of page_length (remove_at place 1 (take h.rows table₀)) + (h.rows - 1 - 1)) (sum_of span_count (remove_at place 1 (take h.rows table₀))) v) where
    pub out_lacks : (number needed : ℕ) → v ≡ Err (lack_of number needed) → (r : Step) → r ≡ refusal_of number needed none_counted h
        → RemovalSettled place b h table₀ table₀ files₀ files₀ pages₀ pages₀ marks₀ marks₀ output₀ output₀ spans₀ spans₀ r
    out_lacks number needed e r q = settles_lacks b h left none_counted none_needed out_sums refl number needed e j r q table₀ files₀ pages₀ marks₀ output₀ spans₀ i.sound

    module _ (w : Whole) (e : v ≡ Ok w) (bo : b.output < 2 ^ 32) (bs : b.spans < 2 ^ 32) {table : List Words} {files pages : List ℕ} {marks : List Words} (lp : length pages ≡ length pages₀) (lm : length marks ≡ length marks₀)
        (k : TakenOut place h.rows table₀ table files₀ files pages₀ pages marks₀ marks) where
      pub out_deliverable : Deliverable (h.rows - 1) table pages marks output₀ spans₀
      out_deliverable = deliverable b h left none_counted none_needed out_sums refl w (passing w e j) bo bs (h.rows - 1) table files pages marks k.sound k.rows_are output₀ spans₀ (stores_as files₀ files pages₀ pages marks₀ marks output₀ spans₀ lp lm i.lent)

      pub out_fits : {output : List ℕ} {spans : List Words} → Delivered (h.rows - 1) table pages marks output₀ output spans₀ spans → (r : Step) → r ≡ page_of w none_counted none_needed h (h.rows - 1)
          → RemovalSettled place b h table₀ table files₀ files pages₀ pages marks₀ marks output₀ output spans₀ spans r
      out_fits d r q = settles_fits b h left none_counted none_needed out_sums refl w (passing w e j) bo bs (h.rows - 1) table files pages marks k.sound k.rows_are (stores_as files₀ files pages₀ pages marks₀ marks output₀ spans₀ lp lm i.lent) d r q table₀ files₀ pages₀ marks₀

-- what goes of the sums
pub row_gone : (g : Words → ℕ) (table : List Words) (rows place : ℕ) → place < rows → rows ≤ length table → sum_of g (take rows table) ≡ g (get_or table place []) + sum_of g (remove_at place 1 (take rows table))
row_gone g table rows place h l =
    let e : get_or (take rows table) place [] ≡ get_or table place [] = get_or-take rows table place [] h in
    omega (arith, sum_remove g place (take rows table) (omega (arith, h, length-take-le rows table l)), ap g e)

-- ---- whatever the single call has answered

module _ {place : ℕ} {b : Bounds} {h : Head} {a : Rendered} {file row : List ℕ} {row_spans table₀ : List Words} {files₀ pages₀ : List ℕ} {marks₀ : List Words} {output₀ : List ℕ} {spans₀ : List Words} (i : Settling place b h a file row row_spans table₀ files₀ pages₀ marks₀ output₀ spans₀) where
  pub settling_in : (p : Paged) → a ≡ Ok p → Inserting place b h (row_page p.cost p.length p.spans) p.stats file row row_spans table₀ files₀ pages₀ marks₀ output₀ spans₀
  settling_in p e = record { room = i.room; there = i.page p.cost p.length p.spans p.stats p.needs e; no_fit_checks = subst (λ (x : Rendered). (counts_of x).fit_checks ≡ 0) e i.no_fit_checks }

  -- a refusal
  pub settled_refused : (d : Refusal) → a ≡ Err d → (r : Step) → r ≡ refusal_of d.number d.needed d.stats h
      → Settled place b h a file row row_spans table₀ table₀ files₀ files₀ pages₀ pages₀ marks₀ marks₀ output₀ output₀ spans₀ spans₀ r
  settled_refused d e r q = record {
    refused = λ x y z f. let s = same_refusal d x y z e f in (q ∙ ap (λ (w : Refusal). record { answer = Err w; head = h }) s, unaltered r q table₀ files₀ pages₀ marks₀, refl, refl);
    paged = λ c x m z w f. absurd (not_both d c x m z w e f);
  }
    where
      same_refusal : (d : Refusal) (x y : ℕ) (z : SolveStats) → a ≡ Err d → a ≡ Err (refusal_with x y z) → d ≡ refusal_with x y z
      same_refusal d x y z e f = cc

      not_both : (d : Refusal) (c : ConsumerCost) (x m : ℕ) (z : SolveStats) (w : Needs) → a ≡ Err d → a ≡ Ok (page_with c x m z w) → ⊥
      not_both d c x m z w e f = cc

  -- a page
  pub settled_paged : {table : List Words} {files pages : List ℕ} {marks : List Words} {output : List ℕ} {spans : List Words} (p : Paged) → a ≡ Ok p → {r : Step}
      → InsertionSettled place b h (row_page p.cost p.length p.spans) p.stats p.needs file row row_spans table₀ table files₀ files pages₀ pages marks₀ marks output₀ output spans₀ spans r
      → Settled place b h a file row row_spans table₀ table files₀ files pages₀ pages marks₀ marks output₀ output spans₀ spans r
  settled_paged {table} {files} {pages} {marks} {output} {spans} p e {r} s = record {
    refused = λ x y z f. absurd (not_both p x y z e f);
    paged = λ c n m k q f.
        subst (λ (o : Paged). InsertionSettled place b h (row_page o.cost o.length o.spans) o.stats o.needs file row row_spans table₀ table files₀ files pages₀ pages marks₀ marks output₀ output spans₀ spans r) (same_page p c n m k q e f) s;
  }
    where
      not_both : (p : Paged) (x y : ℕ) (z : SolveStats) → a ≡ Ok p → a ≡ Err (refusal_with x y z) → ⊥
      not_both p x y z e f = cc

      same_page : (p : Paged) (c : ConsumerCost) (n m : ℕ) (k : SolveStats) (q : Needs) → a ≡ Ok p → a ≡ Ok (page_with c n m k q) → p ≡ page_with c n m k q
      same_page p c n m k q e f = cc
