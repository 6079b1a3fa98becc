-- From the gate, the single call and what is settled to a step's answer.
use mathlib.Core.Path.{◌≡◌, refl, sym, ap, subst, ◌∙◌}
use mathlib.Core.List.{List, [], ◌∷◌, map}
use Prim.Native.Nat.{ℕ, zero, suc, ◌≤◌, ◌<◌, ◌^◌}
use native.Mathlib.Omega.{arith}
use lib.ListN.{length, get_or, take, length-map}
use lib.Seq.{length-take-le, get_or-take}
use Rattle.cost.specs.declared.ConsumerCost.{ConsumerCost}
use Rattle.layout.specs.Layout.{page}
use Rattle.layout.specs.Spans.{Span, spans}
use Rattle.layout.specs.SpanWords.{parent_of, span_of}
use Rattle.layout.specs.Report.{Inside, inside}
use Rattle.machine.specs.Events.{Counts, no_counts, output, spans as spans_kind}
use Rattle.machine.specs.Events.{Bounds as Limits}
use Rattle.machine.specs.Answer.{Answer, refused}
use Rattle.stats.specs.declared.SolveStats.{SolveStats}
use Rattle.stats.specs.Counts.{none_counted}
use Rattle.solve_workspace.specs.declared.Bounds.{Bounds}
use Rattle.solve_workspace.specs.declared.Needs.{Needs}
use Rattle.solve_workspace.specs.declared.RenderOptions.{RenderOptions}
use Rattle.solve_workspace.specs.Meets.{limits, tally}
use Rattle.answer.specs.Answer.{Answers}
use Rattle.answer.specs.Demand.{needs_page}
use Rattle.answer.specs.Page.{Promised, right_page}
use Rattle.std.specs.Prelude.{Ok, Err}
use Rattle.render.specs.declared.order.Lengths.{Lengths}
use Rattle.render.specs.Rendered.{Rendered, page_with, meant}
use Rattle.render.specs.Call.{Rendering, settings}
use Rattle.report.specs.Report.{Report, Step, insert, remove, rows_most}
use Rattle.report.specs.Answers.{Admitted, inserted, removed, Tested, too_dear, no_bytes, no_spans, fits, no_place, full, row_refused, tested}
use Rattle.report.specs.Memory.{Words, Sound}
use Rattle.report.specs.Exactly.{InBytes}
use Rattle.desks.specs.declared.Desks.{Desks}
use Rattle.desks.specs.Desks.{last_desk, remaining, at_most}
use Rattle.desks.specs.Lent.{within}
use Rattle.desks.specs.Served.{Served, out_of_order, no_desk}
use Rattle.desks.specs.Kinds.{step, step_spends}
use Rattle.desks.proofs.Calling.{order_within, answers_unit}
use Rattle.report_store.specs.Marks.{Narrow}
use Rattle.report_edit.specs.RowLaws.{rows_count}
use Rattle.report_gate.specs.declared.Head.{Head}
use Rattle.report_gate.specs.declared.Stores.{Stores}
use Rattle.report_gate.specs.Heads.{options, held}
use Rattle.report_gate.specs.Gates.{InsertionLent, RemovalLent, Gate, opens, order, desk, place, rows}
use Rattle.report_settle.specs.declared.Step.{Step as Told}
use Rattle.report_settle.specs.Verdicts.{refusal_of}
use Rattle.report_settle.specs.Settled.{stores, Stands, Unaltered, PageHeld, Room, row_page, Settled, Removing, RemovalSettled}
use Rattle.report_settle.proofs.Settling.{stands_refused, unaltered}
use Rattle.report_step.specs.declared.DeskStep.{DeskStep}
use Rattle.report_step.specs.Stepping.{with_desks, Stepping}
use Rattle.report_step.proofs.Steps.{free, steps, Past}

-- ---- how many rows there are

pub rows_held : (h : Head) (table : List Words) (files pages : List ℕ) (marks : List Words) {F P M : ℕ} → Sound h.rows table F P M → length (held h table files pages marks).rows ≡ h.rows
rows_held h table files pages marks g = rows_count (take h.rows table) files pages marks ∙ length-take-le h.rows table (omega (arith, g.rows_in, g.table_lent))

-- ---- the gate

pub opened : {lent there full : Type 0} {d g : ℕ} → g ≡ 0 → Gate lent d there full g → lent × (d ≤ last_desk) × there × (full → ⊥)
opened e (opens l h t f) = (l, h, t, f)
opened e (order n) = absurd (omega (arith, e))
opened e (desk l h) = absurd (omega (arith, e))
opened e (place l h n) = absurd (omega (arith, e))
opened e (rows l h t f) = absurd (omega (arith, e))

module _ {X : Report} {D : Desks} {d : ℕ} {b : Limits} {count : ℕ} where
  pub insert_shut : {lent : Type 0} {i : ℕ} {f : List ℕ} {g : ℕ} → (lent → length X.rows ≡ count) → (g ≡ 0 → ⊥) → Gate lent d (i ≤ count) (rows_most ≤ count) g → Served lent D d (step X (insert i f)) b X (refused g 0 no_counts) X D
  insert_shut n e (opens l h t f) = absurd (e refl)
  insert_shut n e (order m) = out_of_order m
  insert_shut n e (desk l h) = no_desk l h
  insert_shut {i = i} {f = x} n e (place l h m) = free refl l h (no_place {s = insert i x} tt (λ p. m (omega (arith, p, n l))))
  insert_shut {i = i} {f = x} n e (rows l h t f) = free refl l h (full {s = insert i x} tt (omega (arith, t, n l)) (omega (arith, f, n l)))

  pub remove_shut : {lent : Type 0} {i : ℕ} {g : ℕ} → (lent → length X.rows ≡ count) → (g ≡ 0 → ⊥) → Gate lent d (i < count) ⊥ g → Served lent D d (step X (remove i)) b X (refused g 0 no_counts) X D
  remove_shut n e (opens l h t f) = absurd (e refl)
  remove_shut n e (order m) = out_of_order m
  remove_shut n e (desk l h) = no_desk l h
  remove_shut {i = i} n e (place l h m) = free refl l h (no_place {s = remove i} tt (λ p. m (omega (arith, p, n l))))
  remove_shut n e (rows l h t f) = absurd f

-- a step that the gate refuses
module _ {s : Step} {lent : Type 0} {d : ℕ} {D : Desks} {b : Bounds} {h : Head} {table : List Words} {files pages : List ℕ} {marks : List Words} {output : List ℕ} {spans : List Words} where
  pub shut : {g : ℕ} {r : DeskStep} → InBytes s → r ≡ with_desks (refusal_of g 0 none_counted h) D
      → Served lent D d (step (held h table files pages marks) s) (limits b) (held h table files pages marks) (refused g 0 no_counts) (held h table files pages marks) D
      → Stepping s lent d D b h table table files files pages pages marks marks output output spans spans r
  shut {g} z e w = let t = refusal_of g 0 none_counted h in steps z e w (stands_refused t refl refl output spans) (λ n needed m q. unaltered t refl table files pages marks) (λ g. g)

-- ---- the single call

-- what 1 asks is asked of sizes alone
pub lent_within : (D : Desks) (d : ℕ) {b c : Bounds} {h : Head} {file : ℕ} {table : List Words} {k : Stores} {l : Lengths} → c ≡ within D d b → InsertionLent h b file table k l → InsertionLent h c file table k l
lent_within D d {h = h} {file = file} {table = table} {k = k} {l = l} e w = subst (λ (x : Bounds). InsertionLent h x file table k l) (sym e) (record {
  sound = w.sound;
  stores = record { pages = w.stores.pages; output = w.stores.output; marks = w.stores.marks; spans = w.stores.spans };
  files = w.files;
  call = order_within D d w.call;
})

-- a page's spans have their place in marks of 32 bits
word_in : (top n a b c w : ℕ) → Inside top n (record { annotation = a; start = b; end = c; parent = parent_of w } ∷ []) → w ≤ n
word_in top n a b c zero h = omega arith
word_in top n a b c (suc w) h = h.0.2

inside_at : (top n : ℕ) (l : List Words) → Inside top n (map span_of l) → (k : ℕ) → k < length l → (get_or (get_or l k []) 1 0 ≤ top) × (get_or (get_or l k []) 2 0 ≤ top) × (get_or (get_or l k []) 3 0 ≤ n)
inside_at top n [] h k j = absurd (omega arith)
inside_at top n (r ∷ l) h zero j = (h.0.0, h.0.1, word_in top n (get_or r 0 0) (get_or r 1 0) (get_or r 2 0) (get_or r 3 0) (h.0, tt))
inside_at top n (r ∷ l) h (suc k) j = inside_at top n l h.1 k (omega arith)

module _ {file : List ℕ} {o : RenderOptions} {b : Bounds} {l : Lengths} {out₀ out : List ℕ} {rows₀ rows : List Words} (bo : b.output < 2 ^ 32) (bs : b.spans < 2 ^ 32) (lo : length out ≡ length out₀) (lr : length rows ≡ length rows₀) where
  module _ {c : ConsumerCost} {n m : ℕ} {k : SolveStats} {q : Needs} (g : Rendering file o b l out₀ out rows₀ rows (Ok (page_with c n m k q))) where
    page_in : n ≤ length out
    page_in = omega (arith, lo, g.stands.output_is.within)

    spans_in : m ≤ length rows
    spans_in = omega (arith, lr, g.stands.rows_are.within)

    page_fits : n ≤ b.output
    page_fits = omega (arith, (needs_page g.answers).0, length-take-le n out page_in, g.needs_within _ _ refl output)

    spans_fit : m ≤ b.spans
    spans_fit = omega (arith, (needs_page g.answers).1, length-map (take m rows) span_of, length-take-le m rows spans_in, g.needs_within _ _ refl spans_kind)

    row_inside : Inside n m (map span_of (take m rows))
    row_inside = go g.promised
      where
        go : Promised file (settings o) (meant (Ok (page_with c n m k q)) out rows) → Inside n m (map span_of (take m rows))
        go (right_page p) =
            let x : length (page p.layout) ≡ n = ap length (sym p.bytes_are) ∙ length-take-le n out page_in in
            let y : length (spans p.layout) ≡ m = ap length (sym p.spans_are) ∙ length-map (take m rows) span_of ∙ length-take-le m rows spans_in in
            subst (λ (z : List Span). Inside n m z) (sym p.spans_are) (subst (λ (z : ℕ). Inside n z (spans p.layout)) y (subst (λ (z : ℕ). Inside z (length (spans p.layout)) (spans p.layout)) x (inside p.layout)))

    narrow : (i : ℕ) → i < m → Narrow (get_or rows i [])
    narrow i h =
        let e : get_or (take m rows) i [] ≡ get_or rows i [] = get_or-take m rows i [] h in
        let z = inside_at n m (take m rows) row_inside i (omega (arith, h, length-take-le m rows spans_in)) in
        let w = subst (λ (r : Words). (get_or r 1 0 ≤ n) × (get_or r 2 0 ≤ n) × (get_or r 3 0 ≤ m)) e z in
        record {
          annotation = (g.stands.fitting i h).0;
          start = omega (arith, w.0, page_fits, bo);
          end = omega (arith, w.1, page_fits, bo);
          parent = omega (arith, w.2, spans_fit, bs);
        }

    page_held : PageHeld b (row_page c n m) out rows
    page_held = record { page_in = page_in; spans_in = spans_in; page_fits = page_fits; spans_fit = spans_fit; small = record { row = narrow } }

  pub held_page : {a : Rendered} → Rendering file o b l out₀ out rows₀ rows a → (c : ConsumerCost) (n m : ℕ) (k : SolveStats) (q : Needs) → a ≡ Ok (page_with c n m k q) → PageHeld b (row_page c n m) out rows
  held_page g c n m k q e = page_held (subst (λ (x : Rendered). Rendering file o b l out₀ out rows₀ rows x) e g)

-- ---- the whole step

module _ (i : ℕ) (b : Bounds) (h : Head) (file : List ℕ) (table₀ : List Words) (files₀ pages₀ : List ℕ) (marks₀ : List Words) (output₀ : List ℕ) (spans₀ : List Words) (l : Lengths) where
  abbrev before : Report
  before = held h table₀ files₀ pages₀ marks₀

  module _ (w : InsertionLent h b (length file) table₀ (stores files₀ pages₀ marks₀ output₀ spans₀) l) (p : i ≤ h.rows) (n : rows_most ≤ h.rows → ⊥) where
    pub room_for : Room i b h file table₀ files₀ pages₀ marks₀ output₀ spans₀
    room_for = record { sound = w.sound; lent = w.stores; place_in = p; room = below h.rows n; files_room = w.files }
      where
        below : (x : ℕ) → (rows_most ≤ x → ⊥) → x < rows_most
        below x n = omega (arith, n)

    admitted : Admitted (Unit {0}) before (insert i file)
    admitted =
        let e = rows_held h table₀ files₀ pages₀ marks₀ w.sound in
        record { lent_enough = tt; place = omega (arith, p, e); room = λ f. n (omega (arith, f, e)) }

    module _ {row₀ row : List ℕ} {row_spans₀ row_spans : List Words} {table : List Words} {files pages : List ℕ} {marks : List Words} {output : List ℕ} {spans : List Words} where
      pub insertion_past : {a : Rendered} → Rendering file (options h) b l row₀ row row_spans₀ row_spans a → {t : Told}
          → Settled i b h a file row row_spans table₀ table files₀ files pages₀ pages marks₀ marks output₀ output spans₀ spans t
          → Past (insert i file) b h table₀ table files₀ files pages₀ pages marks₀ marks output₀ output spans₀ spans t
      insertion_past {a} g {t} q = go a refl
        where
          go : (x : Rendered) → a ≡ x → Past (insert i file) b h table₀ table files₀ files pages₀ pages marks₀ marks output₀ output spans₀ spans t
          go (Err o) e =
              let m : ℕ = o.number in
              let needed : ℕ = o.needed in
              let k : SolveStats = o.stats in
              let d = q.refused m needed k e in
              let y = subst (λ (x : Rendered). Rendering file (options h) b l row₀ row row_spans₀ row_spans x) e g in
              let u = d.1 in
              record {
                answers = told m needed k d.0 u (answers_unit w.call y.answers);
                stands = stand m needed k d.0 d.2 d.3 y.stands.no_fit_checks;
                kept = λ _ _ _ _. u;
                sound_kept = λ s. rw (u.head_is, u.table_is, u.files_are, u.pages_are, u.marks_are) s;
              }
            where
              told : (m needed : ℕ) (k : SolveStats) → t ≡ refusal_of m needed k h → Unaltered h table₀ table files₀ files pages₀ pages marks₀ marks t → Answers (Unit {0}) file (settings (options h)) (limits b) (refused m needed (tally k)) → step before (insert i file) (limits b) (meant t.answer output spans) (held t.head table files pages marks)
              told m needed k q u v =
                  subst (λ (x : Told). step before (insert i file) (limits b) (meant x.answer output spans) (held x.head table files pages marks)) (sym q)
                  (subst (λ (x : List Words). step before (insert i file) (limits b) (refused m needed (tally k)) (held h x files pages marks)) (sym u.table_is)
                  (subst (λ (x : List ℕ). step before (insert i file) (limits b) (refused m needed (tally k)) (held h table₀ x pages marks)) (sym u.files_are)
                  (subst (λ (x : List ℕ). step before (insert i file) (limits b) (refused m needed (tally k)) (held h table₀ files₀ x marks)) (sym u.pages_are)
                  (subst (λ (x : List Words). step before (insert i file) (limits b) (refused m needed (tally k)) (held h table₀ files₀ pages₀ x)) (sym u.marks_are)
                  (row_refused admitted v)))))

              stand : (m needed : ℕ) (k : SolveStats) → t ≡ refusal_of m needed k h → output ≡ output₀ → spans ≡ spans₀ → k.fit_checks ≡ 0 → Stands t.answer output₀ output spans₀ spans
              stand m needed k q x y c = subst (λ (o : List ℕ). Stands t.answer output₀ o spans₀ spans) (sym x) (subst (λ (o : List Words). Stands t.answer output₀ output₀ spans₀ o) (sym y) (stands_refused t q c output₀ spans₀))
          go (Ok o) e =
              let d = q.paged o.cost o.length o.spans o.stats o.needs e in
              let y = subst (λ (x : Rendered). Rendering file (options h) b l row₀ row row_spans₀ row_spans x) e g in
              record { answers = tested admitted (inserted (answers_unit w.call y.answers)) d.tested; stands = d.stands; kept = d.kept; sound_kept = λ _. d.sound }

-- ---- a removal

-- the whole page is tested under sizes alone
tested_within : {X Y Z : Report} {b : Limits} {k : Counts} {a : Answer} (n : ℕ) → Tested X b k Y a Z → Tested X (at_most n b) k Y a Z
tested_within n (too_dear x) = too_dear x
tested_within n (no_bytes x y) = no_bytes x y
tested_within n (no_spans x y z) = no_spans x y z
tested_within n (fits x y z) = fits x y z

module _ (i : ℕ) (b : Bounds) (h : Head) (table₀ : List Words) (files₀ pages₀ : List ℕ) (marks₀ : List Words) (output₀ : List ℕ) (spans₀ : List Words) (w : RemovalLent h b table₀ (stores files₀ pages₀ marks₀ output₀ spans₀)) (p : i < h.rows) where
  pub removing : Removing i b h table₀ files₀ pages₀ marks₀ output₀ spans₀
  removing = record { sound = w.sound; lent = w.stores; place_in = p }

  -- it needs no work, so none need be allowed
  pub removal_steps : {d : ℕ} {D : Desks} → d ≤ last_desk → {table : List Words} {files pages : List ℕ} {marks : List Words} {output : List ℕ} {spans : List Words} {t : Told}
      → RemovalSettled i b h table₀ table files₀ files pages₀ pages marks₀ marks output₀ output spans₀ spans t → {r : DeskStep} → r ≡ with_desks t D
      → Stepping (remove i) (RemovalLent h b table₀ (stores files₀ pages₀ marks₀ output₀ spans₀)) d D b h table₀ table files₀ files pages₀ pages marks₀ marks output₀ output spans₀ spans r
  removal_steps {d} {D} c {table} {files} {pages} {marks} {output} {spans} {t} q e = steps tt e (free (omega (arith, step_spends (under 0))) w c (under (remaining D d))) q.stands q.kept (λ _. q.sound)
    where
      under : (n : ℕ) → step (held h table₀ files₀ pages₀ marks₀) (remove i) (at_most n (limits b)) (meant t.answer output spans) (held t.head table files pages marks)
      under n =
          let e = rows_held h table₀ files₀ pages₀ marks₀ w.sound in
          tested {s = remove i} (record { lent_enough = tt; place = omega (arith, p, e); room = λ f. f }) removed (tested_within n q.tested)

-- the single call, under the report's setting
pub with_options : {file : List ℕ} {o : RenderOptions} (h : Head) {b : Bounds} {l : Lengths} {out₀ out : List ℕ} {marks₀ marks : List Words} {a : Rendered} → o ≡ options h → Rendering file o b l out₀ out marks₀ marks a → Rendering file (options h) b l out₀ out marks₀ marks a
with_options {file} h {b = b} {l = l} {out₀ = out₀} {out = out} {marks₀ = marks₀} {marks = marks} {a = a} e g = subst (λ (x : RenderOptions). Rendering file x b l out₀ out marks₀ marks a) e g
