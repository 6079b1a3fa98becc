-- From the first half's promise and the second half's to the whole call's.
use Rattle.std.specs.Prelude.{Ok, Err, Option as Optional, Some as Inside, None as Outside}
use mathlib.Core.Path.{◌≡◌, refl, sym, ◌∙◌, ap, ap₂, subst}
use mathlib.Core.List.{List, [], ◌∷◌, ◌++◌, map}
use Prim.Native.Nat.{ℕ, zero, suc, ◌≤◌}
use native.Mathlib.Omega.{arith}
use lib.ListN.{length, take, drop, get_or, length-map}
use Rattle.layout.specs.Spans.{Span}
use Rattle.spans.specs.declared.AnnotationSpan.{AnnotationSpan}
use Rattle.spans.specs.declared.SpanId.{SpanId}
use Rattle.spans.specs.Spans.{parent_from}
use Rattle.solve_workspace.specs.declared.Bounds.{Bounds}
use Rattle.solve_workspace.specs.declared.RenderOptions.{RenderOptions}
use Rattle.materialize.specs.Rows.{Row, parent_word}
use Rattle.render.specs.declared.order.Lengths.{Lengths}
use Rattle.render.specs.Rendered.{Rendered, parent_of, span_of, Front}
use Rattle.render.specs.Drafts.{Drafted, page_of}
use Rattle.render.specs.Call.{settings}
use Rattle.desks.specs.declared.Desks.{Desks}
use Rattle.desks.specs.declared.SharedRecord.{SharedRecord}
use Rattle.desks.specs.Desks.{remaining}
use Rattle.desks.specs.Lent.{settled}
use Rattle.desks.specs.Layer.{work_left}
use Rattle.desks.specs.Kinds.{single_steady}
use Rattle.desks.specs.Calls.{DeskRendering, DeskDrafting}
use Rattle.printer.specs.Printed.{Outcome, Printed}
use Rattle.records.specs.Records.{parent_in, span_in, row_in, rows_in}
use Rattle.printer.specs.Delivered.{outcome, counts_first, counts_last, WroteOf, DeliverableOf, Deliverable, Delivered}

-- ---- a record, as a row and back

abbrev record_of : Row → AnnotationSpan
record_of r = record { annotation = record { 0 = get_or r 0 0 }; start = get_or r 1 0; end = get_or r 2 0; parent = parent_from (get_or r 3 0) }

parent_there : (p : Optional SpanId) → parent_of (parent_word (parent_in p)) ≡ parent_in p
parent_there Outside = refl
parent_there (Inside s) = refl

parent_back : (p : Optional SpanId) → parent_from (parent_word (parent_in p)) ≡ p
unfolding parent_from
parent_back Outside = refl
parent_back (Inside s) = refl

span_there : (s : AnnotationSpan) → span_of (row_in s) ≡ span_in s
span_there s = rw (parent_there s.parent) refl

span_back : (s : AnnotationSpan) → record_of (row_in s) ≡ s
span_back s = rw (parent_back s.parent) refl

spans_there : (m : ℕ) (l : List AnnotationSpan) → map span_of (take m (rows_in l)) ≡ map span_in (take m l)
spans_there zero l = refl
spans_there (suc m) [] = refl
spans_there (suc m) (s ∷ l) = ap₂ (λ (x : Span) (t : List Span). x ∷ t) (span_there s) (spans_there m l)

spans_back : (l : List AnnotationSpan) → map record_of (rows_in l) ≡ l
spans_back [] = refl
spans_back (s ∷ l) = ap₂ (λ (x : AnnotationSpan) (t : List AnnotationSpan). x ∷ t) (span_back s) (spans_back l)

both_back : (k l : List Row) → map record_of (k ++ l) ≡ map record_of k ++ map record_of l
both_back [] l = refl
both_back (r ∷ k) l = ap (λ (t : List AnnotationSpan). record_of r ∷ t) (both_back k l)

taken_back : (n : ℕ) (l : List AnnotationSpan) → map record_of (take n (rows_in l)) ≡ take n l
taken_back zero l = refl
taken_back (suc n) [] = refl
taken_back (suc n) (s ∷ l) = ap₂ (λ (x : AnnotationSpan) (t : List AnnotationSpan). x ∷ t) (span_back s) (taken_back n l)

dropped_back : (n : ℕ) (l : List AnnotationSpan) → map record_of (drop n (rows_in l)) ≡ drop n l
dropped_back zero l = spans_back l
dropped_back (suc n) [] = refl
dropped_back (suc n) (s ∷ l) = dropped_back n l

front_back : {n : ℕ} {k l : List AnnotationSpan} → Front n (rows_in l) (rows_in k) → Front n l k
front_back {n} {k} {l} f = record {
  within = subst (λ (j : ℕ). n ≤ j) (length-map l row_in) f.within;
  past = sym (spans_back k) ∙ ap (map record_of) f.past ∙ both_back (take n (rows_in k)) (drop n (rows_in l)) ∙ ap₂ (λ (x y : List AnnotationSpan). x ++ y) (taken_back n k) (dropped_back n l);
}

-- ---- a call

-- the answer of what is drafted, once it is written
abbrev answer_in : Drafted → Rendered
answer_in (Ok d) = page_of d
answer_in (Err e) = Err e

rendering : {n : ℕ} {D : Desks} {file : List ℕ} {o : RenderOptions} {b : Bounds} {l : Lengths} {plans texts : List Row} {bytes output₀ output : List ℕ} (spans₀ spans : List AnnotationSpan) (r : Drafted) → DeskDrafting n D file o b l plans texts bytes r
    → length output ≡ length output₀ → length spans ≡ length spans₀ → WroteOf plans texts bytes output₀ output spans₀ spans r → DeskRendering n D file o b l output₀ output (rows_in spans₀) (rows_in spans) (answer_in r)
rendering {output₀ = output₀} {output = output} spans₀ spans (Ok d) x e f y = x.half.by.1.by output₀ output (rows_in spans₀) (rows_in spans) e (length-map spans row_in ∙ f ∙ sym (length-map spans₀ row_in)) y
rendering {output₀ = output₀} spans₀ spans (Err z) x e f y = rw (y.0, y.1) (x.half.by output₀ (rows_in spans₀))

-- its work is no more than the desk may do
spends : {n : ℕ} {D : Desks} {file : List ℕ} {o : RenderOptions} {b : Bounds} {l : Lengths} {output₀ output : List ℕ} {rows₀ rows : List Row} (r : Drafted) → DeskRendering n D file o b l output₀ output rows₀ rows (answer_in r) → (counts_first r).work_items ≤ remaining D n
spends {file = file} {o = o} (Ok d) R = work_left (single_steady file (settings o)) R.right.serving.answers
spends {file = file} {o = o} (Err e) R = work_left (single_steady file (settings o)) R.right.serving.answers

module _ {n : ℕ} {before : SharedRecord} {file : List ℕ} {o : RenderOptions} {b : Bounds} {l : Lengths} {plans texts : List Row} {bytes : List ℕ} where
  -- what `finish` asks
  pub deliverable : (r : Drafted) {visit depth output : List ℕ} {spans : List AnnotationSpan} → DeskDrafting n before.desks file o b l plans texts bytes r
      → l.visit ≡ length visit → l.depth ≡ length depth → l.output ≡ length output → l.spans ≡ length spans → Deliverable n before b r plans texts bytes visit depth output spans
  deliverable r {visit} {depth} {output} {spans} x v h w c = record { by = writes r x; work_left = λ output' spans' e f y. spends r (rendering spans spans' r x e f y) }
    where
      writes : (t : Drafted) → DeskDrafting n before.desks file o b l plans texts bytes t → DeliverableOf b plans texts bytes visit depth output spans t
      writes (Ok d) y =
          let p = y.lent d refl in (
            y.half.by.0,
            record {
              small = y.half.by.0.small;
              visit_lent = omega (arith, p.visit, v);
              depth_lent = omega (arith, p.depth, h);
              output_lent = omega (arith, p.output, w);
              spans_lent = omega (arith, p.spans, c, length-map spans row_in);
            },
          )
      writes (Err e) y = tt

  -- the whole call's promise
  pub printed : {output₀ output : List ℕ} {spans₀ spans : List AnnotationSpan} {after : SharedRecord} {z : Outcome} (r : Drafted) → DeskDrafting n before.desks file o b l plans texts bytes r
      → length output ≡ length output₀ → length spans ≡ length spans₀ → Delivered n before r plans texts bytes output₀ output spans₀ spans after z
      → Printed n before file o b l output₀ output spans₀ spans after z
  printed {output₀} {output} {spans₀} {spans} {after} {z} r x e f y =
      subst (λ (u : SharedRecord). Printed n before file o b l output₀ output spans₀ spans u z) (sym y.record_is)
      (subst (λ (u : Outcome). Printed n before file o b l output₀ output spans₀ spans (settled before n (counts_last r)) u) (sym y.outcome_is) (of r (rendering spans₀ spans r x e f y.wrote)))
    where
      of : (t : Drafted) → DeskRendering n before.desks file o b l output₀ output (rows_in spans₀) (rows_in spans) (answer_in t) → Printed n before file o b l output₀ output spans₀ spans (settled before n (counts_last t)) (outcome t)
      of (Ok d) R = record {
        right = rw (← spans_there d.spans spans) R.right;
        output_is = R.stands.output_is;
        spans_are = front_back R.stands.rows_are;
        no_fit_checks = refl;
      }
      of (Err e) R = record {
        right = R.right;
        output_is = R.stands.output_is;
        spans_are = front_back R.stands.rows_are;
        no_fit_checks = R.stands.no_fit_checks;
      }
