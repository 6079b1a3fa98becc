-- Laws for the page of the chosen plan.
use Rattle.std.specs.Prelude.{Ok, Err}
use mathlib.Core.Path.{◌≡◌, refl, sym, ap, ap₂, ◌∙◌, subst}
use mathlib.Core.Option.{Option, none, some}
use mathlib.Core.List.{List, [], ◌∷◌, ◌++◌, map}
use Prim.Native.Nat.{ℕ, ◌≤◌, ◌<◌, max}
use native.Mathlib.Omega.{arith}
use lib.ListN.{length, take, drop, get_or, length-append, length-drop, length-map, get_or-append}
use lib.Seq.{take-append_seam, take-length}
use Rattle.cost.specs.Value.{value}
use Rattle.layout.specs.Layout.{Plan, page}
use Rattle.layout.specs.Spans.{Span, spans}
use Rattle.machine.specs.Events.{Bounds as Limits, Counts, Kind, stack, memo, kept, frontier, plans, visit, depth, output, size, counted, with_needs, number, Prog, ret, emit, ◌>>◌, Out, done, run}
use Rattle.machine.specs.Events.{spans as spans_size}
use Rattle.machine.specs.Programs.{and_then, run_bind, done_passes}
use Rattle.machine.specs.Programs.{Passes as Passing}
use Rattle.machine.specs.Enough.{asked, peak}
use Rattle.machine.specs.Just.{bare_out, needs_after, needless, stops_with}
use Rattle.machine.proofs.Just.{ends_with}
use Rattle.machine.specs.PageNeeds.{no_stack, no_memo, no_kept, no_frontier, no_plans, output_need, spans_need}
use Rattle.machine.specs.Materializer.{Rendered as Sheet, marks, materialize, rendered}
use Rattle.machine.specs.Answer.{answer_of}
use Rattle.solve_workspace.specs.declared.Bounds.{Bounds}
use Rattle.solve_workspace.specs.Meets.{limits, tally, needs_told}
use Rattle.solve_workspace.specs.Rows.{low}
use Rattle.solve_workspace.specs.Words.{low_is}
use Rattle.materialize.specs.Rows.{Row, row_of, parent_word, span_rows, Fits}
use Rattle.materialize.specs.Texts.{layout, InBytes, Planned}
use Rattle.materialize.specs.Answer.{Measured, measured_with, passed_with, why_of, with_visits, told, over, Small, Lent}
use Rattle.materialize.specs.Walks.{ran, plan, Answered}
use Rattle.materialize.specs.Writes.{Passes}
use Rattle.materialize.proofs.Moves.{spans_length}
use Rattle.materialize.specs.declared.Capacity.{Capacity}
use Rattle.materialize.specs.declared.Exhausted.{Exhausted}
use Rattle.solve.specs.declared.SolvedCore.{SolvedCore}
use Rattle.solve.specs.Outcome.{solver_needs, Arranged}
use Rattle.render.specs.Rendered.{page_with, refusal_with, parent_of, span_of, Front, with_counts}
use Rattle.render.specs.Drafts.{Drafted, capacity, Promise, Pledged, Half, page_needs, drafted, Paged}
use Rattle.render.proofs.Halves.{cut_planned, cut_plan}

-- ---- spans are read back from their rows

parent_back : (o : Option ℕ) → parent_of (parent_word o) ≡ o
parent_back none = refl
parent_back (some k) = refl

abbrev with_parent : Span → Option ℕ → Span
with_parent s o = record { annotation = s.annotation; start = s.start; end = s.end; parent = o }

span_back : (s : Span) → span_of (row_of s) ≡ s
span_back s = ap (λ (o : Option ℕ). with_parent s o) (parent_back s.parent)

spans_back : (l : List Span) → map span_of (map row_of l) ≡ l
spans_back [] = refl
spans_back (s ∷ l) = ap₂ (λ (x : Span) (y : List Span). x ∷ y) (span_back s) (spans_back l)

-- ---- what lies over the front

module _ {A : Type 0} (n : ℕ) (xs was is : List A) (e : n ≡ length xs) (f : is ≡ over xs was) where
  pub taken : take n is ≡ xs
  taken = ap₂ (λ (k : ℕ) (l : List A). take k l) e f ∙ take-append_seam xs (drop (length xs) was)

  pub front : length is ≡ length was → Front n was is
  front s = record {
    within = let g : length is ≡ length (over xs was) = ap length f in omega (arith, e, g, s, length-append xs (drop (length xs) was), length-drop (length xs) was);
    past = f ∙ ap₂ (λ (x y : List A). x ++ y) (sym taken) (ap (λ (k : ℕ). drop k was) (sym e));
  }

pub unaltered : {A : Type 0} (was is : List A) → is ≡ was → Front 0 was is
unaltered was is e = record { within = omega arith; past = e }

-- ---- the materializer

pub lent_at : (b : Bounds) (q : Capacity) {st he ou : List ℕ} {ro : List Row} → q ≡ capacity b → Lent (capacity b) st he ou ro → Lent q st he ou ro
lent_at b q {st} {he} {ou} {ro} e h = subst (λ (x : Capacity). Lent x st he ou ro) (sym e) h

pub visit_at : (b : Bounds) (q : Capacity) {n : ℕ} → q ≡ capacity b → b.visit ≤ n → q.visit ≤ n
visit_at b q e h = let g : q.visit ≡ b.visit = ap (λ (x : Capacity). x.visit) e in omega (arith, g, h)

pub passes_at : (b : Bounds) (q : Capacity) {p : Plan} → q ≡ capacity b → Passes (capacity b) p → Passes q p
passes_at b q {p} e h = subst (λ (x : Capacity). Passes x p) (sym e) h

-- what passes every test needs no more than there is
passes_sizes : {A : Type 0} (b : Limits) (k : Counts) (m : Prog A) → Passing b k m → (x : Kind) → peak x m ≤ size b x
unfolding peak
passes_sizes b k (ret a) h x = omega arith
passes_sizes b k (emit e m) h x = omega (arith, asked b k e x h.0, passes_sizes b (counted k e) m h.1 x)

module _ (b : Bounds) (c : SolvedCore) (z : c.stats.visits ≡ 0) (p : Plan) where
  abbrev sheet : Sheet
  sheet = rendered p (value c.cost)

  -- the solver's counts, and what it needed
  abbrev start : Counts
  start = with_needs (tally c.stats) (solver_needs c.needs)

  -- what the first pass comes to, the machine comes to, needs apart
  ended : (m : Measured) → Answered (capacity b) p m → bare_out (run (limits b) start (materialize p)) ≡ told start m
  unfolding ran
  ended m h =
      needless (limits b) (with_visits start c.stats.visits) start.needs (materialize p)
      ∙ (ap (λ (v : ℕ). bare_out (run (limits b) (with_visits start v) (materialize p))) z ∙ sym (h.answer (record { bounds = limits b; counts = start })))

  answered : (o : Out (Unit {0})) → run (limits b) start (materialize p) ≡ o → answer_of (and_then (limits b) o (λ _. ret sheet)) ≡ answer_of (run (limits b) start (materialize p >> ret sheet))
  answered o e = ap answer_of (ap (λ (x : Out (Unit {0})). and_then (limits b) x (λ _. ret sheet)) (sym e) ∙ sym (run_bind (limits b) start (materialize p) (λ _. ret sheet)))

  -- a size or a limit that is passed
  lacking : (e : Exhausted) (needed v : ℕ) → Answered (capacity b) p (Err (passed_with e needed v)) → (out : List ℕ) (rows : List Row) → Paged b c p out out rows rows (Err (refusal_with (number (why_of e)) needed (with_counts c.stats v)))
  lacking e needed v h out rows = record {
    is = answered _ (stops_with (limits b) start (materialize p) (why_of e) needed (with_visits start v) (ended (Err (passed_with e needed v)) h));
    stands = record { output_is = unaltered out out refl; rows_are = unaltered rows rows refl; fitting = λ j k. absurd (omega (arith, k)); no_fit_checks = refl };
  }

  -- ---- a page: what it needs

  module _ (n k v x y : ℕ) (h : Answered (capacity b) p (Ok (measured_with n k v x y))) (w : Small (capacity b)) where
    whole_run : run (limits b) start (materialize p) ≡ done (with_needs (with_visits start v) (needs_after start.needs (materialize p))) tt
    whole_run = ends_with (limits b) start (with_visits start v) (materialize p) tt (ended (Ok (measured_with n k v x y)) h)

    most : (i : Kind) → peak i (materialize p) ≤ size (limits b) i
    most = passes_sizes (limits b) start (materialize p) (done_passes (limits b) start (materialize p) whole_run)

    marked : k ≡ marks p
    marked = h.sized.1 ∙ spans_length p 0 none 0

    needs_are : needs_after start.needs (materialize p) ≡ needs_told (page_needs c.needs n k x y)
    needs_are =
        let q = c.needs in
        let e1 : max q.stack (peak stack (materialize p)) ≡ q.stack = omega (arith, no_stack p) in
        let e2 : max q.memo (peak memo (materialize p)) ≡ q.memo = omega (arith, no_memo p) in
        let e3 : max q.kept (peak kept (materialize p)) ≡ q.kept = omega (arith, no_kept p) in
        let e4 : max q.frontier (peak frontier (materialize p)) ≡ q.frontier = omega (arith, no_frontier p) in
        let e5 : max q.plans (peak plans (materialize p)) ≡ q.plans = omega (arith, no_plans p) in
        let e6 : max 0 (peak visit (materialize p)) ≡ x = omega (arith, h.needing.0) in
        let e7 : max 0 (peak depth (materialize p)) ≡ y = omega (arith, h.needing.1) in
        let e8 : max 0 (peak output (materialize p)) ≡ n = omega (arith, output_need p, h.sized.0) in
        let e9 : max 0 (peak spans_size (materialize p)) ≡ k = omega (arith, spans_need p, marked) in
        let l6 : low x ≡ x = low_is x (omega (arith, most visit, h.needing.0, w.visit_fits)) in
        let l7 : low y ≡ y = low_is y (omega (arith, most depth, h.needing.1, w.depth_fits)) in
        let l8 : low n ≡ n = low_is n (omega (arith, most output, output_need p, h.sized.0, w.output_fits)) in
        let l9 : low k ≡ k = low_is k (omega (arith, most spans_size, spans_need p, marked, w.spans_fits)) in
        rw (e1, e2, e3, e4, e5, e6, e7, e8, e9, l6, l7, l8, l9)

    -- a page, once it is written
    fitting : Pledged (Paged b c p) p (Ok (page_with c.cost n k (with_counts c.stats v) (page_needs c.needs n k x y)))
    fitting = record {
      by = λ out₀ out rows₀ rows lo lr w.
          let ke : k ≡ length (span_rows p) = h.sized.1 ∙ sym (length-map (spans p) row_of) in
          let t : take n out ≡ page p = taken n (page p) out₀ out h.sized.0 w.output_is in
          let u : map span_of (take k rows) ≡ spans p = ap (λ (l : List Row). map span_of l) (taken k (span_rows p) rows₀ rows ke w.spans_is) ∙ spans_back (spans p) in
          record {
            is = rw (t, u, ← needs_are) (answered _ whole_run);
            stands = record {
              output_is = front n (page p) out₀ out h.sized.0 w.output_is lo;
              rows_are = front k (span_rows p) rows₀ rows ke w.spans_is lr;
              fitting = λ j i.
                  let g : j < length (span_rows p) = omega (arith, i, ke) in
                  let f : get_or rows j [] ≡ get_or (span_rows p) j [] = ap (λ (l : List Row). get_or l j []) w.spans_is ∙ get_or-append (span_rows p) (drop (length (span_rows p)) rows₀) [] j g in
                  subst (λ (r : Row). Fits r) (sym f) (w.fits j g);
              no_fit_checks = refl;
            };
          };
    }

-- ---- what is chosen, once it is measured

module _ (b : Bounds) (c : SolvedCore) (P X : List Row) (B : List ℕ) (a : Arranged (length X) c P) (i : InBytes X B) (z : c.stats.visits ≡ 0) where
  abbrev root : ℕ
  root = c.root.0

  abbrev goal : Promise
  goal = Paged b c (layout P c.plans X B root)

  abbrev cut : Plan
  cut = plan (take c.plans P) X B root

  arranged : Planned P c.plans X root
  arranged = record { lent = a.lent; few = a.few; ranked = a.ranked; rooted = a.rooted }

  goal_is : cut ≡ layout P c.plans X B root
  goal_is = cut_plan P c.plans X root arranged B

  pub planned : Planned (take c.plans P) (length (take c.plans P)) X root
  planned = cut_planned P c.plans X root arranged

  -- all texts and all bytes
  whole : (K : List Row → List ℕ → Type 0) → K X B → K (take (length X) X) (take (length B) B)
  whole K k = subst (λ (l : List ℕ). K (take (length X) X) l) (sym (take-length B)) (subst (λ (l : List Row). K l B) (sym (take-length X)) k)

  half_of : Small (capacity b) → (m : Measured) → Answered (capacity b) cut m → Half goal b P X B (drafted c (length X) (length B) m)
  half_of small (Err e) h = record {
    by = λ out rows. subst (λ (p : Plan). Paged b c p out out rows rows (Err (refusal_with (number (why_of e.what)) e.needed (with_counts c.stats e.visits)))) goal_is (lacking b c z cut e.what e.needed e.visits h out rows);
  }
  half_of small (Ok m) h = record {
    by = (
      record {
        plans_in = a.lent;
        texts_in = omega arith;
        bytes_in = omega arith;
        planned = whole (λ (X : List Row) (B : List ℕ). Planned (take c.plans P) (length (take c.plans P)) X root) planned;
        inside = whole (λ (X : List Row) (B : List ℕ). InBytes X B) i;
        small = small;
        highest = m.visit;
        deepest = m.depth;
        measured = whole (λ (X : List Row) (B : List ℕ). Answered (capacity b) (plan (take c.plans P) X B root) (Ok m)) h;
        unvisited = refl;
        no_fit_checks = refl;
      },
      whole (λ (X : List Row) (B : List ℕ). Pledged goal (plan (take c.plans P) X B root) (Ok (page_with c.cost m.bytes m.spans (with_counts c.stats m.visits) (page_needs c.needs m.bytes m.spans m.visit m.depth))))
          (subst (λ (p : Plan). Pledged (Paged b c p) cut (Ok (page_with c.cost m.bytes m.spans (with_counts c.stats m.visits) (page_needs c.needs m.bytes m.spans m.visit m.depth)))) goal_is (fitting b c z cut m.bytes m.spans m.visits m.visit m.depth h small)),
    );
  }

  pub page_half : (q : Capacity) → q ≡ capacity b → Small q → (m : Measured) → ((bytes : List ℕ) → InBytes X bytes → Answered q (plan (take c.plans P) X bytes root) m)
      → (r : Drafted) → r ≡ drafted c (length X) (length B) m → Half goal b P X B r
  page_half q e small m h r f =
      subst (λ (x : Drafted). Half goal b P X B x) (sym f)
      (half_of (subst Small e small) m (subst (λ (x : Capacity). Answered x cut m) e (h B i)))
