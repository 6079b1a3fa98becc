-- Each kind of item keeps what the visit stack will come to.
use mathlib.Core.Path.{◌≡◌, refl, sym, ap, ap₂, subst, ◌∙◌}
use mathlib.Core.Option.{Option, some}
use mathlib.Core.List.{List, [], ◌∷◌, ◌++◌, map, append-nil, append_assoc}
use Prim.Native.Nat.{ℕ, suc, ◌+◌, ◌-◌, ◌≤◌, ◌<◌, max}
use native.Mathlib.Omega.{arith}
use native.Mathlib.Nat.{add-zero}
use lib.ListN.{length, length-append, length-replicate, length-map, set, take, drop, replicate}
use lib.Seq.{set-append_seam, get_or-append_seam}
use Rattle.file_tables.specs.declared.AnnotationId.{AnnotationId}
use Rattle.layout.specs.Document.{Word}
use Rattle.layout.specs.Layout.{Plan, blank, put, line, join, mark, fee, page}
use Rattle.layout.specs.Spans.{Span, spans_from}
use Rattle.machine.specs.Events.{Kind, visit, depth, output, spans, Need, ◌>>◌}
use Rattle.machine.specs.Materializer.{marks, append_each}
use Rattle.machine.specs.Enough.{asks, peak}
use Rattle.machine.specs.PageNeeds.{peak_then, each_none}
use Rattle.materialize.specs.declared.Capacity.{Capacity}
use Rattle.materialize.specs.declared.Walk.{Walk}
use Rattle.materialize.specs.declared.Act.TheVariants.{Pass, Put, Line, Open, Close}
use Rattle.materialize.specs.Rows.{Row, row_of}
use Rattle.materialize.specs.Walks.{Around, ran, Work, Lay, Exit, pages, ends, close, innermost, span_row, opened, rows, Moved}
use Rattle.materialize.proofs.Runs.{Program, plan_blank, plan_put, plan_line, plan_join, plan_mark, plan_fee, visit_go, need_go, each_go}

pub spans_length : (p : Plan) (at : ℕ) (up : Option ℕ) (n : ℕ) → length (spans_from p at up n) ≡ marks p
spans_length blank at up n = refl
spans_length (put t) at up n = refl
spans_length (line i) at up n = refl
spans_length (join p q) at up n =
    let m = n + length (spans_from p at up n) in
    length-append (spans_from p at up n) (spans_from q (at + length (page p)) up m)
    ∙ ap₂ ◌+◌ (spans_length p at up n) (spans_length q (at + length (page p)) up m)
spans_length (mark k p) at up n = ap suc (spans_length p at (some n) (suc n))
spans_length (fee a p) at up n = spans_length p at up n

map_join : (l m : List Span) → map row_of (l ++ m) ≡ map row_of l ++ map row_of m
map_join [] m = refl
map_join (x ∷ l) m = ap (λ (r : List Row). row_of x ∷ r) (map_join l m)

join_spans : (p q : Plan) (at : ℕ) (u : Option ℕ) (s : List Row)
    → s ++ map row_of (spans_from (join p q) at u (length s))
    ≡ (s ++ map row_of (spans_from p at u (length s)))
    ++ map row_of (spans_from q (at + length (page p)) u (length (s ++ map row_of (spans_from p at u (length s)))))
join_spans p q at u s =
    let A = spans_from p at u (length s) in
    let S = map row_of A in
    let e : length (s ++ S) ≡ length s + length A = length-append s S ∙ ap (λ (z : ℕ). length s + z) (length-map A row_of) in
    ap (λ (r : List Row). s ++ r) (map_join A (spans_from q (at + length (page p)) u (length s + length A)))
    ∙ (ap (λ (m : ℕ). s ++ (S ++ map row_of (spans_from q (at + length (page p)) u m))) (sym e)
    ∙ sym (append_assoc s S (map row_of (spans_from q (at + length (page p)) u (length (s ++ S))))))

close_at : (s : List Row) (x : Row) (r : List Row) (e : ℕ) → close (s ++ (x ∷ r)) (length s) e ≡ s ++ (set x 2 e ∷ r)
close_at s x r e = rw (get_or-append_seam s x r [], set-append_seam s x r (set x 2 e))

mark_spans : (k : ℕ) (p : Plan) (at : ℕ) (u : Option ℕ) (e n : ℕ) (s : List Row) → length s ≡ n
    → s ++ (span_row k at e u ∷ map row_of (spans_from p at (some (length s)) (suc (length s))))
    ≡ close ((s ++ (span_row k at at u ∷ [])) ++ map row_of (spans_from p at (some n) (length (s ++ (span_row k at at u ∷ []))))) n e
mark_spans k p at u e n s q =
    let x : Row = span_row k at at u in
    let l : length (s ++ (x ∷ [])) ≡ suc (length s) = omega (arith, length-append s (x ∷ [])) in
    let S = map row_of (spans_from p at (some (length s)) (suc (length s))) in
    subst (λ (m : ℕ). s ++ (span_row k at e u ∷ S) ≡ close ((s ++ (x ∷ [])) ++ map row_of (spans_from p at (some m) (length (s ++ (x ∷ []))))) m e) q
    (sym (ap (λ (m : ℕ). close ((s ++ (x ∷ [])) ++ map row_of (spans_from p at (some (length s)) m)) (length s) e) l
    ∙ (ap (λ (r : List Row). close r (length s) e) (append_assoc s (x ∷ []) S)
    ∙ close_at s x S e)))

abbrev pub step : Walk → ℕ → Walk
step w t = record { top = t; depth = w.depth; at = w.at; spans = w.spans; visits = w.visits + 1 }

-- what is needed of visit stack and open spans by a byte string, tested one by one: nothing
quiet : (x : Kind) → ((n : ℕ) → asks x (Need output n) ≡ 0) → (at n : ℕ) (r : Program) → peak x (append_each at n >> r) ≡ peak x r
quiet x h at n r = omega (arith, peak_then x (append_each at n) r, each_none x h at n)

-- the events of a mark ask nothing of these but where they name them
mark_high : (a l x : ℕ) → a ≡ suc l → max a (max 0 (max 0 (max 0 (max (l + 1) (max (l + 2) x))))) ≡ max (max a (l + 2)) x
mark_high a l x u = ap (λ (n : ℕ). max a n) (none (max (l + 1) (max (l + 2) x))) ∙ omega (arith, u)
  where
    none : (y : ℕ) → max 0 (max 0 (max 0 y)) ≡ y
    none y = omega arith

mark_deep : (d x : ℕ) → max d (max 0 (max 0 (max (d + 1) (max 0 (max 0 x))))) ≡ max (max d (d + 1)) x
mark_deep d x = ap (λ (n : ℕ). max d (max 0 (max 0 (max (d + 1) n)))) (none x) ∙ (ap (λ (n : ℕ). max d n) (none (max (d + 1) x)) ∙ omega arith)
  where
    none : (y : ℕ) → max 0 (max 0 y) ≡ y
    none y = omega arith

module _ (c : Capacity) (o : Around) (bytes : List ℕ) (W : List Work) (w : Walk) (h : w.visits < c.visit_limit) (t : ℕ) (l : length W ≡ t) (u : w.top ≡ suc t) where
  abbrev high : Program → ℕ
  high m = max w.top (peak visit m)

  abbrev deep : Program → ℕ
  deep m = max w.depth (peak depth m)

  pub moves_blank : Moved c o bytes (Lay blank ∷ W) w W (step w t) Pass
  unfolding peak
  moves_blank = record {
    leads = ap (ran c o w.visits) (plan_blank _ _ _ _ _) ∙ (visit_go c o w.visits _ h ∙ rw (add-zero w.at, add-zero w.spans));
    put = refl;
    at_is = omega arith;
    marked = omega arith;
    spanned = λ l s e. rw (add-zero w.at, append-nil s);
    room = (refl, refl);
    counted = refl;
    highest = ap high (plan_blank _ _ _ _ _) ∙ rw (add-zero w.at, add-zero w.spans) (omega (arith, u));
    deepest = ap deep (plan_blank _ _ _ _ _) ∙ rw (add-zero w.at, add-zero w.spans) (omega arith);
  }

  pub moves_put : (s l : ℕ) (x : Word) → s + l ≤ length bytes → x.bytes ≡ take l (drop s bytes) → length (take l (drop s bytes)) ≡ l → w.at + l ≤ c.output
      → Moved c o bytes (Lay (put x) ∷ W) w W (record { top = t; depth = w.depth; at = w.at + l; spans = w.spans; visits = w.visits + 1 }) (Put s l)
  unfolding peak
  moves_put s l x n q e m = record {
    leads = ap (ran c o w.visits) (plan_put _ _ _ _ _ x) ∙ (visit_go c o w.visits _ h ∙ rw (q, e) (need_go c o output (w.visits + 1) (w.at + l) _ m ∙ rw (add-zero w.spans)));
    put = rw q;
    at_is = rw e;
    marked = omega arith;
    spanned = λ g r f. rw (q, e, append-nil r);
    room = (refl, refl, n);
    counted = refl;
    highest = ap high (plan_put _ _ _ _ _ x) ∙ rw (q, e, add-zero w.spans) (omega (arith, u));
    deepest = ap deep (plan_put _ _ _ _ _ x) ∙ rw (q, e, add-zero w.spans) (omega arith);
  }

  pub moves_line : (i : ℕ) → w.at + (i + 1) ≤ c.output
      → Moved c o bytes (Lay (line i) ∷ W) w W (record { top = t; depth = w.depth; at = w.at + i + 1; spans = w.spans; visits = w.visits + 1 }) (Line i)
  unfolding peak
  moves_line i m =
      let e : w.at + suc (length {A = ℕ} (replicate i 32)) ≡ w.at + i + 1 = omega (arith, length-replicate {A = ℕ} i 32) in
      record {
        leads = ap (ran c o w.visits) (plan_line _ _ _ _ _ i) ∙ (visit_go c o w.visits _ h ∙ (each_go c o (w.visits + 1) w.at (i + 1) _ m ∙ rw (e, add-zero w.spans)));
        put = refl;
        at_is = sym e;
        marked = omega arith;
        spanned = λ g r f. rw (e, append-nil r);
        room = (refl, refl);
        counted = refl;
        highest = ap high (plan_line _ _ _ _ _ i) ∙ rw (quiet visit (λ n. refl) w.at (i + 1) _, e, add-zero w.spans) (omega (arith, u));
        deepest = ap deep (plan_line _ _ _ _ _ i) ∙ rw (quiet depth (λ n. refl) w.at (i + 1) _, e, add-zero w.spans) (omega arith);
      }

  pub moves_join : (p q : Plan) → length W + 2 ≤ c.visit → Moved c o bytes (Lay (join p q) ∷ W) w (Lay p ∷ Lay q ∷ W) (step w (t + 2)) Pass
  unfolding peak
  moves_join p q m =
      let e : w.at + length (page p ++ page q) ≡ w.at + length (page p) + length (page q) = omega (arith, length-append (page p) (page q)) in
      let f : w.spans + (marks p + marks q) ≡ w.spans + marks p + marks q = omega arith in
      record {
        leads =
            ap (ran c o w.visits) (plan_join _ _ _ _ _ p q)
            ∙ (visit_go c o w.visits _ h
            ∙ (need_go c o visit (w.visits + 1) (length W + 1) _ (omega arith)
            ∙ (need_go c o visit (w.visits + 1) (length W + 2) _ m
            ∙ rw (e, f))));
        put = append_assoc (page p) (page q) (pages W);
        at_is = omega arith;
        marked = omega arith;
        spanned = λ g s x. rw e (ap (λ (r : List Row). ends W g (w.at + length (page p) + length (page q)) r) (join_spans p q w.at (innermost g) s));
        room = (refl, refl);
        counted = refl;
        highest = ap high (plan_join _ _ _ _ _ p q) ∙ rw (e, f) (omega (arith, u, l));
        deepest = ap deep (plan_join _ _ _ _ _ p q) ∙ rw (e, f) (omega arith);
      }

  pub moves_mark : (k : AnnotationId) (p : Plan) → length W + 2 ≤ c.visit → w.spans + 1 ≤ c.spans → w.depth + 1 ≤ c.depth
      → Moved c o bytes (Lay (mark k.0 p) ∷ W) w (Lay p ∷ Exit ∷ W) (record { top = t + 2; depth = w.depth + 1; at = w.at; spans = w.spans + 1; visits = w.visits + 1 }) (Open k)
  unfolding peak
  moves_mark k p m n d =
      let f : w.spans + suc (marks p) ≡ w.spans + 1 + marks p = omega arith in
      let g : w.depth + 1 - 1 ≡ w.depth = omega arith in
      record {
        leads =
            ap (ran c o w.visits) (plan_mark _ _ _ _ _ k.0 p)
            ∙ (visit_go c o w.visits _ h
            ∙ (need_go c o spans (w.visits + 1) (w.spans + 1) _ n
            ∙ (need_go c o depth (w.visits + 1) (w.depth + 1) _ d
            ∙ (need_go c o visit (w.visits + 1) (length W + 1) _ (omega arith)
            ∙ (need_go c o visit (w.visits + 1) (length W + 2) _ m
            ∙ rw (f, g))))));
        put = refl;
        at_is = omega arith;
        marked = omega arith;
        spanned = λ l s x. ap (λ (r : List Row). ends W l (w.at + length (page p)) r) (mark_spans k.0 p w.at (innermost l) (w.at + length (page p)) w.spans s x);
        room = (refl, refl);
        counted = refl;
        highest = ap high (plan_mark _ _ _ _ _ k.0 p) ∙ rw (f, g, l) (mark_high w.top t _ u);
        deepest = ap deep (plan_mark _ _ _ _ _ k.0 p) ∙ rw (f, g) (mark_deep w.depth _);
      }

  pub moves_fee : (a : ℕ) (p : Plan) → length W + 1 ≤ c.visit → Moved c o bytes (Lay (fee a p) ∷ W) w (Lay p ∷ W) (step w (t + 1)) Pass
  unfolding peak
  moves_fee a p m = record {
    leads = ap (ran c o w.visits) (plan_fee _ _ _ _ _ a p) ∙ (visit_go c o w.visits _ h ∙ need_go c o visit (w.visits + 1) (length W + 1) _ m);
    put = refl;
    at_is = omega arith;
    marked = refl;
    spanned = λ l s x. refl;
    room = (refl, refl);
    counted = refl;
    highest = ap high (plan_fee _ _ _ _ _ a p) ∙ omega (arith, u, l);
    deepest = ap deep (plan_fee _ _ _ _ _ a p) ∙ omega arith;
  }

  pub moves_exit : 0 < w.depth
      → Moved c o bytes (Exit ∷ W) w W (record { top = t; depth = w.depth - 1; at = w.at; spans = w.spans; visits = w.visits + 1 }) Close
  unfolding peak
  moves_exit m = record {
    leads = visit_go c o w.visits _ h;
    put = refl;
    at_is = omega arith;
    marked = refl;
    spanned = go;
    room = (refl, omega arith);
    counted = refl;
    highest = omega (arith, u);
    deepest = omega arith;
  }
    where
      go : (l : List ℕ) (s : List Row) → length s ≡ w.spans → ends (Exit ∷ W) l w.at s ≡ ends W (opened Close w.spans l) w.at (rows Close w.at l s)
      go [] s e = refl
      go (n ∷ l) s e = refl
