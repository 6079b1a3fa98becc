-- Document 02, change 10, for a step: with just its needs as sizes the same page comes on the same report, and with exactly one of them smaller the refusal by that kind's own number.
use Rattle.std.specs.Prelude.{◌≡◌, refl, List, [], ◌∷◌, map, ℕ, zero, suc, ◌+◌, ◌≤◌, ◌<◌, length}
use Rattle.std.proofs.Common.{sym, ap, ap₂, subst, arith, length-append}
use Rattle.std.proofs.Math.Logic.{by_cases}
use Rattle.std.proofs.Math.Decide.{dec_lt, ℕ_discrete}
use Rattle.std.proofs.lemmas.List.{length-map}
use Rattle.layout.specs.Report.{whole_page, lines_below, whole_spans, spans_below, moved}
use Rattle.machine.specs.Events.{Bounds, Counts, Needs, no_counts, need_of, size, Kind, stack, memo, kept, frontier, plans, visit, depth, output, spans, number, too_small, bare}
use Rattle.machine.specs.Enough.{index}
use Rattle.machine.specs.Materializer.{Rendered}
use Rattle.machine.specs.Answer.{Answer, paged, refused}
use Rattle.machine.specs.Larger.{Larger}
use Rattle.machine.specs.Just.{just, just_size, same_kind, Smaller, Short, RefusedBy}
use Rattle.answer.specs.Answer.{Answers}
use Rattle.answer.proofs.Exactly.{answered}
use Rattle.answer.specs.Demand.{needs_page, just_answered, short_refused, same_page}
use Rattle.answer.specs.Demand.{needs_within as row_within}
use Rattle.report.specs.Report.{Row, Report, Step, insert, whole, pages_in, bytes_of, spans_of, insert_at, with_row}
use Rattle.report.specs.Answers.{CostFits, Admitted, Solved, inserted, removed, page_needs, page_counts, Tested, too_dear, no_bytes, no_spans, fits, StepAnswers, row_refused, tested}
use Rattle.report.specs.Exactly.{Both, both}
use Rattle.report.proofs.Exactly.{step_one}
use Rattle.report.specs.Same.{Paged, came, admitted_as}
use Rattle.report.specs.Sizes.{StepRefusedBy}

-- ---- a row's page is part of the whole

-- the first row, and what comes below
rows_bytes : (ps : List Rendered) (r : Rendered) (i : ℕ) → length r.bytes ≤ length (lines_below (map bytes_of (insert_at i (r ∷ []) ps)))
rows_bytes ps r zero = let e = length-append r.bytes (lines_below (map bytes_of ps)) in omega (arith, e)
rows_bytes [] r (suc i) = let e = length-append r.bytes [] in omega (arith, e)
rows_bytes (p ∷ ps) r (suc i) = let e = length-append p.bytes (lines_below (map bytes_of (insert_at i (r ∷ []) ps))) in omega (arith, e, rows_bytes ps r i)

row_bytes : (ps : List Rendered) (r : Rendered) (i : ℕ) → length r.bytes ≤ length (whole_page (map bytes_of (insert_at i (r ∷ []) ps)))
row_bytes ps r zero = let e = length-append r.bytes (lines_below (map bytes_of ps)) in omega (arith, e)
row_bytes [] r (suc i) = let e = length-append r.bytes [] in omega (arith, e)
row_bytes (p ∷ ps) r (suc i) = let e = length-append p.bytes (lines_below (map bytes_of (insert_at i (r ∷ []) ps))) in omega (arith, e, rows_bytes ps r i)

rows_spans : (ps : List Rendered) (r : Rendered) (i at n : ℕ) → length r.spans ≤ length (spans_below at n (map bytes_of (insert_at i (r ∷ []) ps)) (map spans_of (insert_at i (r ∷ []) ps)))
rows_spans ps r zero at n =
    let rest = spans_below (at + length r.bytes + 1) (n + length r.spans) (map bytes_of ps) (map spans_of ps) in
    omega (arith, length-append (map (moved at n) r.spans) rest, length-map r.spans (moved at n))
rows_spans [] r (suc i) at n = omega (arith, length-append (map (moved at n) r.spans) [], length-map r.spans (moved at n))
rows_spans (p ∷ ps) r (suc i) at n =
    let at' = at + length p.bytes + 1 in
    let n' = n + length p.spans in
    let rest = spans_below at' n' (map bytes_of (insert_at i (r ∷ []) ps)) (map spans_of (insert_at i (r ∷ []) ps)) in
    omega (arith, length-append (map (moved at n) p.spans) rest, rows_spans ps r i at' n')

pages_insert : (i : ℕ) (r : Row) (rows : List Row) → pages_in (insert_at i (r ∷ []) rows) ≡ insert_at i (r.page ∷ []) (pages_in rows)
pages_insert zero r rows = refl
pages_insert (suc i) r [] = refl
pages_insert (suc i) r (x ∷ rows) = ap (λ (l : List Rendered). x.page ∷ l) (pages_insert i r rows)

part_bytes : (X : Report) (i : ℕ) (r : Row) → length r.page.bytes ≤ length (whole (with_row X i r)).bytes
part_bytes X i r = subst (λ (ps : List Rendered). length r.page.bytes ≤ length (whole_page (map bytes_of ps))) (sym (pages_insert i r X.rows)) (row_bytes (pages_in X.rows) r.page i)

part_spans : (X : Report) (i : ℕ) (r : Row) → length r.page.spans ≤ length (whole (with_row X i r)).spans
part_spans X i r = subst (λ (ps : List Rendered). length r.page.spans ≤ length (whole_spans (map bytes_of ps) (map spans_of ps))) (sym (pages_insert i r X.rows)) (rows_spans (pages_in X.rows) r.page i 0 0)

-- ---- what a page tells of its step

-- the tests that it passed, and the needs that it tells
record Passed (b : Bounds) (c : Counts) (Y : Report) (r : Rendered) (k : Counts) : Type 0 where
  pub page_is : whole Y ≡ r
  pub counts_are : page_counts c (whole Y) ≡ k
  pub cost : CostFits (whole Y).cost
  pub bytes_in : length (whole Y).bytes ≤ b.output
  pub spans_in : length (whole Y).spans ≤ b.spans

passed : {X : Report} {b : Bounds} {c : Counts} {Y : Report} {r : Rendered} {k : Counts} → Tested X b c Y (paged r k) Y → Passed b c Y r k
passed {X} {b} {c} {Y} {r} {k} t = go t refl
  where
    go : {a : Answer} {Z : Report} → Tested X b c Y a Z → a ≡ paged r k → Passed b c Y r k
    go (too_dear x) e = let w : ◌≡◌ {A = ℕ} 0 1 = cc in absurd (omega arith)
    go (no_bytes x y) e = let w : ◌≡◌ {A = ℕ} 0 1 = cc in absurd (omega arith)
    go (no_spans x y z) e = let w : ◌≡◌ {A = ℕ} 0 1 = cc in absurd (omega arith)
    go (fits x y z) e =
        let p : whole Y ≡ r = cc in
        let q : page_counts c (whole Y) ≡ k = cc in
        record { page_is = p; counts_are = q; cost = x; bytes_in = y; spans_in = z }

-- a kind that is not output or spans
data Which : Kind → Type 0 where
  bytes : Which output
  marks : Which spans
  own : {x : Kind} → ((q : Needs) (r : Rendered) → need_of (page_needs q r) x ≡ need_of q x) → need_of no_counts.needs x ≡ 0 → Which x

which : (x : Kind) → Which x
which stack = own (λ q r. refl) refl
which memo = own (λ q r. refl) refl
which kept = own (λ q r. refl) refl
which frontier = own (λ q r. refl) refl
which plans = own (λ q r. refl) refl
which visit = own (λ q r. refl) refl
which depth = own (λ q r. refl) refl
which output = bytes
which spans = marks

-- what a row needs is no more than its step's needs
module _ {X : Report} {b : Bounds} where
  row_needs : {s : Step} {c : Counts} {Y : Report} → Solved X b s c Y → (x : Kind) → need_of c.needs x ≤ need_of (page_needs c.needs (whole Y)) x
  row_needs {c = c} {Y = Y} (inserted {i} {f} {r} {k} p) x = go x (which x)
    where
      go : (x : Kind) → Which x → need_of k.needs x ≤ need_of (page_needs k.needs (whole (with_row X i (record { file = f; page = r })))) x
      go x bytes = omega (arith, (needs_page p).0, part_bytes X i (record { file = f; page = r }))
      go x marks = omega (arith, (needs_page p).1, part_spans X i (record { file = f; page = r }))
      go x (own e z) = omega (arith, e k.needs (whole (with_row X i (record { file = f; page = r }))))
  row_needs {Y = Y} removed x = go x (whole Y) (which x)
    where
      go : (x : Kind) (r : Rendered) → Which x → need_of no_counts.needs x ≤ need_of (page_needs no_counts.needs r) x
      go x r bytes = omega arith
      go x r marks = omega arith
      go x r (own e z) = omega (arith, z)

  solved_within : {s : Step} {c : Counts} {Y : Report} → Solved X b s c Y → (x : Kind) → need_of c.needs x ≤ size b x
  solved_within (inserted p) x = row_within p x
  solved_within removed x = go x (which x)
    where
      go : (x : Kind) → Which x → need_of no_counts.needs x ≤ size b x
      go x bytes = omega arith
      go x marks = omega arith
      go x (own e z) = omega (arith, z)

-- what is needed was lent
module _ {lent : Type 0} {X : Report} {b : Bounds} where
  pub needs_within : {s : Step} {r : Rendered} {k : Counts} {Y : Report} → StepAnswers lent X b s (paged r k) Y → (x : Kind) → need_of k.needs x ≤ size b x
  needs_within {k = k} {Y = Y} w x =
      let c = came w in
      let p = passed c.tests in
      subst (λ (j : Counts). need_of j.needs x ≤ size b x) p.counts_are (go x p c.solved (which x))
    where
      go : {s : Step} {c : Counts} {r : Rendered} (x : Kind) → Passed b c Y r k → Solved X b s c Y → Which x → need_of (page_needs c.needs (whole Y)) x ≤ size b x
      go x p v bytes = p.bytes_in
      go x p v marks = p.spans_in
      go {c = c} x p v (own e z) = omega (arith, e c.needs (whole Y), solved_within v x)

-- ---- with just these sizes

module _ {X : Report} {b : Bounds} where
  -- a row that was solved is solved by any sizes that are no less than its needs
  solved_by : {s : Step} {c : Counts} {Y : Report} → Solved X b s c Y → (d : Bounds) → Larger (just c.needs b) d → Solved X d s c Y
  solved_by (inserted p) d L = inserted (same_page L tt (just_answered {other = Unit {0}} tt p))
  solved_by removed d L = removed

module _ {lent other : Type 0} {X : Report} {b : Bounds} (w : other) where
  pub just_step : {s : Step} {r : Rendered} {k : Counts} {Y : Report} → StepAnswers lent X b s (paged r k) Y → StepAnswers other X (just k.needs b) s (paged r k) Y
  just_step {s} {r} {k} {Y} v = go (came v)
    where
      go : Paged lent X b s r k Y → StepAnswers other X (just k.needs b) s (paged r k) Y
      go c =
          let p = passed c.tests in
          let d = just k.needs b in
          let q : k.needs ≡ page_needs c.counts.needs (whole Y) = sym (ap (λ (j : Counts). j.needs) p.counts_are) in
          let L : Larger (just c.counts.needs b) d = record {
            sizes = λ x. subst (λ (n : Needs). size (just c.counts.needs b) x ≤ size (just n b) x) (sym q) (larger x c.counts.needs (whole Y) (row_needs c.solved x));
            work_limit_le = omega arith;
            visit_limit_le = omega arith;
          } in
          let o : length (whole Y).bytes ≤ k.needs.output = omega (arith, ap (λ (n : Needs). n.output) q) in
          let u : length (whole Y).spans ≤ k.needs.spans = omega (arith, ap (λ (n : Needs). n.spans) q) in
          let t : Tested X d c.counts Y (paged (whole Y) (page_counts c.counts (whole Y))) Y = fits p.cost o u in
          tested (admitted_as w c.admitted) (solved_by c.solved d L) (subst (λ (a : Answer). Tested X d c.counts Y a Y) (ap₂ (λ (p : Rendered) (j : Counts). paged p j) p.page_is p.counts_are) t)
        where
          larger : (x : Kind) (n : Needs) (r : Rendered) → need_of n x ≤ need_of (page_needs n r) x → size (just n b) x ≤ size (just (page_needs n r) b) x
          larger x n r h = omega (arith, just_size n b x, just_size (page_needs n r) b x)

  -- the same page, counts and needs on the same report, and no other answer
  pub just_only : {s : Step} {r : Rendered} {k : Counts} {Y Z : Report} {a : Answer} → StepAnswers lent X b s (paged r k) Y → StepAnswers other X (just k.needs b) s a Z → both a Z ≡ both (paged r k) Y
  just_only p q = step_one q (just_step p)

-- ---- with exactly one of them smaller

-- the others are what is needed
others_enough : (x : Kind) (q n : Needs) (b d : Bounds) → Smaller x q b d → ((y : Kind) → need_of n y ≤ need_of q y) → (y : Kind) → (index y ≡ index x → ⊥) → need_of n y ≤ size d y
others_enough x q n b d s h y ne = omega (arith, s.others y ne, h y)

-- the row itself needs more
module _ {other : Type 0} {X : Report} {b d : Bounds} (x : Kind) (q : Needs) (m : Smaller x q b d) (z : Both) where
  short_row : {s : Step} {c : Counts} {Y : Report} → Solved X b s c Y → Admitted other X s → ((y : Kind) → need_of c.needs y ≤ need_of q y) → size d x < need_of c.needs x
      → StepAnswers other X d s z.answer z.after → StepRefusedBy x q d X z
  short_row (inserted {i} {f} {r} {k} p) a n l v =
      let h : Short x k.needs b d = record { less = l; others = others_enough x q k.needs b d m n; work_limit_le = omega (arith, m.work_limit_is); visit_limit_le = omega (arith, m.visit_limit_is) } in
      let u = answered f X.settings d (yes tt) in
      of u.is u.answers (short_refused {other = Unit {0}} tt p x d h u.answers)
    where
      of : (y : Answer) → Answers (Unit {0}) f X.settings d y → RefusedBy x k.needs d y → StepRefusedBy x q d X z
      of y u e =
          let row : StepAnswers other X d (insert i f) (refused (number (too_small x)) e.needed e.counts) X = row_refused a (subst (λ (o : Answer). Answers (Unit {0}) f X.settings d o) e.is u) in
          let same = step_one v row in
          record {
            by = record { needed = e.needed; counts = e.counts; is = ap (λ (o : Both). o.answer) same; more = e.more; within = omega (arith, e.within, n x) };
            kept = ap (λ (o : Both). o.after) same;
          }
  short_row removed a n l v = absurd (none x (which x) l)
    where
      none : (x : Kind) → Which x → size d x < need_of no_counts.needs x → ⊥
      none x bytes l = omega arith
      none x marks l = omega arith
      none x (own e z) l = omega (arith, z, l)

-- the row is solved, and the whole page needs more
whole_short : {other : Type 0} {X : Report} {d : Bounds} {s : Step} {c : Counts} {Y : Report} (x : Kind) (q : Needs) (z : Both)
    → Admitted other X s → Solved X d s c Y → CostFits (whole Y).cost → q ≡ page_needs c.needs (whole Y)
    → size d x < need_of q x → ((y : Kind) → (index y ≡ index x → ⊥) → size d y ≡ need_of q y) → need_of c.needs x ≤ size d x
    → StepAnswers other X d s z.answer z.after → StepRefusedBy x q d X z
whole_short {other} {X} {d} {s} {c} {Y} x q z a v f e l o k u = go x (which x) l o k
  where
    go : (x : Kind) → Which x → size d x < need_of q x → ((y : Kind) → (index y ≡ index x → ⊥) → size d y ≡ need_of q y) → need_of c.needs x ≤ size d x → StepRefusedBy x q d X z
    go x bytes l o k =
        let n : q.output ≡ length (whole Y).bytes = ap (λ (r : Needs). r.output) e in
        let same = step_one u (tested a v (no_bytes f (omega (arith, l, n)))) in
        record { by = record { needed = length (whole Y).bytes; counts = bare c; is = ap (λ (o : Both). o.answer) same; more = omega (arith, l, n); within = omega (arith, n) }; kept = ap (λ (o : Both). o.after) same }
    go x marks l o k =
        let n : q.output ≡ length (whole Y).bytes = ap (λ (r : Needs). r.output) e in
        let i : q.spans ≡ length (whole Y).spans = ap (λ (r : Needs). r.spans) e in
        let same = step_one u (tested a v (no_spans f (omega (arith, n, o output (λ j. omega (arith, j)))) (omega (arith, l, i)))) in
        record { by = record { needed = length (whole Y).spans; counts = bare c; is = ap (λ (o : Both). o.answer) same; more = omega (arith, l, i); within = omega (arith, i) }; kept = ap (λ (o : Both). o.after) same }
    go x (own g h) l o k = let n = ap (λ (r : Needs). need_of r x) e in absurd (omega (arith, l, k, n, g c.needs (whole Y)))

module _ {lent other : Type 0} {X : Report} {b : Bounds} (w : other) where
  -- refused by that kind's own number, and the report stays; the size told is more than the size given and at most the need
  pub less_step : {s : Step} {r : Rendered} {k : Counts} {Y Z : Report} {a : Answer} (x : Kind) (d : Bounds) → StepAnswers lent X b s (paged r k) Y → Smaller x k.needs b d → StepAnswers other X d s a Z
      → StepRefusedBy x k.needs d X (both a Z)
  less_step {s} {r} {k} {Y} {Z} {a} x d v m u = go (came v)
    where
      go : Paged lent X b s r k Y → StepRefusedBy x k.needs d X (both a Z)
      go c =
          let p = passed c.tests in
          let q : k.needs ≡ page_needs c.counts.needs (whole Y) = sym (ap (λ (j : Counts). j.needs) p.counts_are) in
          let n : (y : Kind) → need_of c.counts.needs y ≤ need_of k.needs y = λ y. subst (λ (o : Needs). need_of c.counts.needs y ≤ need_of o y) (sym q) (row_needs c.solved y) in
          by_cases (dec_lt (size d x) (need_of c.counts.needs x))
          (λ l. short_row x k.needs m (both a Z) c.solved (admitted_as w c.admitted) n l u)
          (λ l. whole_short x k.needs (both a Z) (admitted_as w c.admitted) (solved_by c.solved d (enough x c.counts.needs k.needs d m n (omega arith))) p.cost q m.less m.others (omega arith) u)
        where
          enough : (x : Kind) (n q : Needs) (d : Bounds) → Smaller x q b d → ((y : Kind) → need_of n y ≤ need_of q y) → need_of n x ≤ size d x → Larger (just n b) d
          enough x n q d m h g = record {
            sizes = λ y. by_cases (ℕ_discrete (index y) (index x))
                (λ e. let i : y ≡ x = same_kind y x e in omega (arith, just_size n b y, subst (λ (j : Kind). need_of n j ≤ size d j) (sym i) g))
                (λ ne. omega (arith, just_size n b y, others_enough x q n b d m h y ne));
            work_limit_le = omega (arith, m.work_limit_is);
            visit_limit_le = omega (arith, m.visit_limit_is);
          }
