-- Each batch has one outcome: the number, the answers, the bytes, the spans and the record.
use Rattle.std.specs.Prelude.{◌≡◌, Ok, Err, refl, List, [], ◌++◌, map, ℕ, ◌+◌, ◌*◌, ◌≤◌, ◌<◌, ◌^◌, length, get_or, take, drop}
use Rattle.std.proofs.Common.{sym, ap, ap₂, subst, ◌∙◌, arith, length-take-le}
use Rattle.std.proofs.lemmas.List.{map-append, length-map}
use Rattle.cost.specs.Cost.{Cost}
use Rattle.cost.specs.Value.{value}
use Rattle.cost.specs.declared.ConsumerCost.{ConsumerCost}
use Rattle.layout.specs.Spans.{Span}
use Rattle.layout.specs.SpanWords.{span_of}
use Rattle.machine.specs.Events.{Counts, with_needs, bare}
use Rattle.machine.specs.Events.{Needs as Needed}
use Rattle.machine.specs.Materializer.{Rendered as Laid}
use Rattle.stats.specs.declared.SolveStats.{SolveStats}
use Rattle.solve_workspace.specs.declared.Bounds.{Bounds}
use Rattle.solve_workspace.specs.declared.Needs.{Needs}
use Rattle.solve_workspace.specs.declared.RenderOptions.{RenderOptions}
use Rattle.solve_workspace.specs.Meets.{limits, tally, needs_told}
use Rattle.materialize.specs.Rows.{Row}
use Rattle.render.specs.declared.order.Lengths.{Lengths}
use Rattle.render.specs.Order.{InOrder}
use Rattle.render.specs.declared.page.Page.{Page}
use Rattle.render.specs.declared.page.Refusal.{Refusal}
use Rattle.render.specs.Rendered.{Rendered, page_with, refusal_with, meant, counts_of, page_length, span_count, Front}
use Rattle.render.specs.Call.{settings}
use Rattle.report.specs.Lists.{map_take, map_drop}
use Rattle.desks.specs.Desks.{charged}
use Rattle.desks.specs.Lent.{work_in}
use Rattle.desks.specs.Served.{Served}
use Rattle.desks.specs.Layer.{After, served_one}
use Rattle.desks.specs.Kinds.{single, single_steady}
use Rattle.call_words.specs.Words.{words}
use Rattle.batch.specs.Batch.{Batch, rest, rest_lent, next, One, Filed}
use Rattle.batch.specs.Batched.{Batched, out_of_order, no_desk, too_many, filed}
use Rattle.batch.specs.Sequence.{Singles, no_call, first_call, in_sequence}

-- ---- what an answer says in the machine's words, it says in one way

stats_same : (k j : SolveStats) → k.fit_checks ≡ 0 → j.fit_checks ≡ 0 → tally k ≡ tally j → k ≡ j
stats_same k j e f t =
    let a = ap (λ (c : Counts). c.work_items) t in
    let h = ap (λ (c : Counts). c.memo_hits) t in
    let m = ap (λ (c : Counts). c.memo_misses) t in
    let g = ap (λ (c : Counts). c.candidates_generated) t in
    let p = ap (λ (c : Counts). c.candidates_pruned) t in
    let q = ap (λ (c : Counts). c.peak_frontier) t in
    let n = ap (λ (c : Counts). c.memo_entries) t in
    let l = ap (λ (c : Counts). c.plan_nodes) t in
    let v = ap (λ (c : Counts). c.visits) t in
    rw (a, e, h, m, g, p, q, n, l, v, sym f) refl

cost_same : (c e : ConsumerCost) → c.overflow_low < 2 ^ 64 → e.overflow_low < 2 ^ 64 → value c ≡ value e → c ≡ e
cost_same c e l m v =
    let o : c.overflow_high * 2 ^ 64 + c.overflow_low ≡ e.overflow_high * 2 ^ 64 + e.overflow_low = ap (λ (x : Cost). x.overflow) v in
    let h : c.overflow_high ≡ e.overflow_high = omega (arith, o, l, m) in
    let i : c.overflow_low ≡ e.overflow_low = omega (arith, o, h) in
    let b : c.burden ≡ e.burden = ap (λ (x : Cost). x.burden) v in
    rw (h, i, b) refl

needs_same : (q r : Needs) → needs_told q ≡ needs_told r → q ≡ r
needs_same q r t =
    let a = ap (λ (n : Needed). n.stack) t in
    let b = ap (λ (n : Needed). n.memo) t in
    let c = ap (λ (n : Needed). n.kept) t in
    let d = ap (λ (n : Needed). n.frontier) t in
    let e = ap (λ (n : Needed). n.plans) t in
    let f = ap (λ (n : Needed). n.visit) t in
    let g = ap (λ (n : Needed). n.depth) t in
    let h = ap (λ (n : Needed). n.output) t in
    let i = ap (λ (n : Needed). n.spans) t in
    rw (a, b, c, d, e, f, g, h, i) refl

-- an answer that lies in what is lent, the low half of its overflow a word, without fit checks
record Shown (a : Rendered) (out : List ℕ) (rows : List Row) : Type 0 where
  pub bytes_in : page_length a ≤ length out
  pub spans_in : span_count a ≤ length rows
  pub low_word : get_or (words a) 5 0 < 2 ^ 64
  pub no_fit_checks : (counts_of a).fit_checks ≡ 0

told_same : (a z : Rendered) {out out' : List ℕ} {rows rows' : List Row} → Shown a out rows → Shown z out' rows' → meant a out rows ≡ meant z out' rows' → a ≡ z
told_same (Ok p) (Ok o) {out} {out'} {rows} {rows'} x y t =
    let page : ◌≡◌ {A = Laid} (record { bytes = take p.length out; spans = map span_of (take p.spans rows); cost = value p.cost }) (record { bytes = take o.length out'; spans = map span_of (take o.spans rows'); cost = value o.cost }) = cc in
    let tallied : with_needs (tally p.stats) (needs_told p.needs) ≡ with_needs (tally o.stats) (needs_told o.needs) = cc in
    let f : p.length ≡ o.length = omega (arith, ap (λ (l : Laid). length l.bytes) page, length-take-le p.length out x.bytes_in, length-take-le o.length out' y.bytes_in) in
    let h : p.spans ≡ o.spans
    = omega (arith, ap (λ (l : Laid). length l.spans) page, length-map (take p.spans rows) span_of, length-map (take o.spans rows') span_of, length-take-le p.spans rows x.spans_in, length-take-le o.spans rows' y.spans_in) in
    let u : p.cost ≡ o.cost = cost_same p.cost o.cost x.low_word y.low_word (ap (λ (l : Laid). l.cost) page) in
    let v : p.stats ≡ o.stats = stats_same p.stats o.stats x.no_fit_checks y.no_fit_checks (ap bare tallied) in
    let w : p.needs ≡ o.needs = needs_same p.needs o.needs (ap (λ (b : Counts). b.needs) tallied) in
    let same : page_with p.cost p.length p.spans p.stats p.needs ≡ page_with o.cost o.length o.spans o.stats o.needs = rw (f, h, u, v, w) refl in
    ap (λ (z : Page). Ok z) same
told_same (Ok p) (Err e) x y t = absurd (cc)
told_same (Err e) (Ok p) x y t = absurd (cc)
told_same (Err e) (Err i) x y t =
    let a : e.number ≡ i.number = cc in
    let b : e.needed ≡ i.needed = cc in
    let c : tally e.stats ≡ tally i.stats = cc in
    let v : e.stats ≡ i.stats = stats_same e.stats i.stats x.no_fit_checks y.no_fit_checks c in
    let same : refusal_with e.number e.needed e.stats ≡ refusal_with i.number i.needed i.stats = rw (a, b, v) refl in
    ap (λ (z : Refusal). Err z) same

-- ---- the same batch: spans are read off their rows

pub record Same (F G : Batch) : Type 0 where
  pub shared : F.shared ≡ G.shared
  pub output : F.output ≡ G.output
  pub rows : map span_of F.rows ≡ map span_of G.rows
  pub answers : F.answers ≡ G.answers
  pub bytes : F.bytes ≡ G.bytes
  pub spans : F.spans ≡ G.spans
  pub filed : F.filed ≡ G.filed

-- what stands behind the front of a part, where the fronts are the same
front_same : {A : Type 0} (n : ℕ) (was is was' is' : List A) → was ≡ was' → take n is ≡ take n is' → Front n was is → Front n was' is' → is ≡ is'
front_same n was is was' is' e t f g = f.past ∙ ap₂ (λ (x y : List _). x ++ y) t (ap (λ (x : List _). drop n x) e) ∙ sym g.past

page_same : (a : Rendered) (out out' : List ℕ) (rows rows' : List Row) → meant a out rows ≡ meant a out' rows'
    → (take (page_length a) out ≡ take (page_length a) out') × (map span_of (take (span_count a) rows) ≡ map span_of (take (span_count a) rows'))
page_same (Ok p) out out' rows rows' t =
    let page : ◌≡◌ {A = Laid} (record { bytes = take p.length out; spans = map span_of (take p.spans rows); cost = value p.cost }) (record { bytes = take p.length out'; spans = map span_of (take p.spans rows'); cost = value p.cost }) = cc in
    (ap (λ (l : Laid). l.bytes) page, ap (λ (l : Laid). l.spans) page)
page_same (Err e) out out' rows rows' t = (refl, refl)

rows_front : (m s : ℕ) (was is : List Row) → Front m (drop s was) is → map span_of is ≡ map span_of (take m is) ++ drop m (drop s (map span_of was))
rows_front m s was is f =
    ap (λ (x : List Row). map span_of x) f.past ∙ map-append span_of (take m is) (drop m (drop s was))
    ∙ ap (λ (x : List Span). map span_of (take m is) ++ x) (map_drop span_of m (drop s was) ∙ ap (λ (x : List Span). drop m x) (map_drop span_of s was))

module _ {d : ℕ} {o : RenderOptions} {b : Bounds} {l : Lengths} where
  shown : {file : List ℕ} {F G : Batch} (h : One d o b l file F G) → Shown h.told h.output h.rows
  shown h = record {
    bytes_in = omega (arith, h.call.stands.output_is.within, h.output_length);
    spans_in = omega (arith, h.call.stands.rows_are.within, h.rows_length);
    low_word = h.low_word;
    no_fit_checks = h.call.stands.no_fit_checks;
  }

  meant_same : {file : List ℕ} {F E G H : Batch} → Same F E → (h : One d o b l file F G) (g : One d o b l file E H) → meant h.told h.output h.rows ≡ meant g.told g.output g.rows
  meant_same {file} {F} {E} s h g =
      let t : Served (InOrder o (rest b F.bytes F.spans) (rest_lent l F.bytes F.spans)) F.shared.desks d (single file (settings o)) (limits (rest b F.bytes F.spans)) tt
      (meant g.told g.output g.rows) tt (charged F.shared.desks d (work_in g.told))
      = rw (s.shared, s.bytes, s.spans) g.call.right.serving.answers in
      ap (λ (y : After (Unit {0})). y.answer) (served_one (single_steady file (settings o)) h.call.right.serving.answers t)

  -- the same document on the same batch
  one_same : {file : List ℕ} {F E G H : Batch} → Same F E → One d o b l file F G → One d o b l file E H → Same G H
  one_same {file} {F} {E} {G} {H} s h g =
      let t = meant_same s h g in
      let a = h.told in
      let e : a ≡ g.told = told_same a g.told (shown h) (shown g) t in
      let u : meant a h.output h.rows ≡ meant a g.output g.rows = t ∙ ap (λ (r : Rendered). meant r g.output g.rows) (sym e) in
      let page = page_same a h.output g.output h.rows g.rows u in
      let of : Front (page_length a) (drop E.bytes E.output) g.output = subst (λ (r : Rendered). Front (page_length r) (drop E.bytes E.output) g.output) (sym e) g.call.stands.output_is in
      let rf : Front (span_count a) (drop E.spans E.rows) g.rows = subst (λ (r : Rendered). Front (span_count r) (drop E.spans E.rows) g.rows) (sym e) g.call.stands.rows_are in
      let parts : h.output ≡ g.output = front_same (page_length a) _ _ _ _ (rw (s.bytes, s.output) refl) page.0 h.call.stands.output_is of in
      let before : map span_of (take F.spans F.rows) ≡ map span_of (take E.spans E.rows)
      = map_take span_of F.spans F.rows ∙ ap₂ (λ (n : ℕ) (x : List Span). take n x) s.spans s.rows ∙ sym (map_take span_of E.spans E.rows) in
      let behind : drop (span_count a) (drop F.spans (map span_of F.rows)) ≡ drop (span_count a) (drop E.spans (map span_of E.rows)) = rw (s.spans, s.rows) refl in
      let marks : map span_of h.rows ≡ map span_of g.rows
      = rows_front (span_count a) F.spans F.rows h.rows h.call.stands.rows_are
      ∙ ap₂ (λ (x y : List Span). x ++ y) page.1 behind
      ∙ sym (rows_front (span_count a) E.spans E.rows g.rows rf) in
      subst (λ (X : Batch). Same X H) (sym h.after) (subst (λ (X : Batch). Same (next d a h.output h.rows F) X) (sym g.after) (record {
        shared = rw (s.shared, e) refl;
        output = rw (s.bytes, s.output, parts) refl;
        rows = map-append span_of (take F.spans F.rows) h.rows
            ∙ ap₂ (λ (x y : List Span). x ++ y) before marks
            ∙ sym (map-append span_of (take E.spans E.rows) g.rows);
        answers = rw (s.answers, s.filed, e) refl;
        bytes = rw (s.bytes, e) refl;
        spans = rw (s.spans, e) refl;
        filed = rw s.filed refl;
      }))

  calls_same : {files : List (List ℕ)} {F E G H : Batch} → Same F E → Singles d o b l files F G → Singles d o b l files E H → Same G H
  calls_same s no_call no_call = s
  calls_same s (first_call h p) (first_call g q) = calls_same (one_same s h g) p q

-- what the same documents leave of the same batch, by whatever single calls
pub filed_same : {d : ℕ} {o : RenderOptions} {b : Bounds} {l : Lengths} {files : List (List ℕ)} {F E G H : Batch} → Same F E → Filed d o b l files F G → Filed d o b l files E H → Same G H
filed_same s f g = calls_same s (in_sequence f) (in_sequence g)

same_self : (F : Batch) → Same F F
same_self F = record { shared = refl; output = refl; rows = refl; answers = refl; bytes = refl; spans = refl; filed = refl }

pub record OneOutcome (n m : ℕ) (G H : Batch) : Type 0 where
  pub number : n ≡ m
  pub left : Same G H

pub batch_one : {d : ℕ} {o : RenderOptions} {b : Bounds} {l : Lengths} {files lengths : List ℕ} {F G H : Batch} {n m : ℕ} → Batched d o b l files lengths F n G → Batched d o b l files lengths F m H → OneOutcome n m G H
batch_one (out_of_order a) (out_of_order c) = record { number = refl; left = same_self _ }
batch_one (out_of_order a) (no_desk c h) = absurd (a c)
batch_one (out_of_order a) (too_many c h k) = absurd (a c)
batch_one (out_of_order a) (filed c h k f) = absurd (a c)
batch_one (no_desk a g) (out_of_order c) = absurd (c a)
batch_one (no_desk a g) (no_desk c h) = record { number = refl; left = same_self _ }
batch_one (no_desk a g) (too_many c h k) = absurd (omega (arith, g, h))
batch_one (no_desk a g) (filed c h k f) = absurd (omega (arith, g, h))
batch_one (too_many a g i) (out_of_order c) = absurd (c a)
batch_one (too_many a g i) (no_desk c h) = absurd (omega (arith, g, h))
batch_one (too_many a g i) (too_many c h k) = record { number = refl; left = same_self _ }
batch_one (too_many a g i) (filed c h k f) = absurd (omega (arith, i, k))
batch_one (filed a g i e) (out_of_order c) = absurd (c a)
batch_one (filed a g i e) (no_desk c h) = absurd (omega (arith, g, h))
batch_one (filed a g i e) (too_many c h k) = absurd (omega (arith, i, k))
batch_one {F = F} (filed a g i e) (filed c h k f) = record { number = refl; left = filed_same (same_self F) e f }

-- ---- "no document alters nothing"

no_calls : {d : ℕ} {o : RenderOptions} {b : Bounds} {l : Lengths} {F G : Batch} → Singles d o b l [] F G → G ≡ F
no_calls no_call = refl

pub nothing_altered : {d : ℕ} {o : RenderOptions} {b : Bounds} {l : Lengths} {files : List ℕ} {F G : Batch} {n : ℕ} → Batched d o b l files [] F n G → G ≡ F
nothing_altered (out_of_order a) = refl
nothing_altered (no_desk a h) = refl
nothing_altered (too_many a h k) = refl
nothing_altered (filed a h k f) = no_calls (in_sequence f)
