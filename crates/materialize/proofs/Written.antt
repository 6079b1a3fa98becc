-- The second pass: what holds between its turns, and what it comes to.
use mathlib.Core.Path.{◌≡◌, refl, sym, ap, ap₂, subst, ◌∙◌}
use mathlib.Core.Bool.{Bool, true, false}
use mathlib.Core.List.{List, [], ◌++◌, append-nil, append_assoc}
use Prim.Native.Nat.{ℕ, ◌+◌, ◌≤◌, ◌<◌, ◌^◌}
use native.Mathlib.Omega.{arith}
use borrow.Author.Tests.{leb-true, leb-false}
use lib.Dec.{leb}
use lib.ListN.{length, length-append, length-drop, length-replicate, get_or, set, take, drop, take-append-drop}
use lib.Seq.{length-take-le, take_at, drop_at, get_or-take}
use Rattle.layout.specs.Layout.{Plan, page}
use Rattle.machine.specs.Events.{Counts, Out, done}
use Rattle.machine.specs.Materializer.{materialize}
use Rattle.materialize.specs.declared.Capacity.{Capacity}
use Rattle.materialize.specs.declared.Walk.{Walk}
use Rattle.materialize.specs.declared.Act.{Act}
use Rattle.materialize.specs.declared.Act.TheVariants.{Pass, Put, Line, Open, Close}
use Rattle.materialize.specs.declared.Mark.{Mark}
use Rattle.materialize.specs.declared.Mark.TheVariants.{Nothing, Open as Opens, Close as Closes}
use Rattle.materialize.specs.Rows.{Row, span_rows, Fits}
use Rattle.materialize.specs.Texts.{InBytes}
use Rattle.materialize.specs.Answer.{with_visits, over}
use Rattle.materialize.specs.Walks.{Visited, went, Around, begin, ran, pile, works, plan, ahead, pages, ends, puts, Room, Passing, Sound, Standing, Walked, Turned}
use Rattle.materialize.specs.Writes.{wrote, Under, depth_after, mark_of, MarkFits, ActFits, Allowed, Performed, Turning, Stepped, Passes, Written, Writing}
use Rattle.materialize.proofs.Parts.{spans_after, under_more, open_is, top_under, parent_low, rows_is, past_is, spans_rise, under_is, rows_fit, drop_later}
use Rattle.materialize.proofs.Untested.{never}
use Rattle.materialize.proofs.Passes.{some_around, turned_went, first_pile, along_begin, none_fits}

module _ {c : Capacity} {P X : List Row} {bytes : List ℕ} {root : ℕ} {S U : List ℕ} {w z : Walk} {a : Act} {out₀ out o : List ℕ} {s₀ s : List Row}
    (h : Writing c P X bytes root S w out₀ out o s₀ s) (g : Walked c h.around P X bytes S w U z a) (sd : Sound c (length P) S w)
    (lo : c.output ≤ length out) (lh : c.depth ≤ length o) (ls : c.spans ≤ length s) where
  abbrev bs : List ℕ
  bs = puts bytes a

  abbrev head : List ℕ
  head = take w.at out ++ bs

  head_length : length head ≡ z.at
  head_length =
      length-append (take w.at out) bs
      ∙ (ap (λ (n : ℕ). n + length bs) (length-take-le w.at out (omega (arith, sd.at_le))) ∙ sym g.moved.at_is)

  joined : wrote bs w.at out ≡ head ++ drop (w.at + length bs) out
  joined = sym (append_assoc (take w.at out) bs (drop (w.at + length bs) out))

  pub writing_step : c.spans < 2 ^ 32 → ActFits a → Writing c P X bytes root U z out₀ (wrote bs w.at out) (depth_after a w o) s₀ (spans_after a w o s)
  writing_step sf af =
      let m = g.moved in
      let so = open_is w z o s bytes a m.room (omega (arith, sd.depth_le)) (omega (arith, g.sound.depth_le)) in
      let sr = rows_is w z o s bytes a m.room (omega (arith, g.sound.spans_le)) h.below in
      let ln : length (take w.spans s) ≡ w.spans = length-take-le w.spans s (omega (arith, sd.spans_le)) in
      record {
        around = h.around;
        visits = h.visits;
        passes = sym m.leads ∙ h.passes;
        page_is =
            ap (λ (l : List ℕ). take z.at l ++ pages (works (plan P X bytes) U)) joined
            ∙ (ap (λ (l : List ℕ). l ++ pages (works (plan P X bytes) U)) (take_at head (drop (w.at + length bs) out) z.at head_length)
            ∙ (append_assoc (take w.at out) bs (pages (works (plan P X bytes) U))
            ∙ (ap (λ (l : List ℕ). take w.at out ++ l) (sym m.put) ∙ h.page_is)));
        page_past =
            ap (drop z.at) joined
            ∙ (drop_at head (drop (w.at + length bs) out) z.at head_length
            ∙ (ap (λ (n : ℕ). drop n out) (sym m.at_is) ∙ drop_later w.at z.at out out₀ (omega (arith, m.at_is)) h.page_past));
        spans_is =
            ap₂ (λ (x : List ℕ) (y : List Row). ends (works (plan P X bytes) U) x z.at y) so sr
            ∙ (sym (m.spanned (pile o w.depth) (take w.spans s) ln) ∙ h.spans_is);
        spans_past = past_is w z o s bytes a m.room h.below ∙ drop_later w.spans z.spans s s₀ (spans_rise w z o s bytes a m.room) h.spans_past;
        fits = rows_fit w z o s bytes a m.room (omega (arith, sd.spans_le)) (omega (arith, sd.spans_le)) (omega (arith, g.sound.spans_le)) h.below h.fits af;
        below = subst (λ (l : List ℕ). Under z.spans l) (sym so) (under_is w z o s bytes a m.room h.below);
      }

-- what a turn may do, and what it promises
module _ {c : Capacity} {P X : List Row} {bytes e o out : List ℕ} {w : Walk} (t : Turning c P X bytes e o out w) {r : Visited} (x : List ℕ) {z : Walk} {a : Act}
    (turned : (i : Around) (bs : List ℕ) → InBytes X bs → Turned c i P X bs e w x r) (q : r ≡ went z a) where
  walked : (i : Around) → Walked c i P X bytes (pile e w.top) w (pile x z.top) z a
  walked i = turned_went c i P X bytes e x w z a r (turned i bytes t.inside) q

  sd : Sound c (length P) (pile e w.top) w
  sd = t.standing.sound

  few : c.spans < 2 ^ 32
  few = t.standing.small.spans_fits

  allowed_by : (x : Act) → Room x (length bytes) w z → z.at ≡ w.at + length (puts bytes x) → z.at ≤ length out → z.depth ≤ c.depth → w.spans < 2 ^ 32 → Allowed x w bytes o out
  allowed_by Pass r e l d v = tt
  allowed_by (Put t n) r e l d v =
      let q : length (take n (drop t bytes)) ≡ n = length-take-le n (drop t bytes) (omega (arith, length-drop t bytes, r.2)) in
      (r.2, omega (arith, q))
  allowed_by (Line i) r e l d v = omega (arith, length-replicate {A = ℕ} i 32)
  allowed_by (Open k) r e l d v = (omega (arith, r.1, t.depth_lent), under_more w.spans (2 ^ 32) (pile o w.depth) (omega arith) t.below)
  allowed_by Close r e l d v = (omega (arith, r.1), omega (arith, sd.depth_le, t.depth_lent))

  pub allowed : Allowed a w bytes o out
  allowed =
      let g = walked some_around in
      allowed_by a g.moved.room g.moved.at_is (omega (arith, g.sound.at_le, t.output_lent)) g.sound.depth_le (omega (arith, sd.spans_le, few))

  mark_fits : (x : Act) → Room x (length bytes) w z → z.spans ≤ c.spans → MarkFits c.spans (mark_of x w o)
  mark_fits Pass r l = tt
  mark_fits (Put t n) r l = tt
  mark_fits (Line i) r l = tt
  mark_fits (Open k) r l = (omega (arith, r.0), omega (arith, parent_low w.spans (pile o w.depth) t.below, sd.spans_le, few))
  mark_fits Close r l = omega (arith, top_under w z o (length bytes) r t.below, sd.spans_le)

  pub stepped : {h out' : List ℕ} {m : Mark} → Performed a w bytes o h out out' m → c.visit_limit < 2 ^ 64 → Stepped c P X bytes e o out w x h out' (record { walk = z; mark = m })
  stepped {h} {out'} {m} p v =
      let g = walked some_around in
      record {
        counted = g.moved.counted;
        in_range = omega (arith, g.sound.visits_le, v);
        fits = rw p.mark_is (mark_fits a g.moved.room g.sound.spans_le);
        leads = λ i. (walked i).moved.leads;
        sound = g.sound;
        writing = λ root b s₀ s l k. rw (p.output_is, p.depth_is, p.mark_is) (writing_step k (walked k.around) sd t.output_lent t.depth_lent l few p.fits);
      }

abbrev pub passing : {c : Capacity} {P X : List Row} {bytes : List ℕ} {root : ℕ} {w : Walk} {out₀ out o : List ℕ} {s₀ s : List Row} (e : List ℕ)
    → Writing c P X bytes root (pile e w.top) w out₀ out o s₀ s → InBytes X bytes → Passing c P X e w
passing {bytes = bytes} e h i = record { bytes = bytes; inside = i; around = h.around; visits = h.visits; passes = h.passes }

pub mark_fits_more : (m : Mark) (n k : ℕ) → MarkFits n m → n ≤ k → MarkFits k m
mark_fits_more Nothing n k f l = tt
mark_fits_more (Opens i a at up) n k f l = (omega (arith, f.0), f.1)
mark_fits_more (Closes i at) n k f l = omega arith

abbrev pub turning : {c : Capacity} {P X : List Row} {bytes : List ℕ} {root : ℕ} {w : Walk} {out₀ out o : List ℕ} {s₀ s : List Row} (e : List ℕ)
    → Writing c P X bytes root (pile e w.top) w out₀ out o s₀ s → Standing c P X e w → InBytes X bytes → c.depth ≤ length o → c.output ≤ length out → Turning c P X bytes e o out w
turning e h st i l m = record { standing = st; inside = i; depth_lent = l; output_lent = m; passing = passing e h i; below = h.below }

pub some_visit : (c : Capacity) (p : Plan) → Passes c p → 0 < c.visit
some_visit c p h = go (leb 1 c.visit) refl
  where
    go : (t : Bool) → leb 1 c.visit ≡ t → 0 < c.visit
    go true e = omega (arith, leb-true 1 c.visit e)
    go false e =
        let z : c.visit ≡ 0 = omega (arith, leb-false 1 c.visit e) in
        absurd (never _ _ _ _ (sym h.passed ∙ sym ((none_fits c p z).answer h.around)))

pub writing_begin : (c : Capacity) (P X : List Row) (bytes : List ℕ) (root : ℕ) (e out o : List ℕ) (s : List Row) (h : Passes c (plan P X bytes root)) → 0 < length e
    → Writing c P X bytes root (pile (set e 0 (root + 1)) 1) begin out out o s s
writing_begin c P X bytes root e out o s h l =
    let p = plan P X bytes root in
    let al = along_begin c h.around P X bytes root e (some_visit c p h) l in
    let am = rw (first_pile e root l) at al in
    rw (first_pile e root l)
    (record {
      around = h.around;
      visits = h.visits;
      passes = sym am.leads ∙ h.passed;
      page_is = append-nil (page p);
      page_past = refl;
      spans_is = refl;
      spans_past = refl;
      below = tt;
      fits = λ k n. absurd (omega arith);
    })

over_is : {A : Type 0} (n : ℕ) (l l₀ xs : List A) → n ≤ length l → take n l ≡ xs → drop n l ≡ drop n l₀ → l ≡ over xs l₀
over_is n l l₀ xs h e q =
    let m : length xs ≡ n = sym (ap length e) ∙ length-take-le n l h in
    sym (take-append-drop n l) ∙ (ap₂ ◌++◌ e q ∙ ap (λ (k : ℕ). xs ++ drop k l₀) (sym m))

module _ {c : Capacity} {P X : List Row} {bytes : List ℕ} {root : ℕ} {w : Walk} {out₀ out o : List ℕ} {s₀ s : List Row} (e : List ℕ)
    (h : Writing c P X bytes root (pile e w.top) w out₀ out o s₀ s) (q : w.top ≡ 0) where
  at_end : Writing c P X bytes root [] w out₀ out o s₀ s
  at_end = subst (λ (n : ℕ). Writing c P X bytes root (pile e n) w out₀ out o s₀ s) q h

  pub written_end : w.at ≤ length out → w.spans ≤ length s → Written (plan P X bytes root) out₀ out s₀ s
  written_end l m =
      let p = plan P X bytes root in
      let n : length (span_rows p) ≡ w.spans = sym (ap length at_end.spans_is) ∙ length-take-le w.spans s m in
      record {
        output_is = over_is w.at out out₀ (page p) l (sym (append-nil (take w.at out)) ∙ at_end.page_is) at_end.page_past;
        spans_is = over_is w.spans s s₀ (span_rows p) m at_end.spans_is at_end.spans_past;
        fits = λ k j. subst (λ (rows : List Row). Fits (get_or rows k [])) at_end.spans_is (rw (get_or-take w.spans s k [] (omega (arith, n))) (at_end.fits k (omega (arith, n))));
      }

-- a run that is led to its end has made the visits with which it passes
pub visits_end : (c : Capacity) (P X : List Row) (bytes : List ℕ) (root : ℕ) (e : List ℕ) (w : Walk)
    → ((i : Around) → ran c i 0 (materialize (plan P X bytes root)) ≡ ran c i w.visits (ahead (works (plan P X bytes) (pile e w.top)) w)) → w.top ≡ 0
    → (h : Passes c (plan P X bytes root)) → w.visits ≡ h.visits
unfolding ran
visits_end c P X bytes root e w l q h =
    let k : ran c h.around 0 (materialize (plan P X bytes root)) ≡ done (with_visits h.around.counts w.visits) tt =
    subst (λ (n : ℕ). ran c h.around 0 (materialize (plan P X bytes root)) ≡ ran c h.around w.visits (ahead (works (plan P X bytes) (pile e n)) w)) q (l h.around) in
    same h.around.counts w.visits h.visits (sym k ∙ h.passed)
  where
    same : (k : Counts) (v u : ℕ) → ◌≡◌ {A = Out (Unit {0})} (done (with_visits k v) tt) (done (with_visits k u) tt) → v ≡ u
    same k v u e = let q : with_visits k v ≡ with_visits k u = cc in ap (λ (z : Counts). z.visits) q

-- ---- both passes
