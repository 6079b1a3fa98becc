-- The second pass into span records and counts: what holds between its turns, what a turn asks and leaves, and what it comes to.
use mathlib.Core.Path.{◌≡◌, refl, sym, ap, subst, ◌∙◌}
use mathlib.Core.List.{List, [], ◌∷◌}
use Prim.Native.Nat.{ℕ, zero, suc, ◌+◌, ◌-◌, ◌≤◌, ◌<◌, ◌^◌}
use native.Mathlib.Omega.{arith}
use lib.ListN.{length, set, get_or, take, length-map}
use Rattle.machine.specs.Materializer.{materialize}
use Rattle.stats.specs.declared.SolveStats.{SolveStats}
use Rattle.stats.specs.declared.SolveCounter.TheVariants.{Visits}
use Rattle.stats.specs.Counts.{counted, bumped}
use Rattle.spans.specs.declared.AnnotationSpan.{AnnotationSpan}
use Rattle.materialize.specs.declared.Capacity.{Capacity}
use Rattle.materialize.specs.declared.Chosen.{Chosen}
use Rattle.materialize.specs.declared.Walk.{Walk}
use Rattle.materialize.specs.declared.Step.{Step}
use Rattle.materialize.specs.Rows.{Row}
use Rattle.materialize.specs.Walks.{Around, begin, ran, pile, works, plan, ahead, Sound}
use Rattle.materialize.specs.Writes.{MarkFits, InUse, Turning, Stepped, Writing}
use Rattle.materialize.proofs.Passes.{sound_begin, along_begin}
use Rattle.materialize.proofs.Written.{turning, some_visit, writing_begin, written_end, mark_fits_more, visits_end}
use Rattle.records.specs.Records.{recorded, row_in, rows_in, visited, laid_out, Begun, Recorded}
use Rattle.records.proofs.Marks.{rows_recorded, recorded_length}

-- what a turn alters
pub record State : Type 0 where
  pub walk : Walk
  pub visit : List ℕ
  pub depth : List ℕ
  pub output : List ℕ
  pub stats : SolveStats
  pub spans : List AnnotationSpan

module _ (c : Capacity) (k : Chosen) (P X : List Row) (bytes : List ℕ) where
  abbrev pub Asks : State → Type 0
  Asks s = Begun c k P X bytes s.visit s.depth s.output s.stats s.spans s.walk

  abbrev pub Turns : State → Type 0
  Turns s = InUse k P X bytes × Turning c (take k.plans P) (take k.texts X) (take k.bytes bytes) s.visit s.depth s.output s.walk

  abbrev pub Leads : List ℕ → Walk → Type 0
  Leads e w = (i : Around) → ran c i 0 (materialize (laid_out k P X bytes)) ≡ ran c i w.visits (ahead (works (plan (take k.plans P) (take k.texts X) (take k.bytes bytes)) (pile e w.top)) w)

-- once a walk is begun
pub record Going (c : Capacity) (k : Chosen) (P X : List Row) (bytes : List ℕ) (s₀ s : State) : Type 0 where
  pub sound : Sound c (length (take k.plans P)) (pile s.visit s.walk.top) s.walk
  pub writing : Writing c (take k.plans P) (take k.texts X) (take k.bytes bytes) k.root.0 (pile s.visit s.walk.top) s.walk s₀.output s.output s.depth (rows_in s₀.spans) (rows_in s.spans)
  pub leads : Leads c k P X bytes s.visit s.walk
  pub tallied : s.stats ≡ visited s₀.stats s.walk.visits

-- from s₀ the pass has come to s
pub record Holds (c : Capacity) (k : Chosen) (P X : List Row) (bytes : List ℕ) (s₀ s : State) : Type 0 where
  pub visit_same : length s.visit ≡ length s₀.visit
  pub depth_same : length s.depth ≡ length s₀.depth
  pub output_same : length s.output ≡ length s₀.output
  pub spans_same : length s.spans ≡ length s₀.spans
  pub none : s₀.walk.top ≡ 0 → (s.walk ≡ s₀.walk) × (s.output ≡ s₀.output) × (s.stats ≡ s₀.stats) × (s.spans ≡ s₀.spans)
  pub going : 0 < s₀.walk.top → Going c k P X bytes s₀ s

set_first : (e : List ℕ) (x : ℕ) → 0 < length e → get_or e 0 0 ≡ x → set e 0 x ≡ e
set_first [] x h q = absurd (omega arith)
set_first (y ∷ e) x h q = ap (λ (z : ℕ). z ∷ e) (sym q)

module _ {c : Capacity} {k : Chosen} {P X : List Row} {bytes : List ℕ} {s₀ : State} (b : Asks c k P X bytes s₀) where
  rows_length : (s : State) → length (rows_in s.spans) ≡ length s.spans
  rows_length s = length-map s.spans row_in

  first_going : 0 < s₀.walk.top → Going c k P X bytes s₀ s₀
  first_going p =
      let r = b.ready p in
      let v = some_visit c (laid_out k P X bytes) r.passes in
      let h : 0 < length s₀.visit = omega (arith, r.lent.visit_lent, v) in
      let n = length (take k.plans P) in
      let root = k.root.0 in
      let e = set_first s₀.visit (root + 1) h r.root_first in
      let at : Walk → List ℕ → State = λ w l. record { walk = w; visit = l; depth = s₀.depth; output = s₀.output; stats = s₀.stats; spans = s₀.spans } in
      subst (λ (w : Walk). Going c k P X bytes s₀ (at w s₀.visit)) (sym r.started)
      (subst (λ (l : List ℕ). Going c k P X bytes s₀ (at begin l)) e
      (record {
        sound = sound_begin c n s₀.visit root v h r.planned.rooted;
        writing = writing_begin c (take k.plans P) (take k.texts X) (take k.bytes bytes) root s₀.visit s₀.output s₀.depth (rows_in s₀.spans) r.passes h;
        leads = λ i. (along_begin c i (take k.plans P) (take k.texts X) (take k.bytes bytes) root s₀.visit v h).leads;
        tallied = ap (visited s₀.stats) (b.uncounted p);
      }))

  pub first_holds : Holds c k P X bytes s₀ s₀
  first_holds = record {
    visit_same = refl;
    depth_same = refl;
    output_same = refl;
    spans_same = refl;
    none = λ z. (refl, refl, refl, refl);
    going = first_going;
  }

  module _ {s : State} (h : Holds c k P X bytes s₀ s) where
    pub ended : s.walk.top ≡ 0 → Recorded c k P X bytes s₀.output s.output s₀.stats s.stats s₀.spans s.spans s₀.walk
    ended q = record {
      none = λ z. ((h.none z).1, (h.none z).2, (h.none z).3);
      written = λ p.
          let r = b.ready p in
          let g = h.going p in
          written_end s.visit g.writing q (omega (arith, h.output_same, r.lent.output_lent, g.sound.at_le)) (omega (arith, rows_length s, rows_length s₀, h.spans_same, r.lent.spans_lent, g.sound.spans_le));
      visits_are = λ p t.
          let g = h.going p in
          g.tallied ∙ ap (visited s₀.stats) (visits_end c (take k.plans P) (take k.texts X) (take k.bytes bytes) k.root.0 s.visit s.walk g.leads q t);
    }

    module _ (m : 0 < s.walk.top) where
      begun : (n : ℕ) → s₀.walk.top ≡ n → 0 < s₀.walk.top
      begun zero z = let e : s.walk.top ≡ s₀.walk.top = ap (λ (w : Walk). w.top) (h.none z).0 in absurd (omega (arith, e, z, m))
      begun (suc n) z = omega (arith, z)

      p : 0 < s₀.walk.top
      p = begun s₀.walk.top refl

      pub turns : Turns c k P X bytes s
      turns =
          let r = b.ready p in
          let g = h.going p in (
            r.in_use,
            turning s.visit g.writing
                (record {
                  some_left = m;
                  visit_lent = omega (arith, h.visit_same, r.lent.visit_lent);
                  small = r.lent.small;
                  few = r.planned.few;
                  ranked = r.planned.ranked;
                  sound = g.sound;
                })
                r.inside (omega (arith, h.depth_same, r.lent.depth_lent)) (omega (arith, h.output_same, r.lent.output_lent)),
          )

      module _ {e d o : List ℕ} {x : Step} (t : Stepped c (take k.plans P) (take k.texts X) (take k.bytes bytes) s.visit s.depth s.output s.walk e d o x) where
        records_lent : c.spans ≤ length s.spans
        records_lent = let r = b.ready p in omega (arith, rows_length s₀, h.spans_same, r.lent.spans_lent)

        pub fits : MarkFits (length s.spans) x.mark
        fits = mark_fits_more x.mark c.spans (length s.spans) t.fits records_lent

        pub room : counted s.stats Visits + 1 < 2 ^ 64
        unfolding counted
        room = let g = h.going p in let q : s.stats.visits ≡ s.walk.visits = ap (λ (z : SolveStats). z.visits) g.tallied in omega (arith, q, t.counted, t.in_range)

        pub less : c.visit_limit - x.walk.visits < c.visit_limit - s.walk.visits
        less = omega (arith, t.counted, t.sound.visits_le)

        abbrev pub next : State
        next = record { walk = x.walk; visit = e; depth = d; output = o; stats = bumped s.stats Visits; spans = recorded x.mark s.spans }

        tally : bumped s.stats Visits ≡ visited s₀.stats x.walk.visits
        unfolding bumped
        tally = let g = h.going p in ap (λ (z : SolveStats). bumped z Visits) g.tallied ∙ ap (visited s₀.stats) (sym t.counted)

        pub next_holds : length e ≡ length s.visit → length d ≡ length s.depth → length o ≡ length s.output → Holds c k P X bytes s₀ next
        next_holds l₁ l₂ l₃ = record {
          visit_same = l₁ ∙ h.visit_same;
          depth_same = l₂ ∙ h.depth_same;
          output_same = l₃ ∙ h.output_same;
          spans_same = recorded_length x.mark s.spans ∙ h.spans_same;
          none = λ z. absurd (omega (arith, z, p));
          going = λ j.
              let g = h.going p in
              record {
                sound = t.sound;
                writing = subst (λ (l : List Row). Writing c (take k.plans P) (take k.texts X) (take k.bytes bytes) k.root.0 (pile e x.walk.top) x.walk s₀.output o d (rows_in s₀.spans) l) (sym (rows_recorded x.mark s.spans fits))
                    (t.writing k.root.0 s₀.output (rows_in s₀.spans) (rows_in s.spans) (omega (arith, rows_length s, records_lent)) g.writing);
                leads = λ i. g.leads i ∙ t.leads i;
                tallied = tally;
              };
        }
