-- Laws for the first half of a promise.
use Rattle.std.specs.Prelude.{Ok, Err}
use mathlib.Core.Path.{◌≡◌, refl, sym, subst}
use mathlib.Core.List.{List, []}
use Prim.Native.Nat.{ℕ, zero, suc, ◌≤◌}
use native.Mathlib.Omega.{arith}
use lib.ListN.{length, take}
use lib.Seq.{length-take-le, take-take, get_or-take}
use Rattle.plan.specs.Arena.{arena}
use Rattle.solve_workspace.specs.declared.Bounds.{Bounds}
use Rattle.solve_workspace.specs.Meets.{limits, tally}
use Rattle.materialize.specs.Rows.{Row}
use Rattle.materialize.specs.Texts.{layout, InBytes, Planned}
use Rattle.materialize.specs.Walks.{Around, plan, Answered}
use Rattle.materialize.specs.Writes.{Passes}
use Rattle.materialize.specs.Answer.{measured_with}
use Rattle.render.specs.declared.page.Refusal.{Refusal}
use Rattle.render.specs.declared.page.Draft.{Draft}
use Rattle.render.specs.Rendered.{Rendered}
use Rattle.render.specs.Drafts.{Drafted, capacity, chosen, page_of, Drawn, Promise, Pledged, Half}

-- ---- by what is answered

module _ {G : Promise} {b : Bounds} {P X : List Row} {B : List ℕ} (r : Drafted) (h : Half G b P X B r) where
  pub half_refused : {q : Refusal} → r ≡ Err q → (out : List ℕ) (rows : List Row) → G out out rows rows (Err q)
  half_refused e = (subst (λ (y : Drafted). Half G b P X B y) e h).by

  pub half_drawn : {d : Draft} → r ≡ Ok d → Drawn b d P X B
  half_drawn e = (subst (λ (y : Drafted). Half G b P X B y) e h).by.0

  pub half_pledged : {d : Draft} → r ≡ Ok d → Pledged G (chosen d P X B) (page_of d)
  half_pledged e = (subst (λ (y : Drafted). Half G b P X B y) e h).by.1

-- what passes every limit may be written, in its own number of visits
abbrev pub drawn_passes : {b : Bounds} {d : Draft} {P X : List Row} {B : List ℕ} → Drawn b d P X B → Passes (capacity b) (chosen d P X B)
drawn_passes {b} {d} h = let o : Around = record { bounds = limits b; counts = tally d.stats } in record { around = o; visits = d.visits; passed = sym (h.measured.answer o) }

-- ---- of one promise for another, and of part of the tables for the whole

pub half_map : {G H : Promise} {b : Bounds} {P X : List Row} {B : List ℕ} (r : Drafted) → ((out₀ out : List ℕ) (rows₀ rows : List Row) (a : Rendered) → G out₀ out rows₀ rows a → H out₀ out rows₀ rows a)
    → Half G b P X B r → Half H b P X B r
half_map (Err e) f h = record { by = λ out rows. f out out rows rows (Err e) (h.by out rows) }
half_map (Ok d) f h = record { by = (h.by.0, record { by = λ out₀ out rows₀ rows lo lr w. f out₀ out rows₀ rows (page_of d) (h.by.1.by out₀ out rows₀ rows lo lr w) }) }

module _ (X : List Row) (B : List ℕ) (x y : ℕ) (lx : x ≤ length X) (ly : y ≤ length B) where
  moved : (K : List Row → List ℕ → Type 0) (t u : ℕ) → t ≤ length (take x X) → u ≤ length (take y B) → K (take t (take x X)) (take u (take y B)) → K (take t X) (take u B)
  moved K t u lt lu k =
      let p : take t (take x X) ≡ take t X = take-take t x X (omega (arith, length-take-le x X lx)) in
      let q : take u (take y B) ≡ take u B = take-take u y B (omega (arith, length-take-le y B ly)) in
      subst (λ (l : List ℕ). K (take t X) l) q (subst (λ (l : List Row). K l (take u (take y B))) p k)

  drawn_whole : {b : Bounds} {P : List Row} (d : Draft) → Drawn b d P (take x X) (take y B) → Drawn b d P X B
  drawn_whole {b} {P} d h = record {
    plans_in = h.plans_in;
    texts_in = omega (arith, h.texts_in, length-take-le x X lx);
    bytes_in = omega (arith, h.bytes_in, length-take-le y B ly);
    planned = moved (λ (X : List Row) (B : List ℕ). Planned (take d.plans P) (length (take d.plans P)) X d.root.0) d.texts d.bytes h.texts_in h.bytes_in h.planned;
    inside = moved (λ (X : List Row) (B : List ℕ). InBytes X B) d.texts d.bytes h.texts_in h.bytes_in h.inside;
    small = h.small;
    highest = h.highest;
    deepest = h.deepest;
    measured = moved (λ (X : List Row) (B : List ℕ). Answered (capacity b) (plan (take d.plans P) X B d.root.0) (Ok (measured_with d.length d.spans d.visits h.highest h.deepest))) d.texts d.bytes h.texts_in h.bytes_in h.measured;
    unvisited = h.unvisited;
    no_fit_checks = h.no_fit_checks;
  }

  pub half_whole : {G : Promise} {b : Bounds} {P : List Row} (r : Drafted) → Half G b P (take x X) (take y B) r → Half G b P X B r
  half_whole (Err e) h = record { by = h.by }
  half_whole {G} {b} {P} (Ok d) h = record {
    by = (
      drawn_whole d h.by.0,
      moved (λ (X : List Row) (B : List ℕ). Pledged G (plan (take d.plans P) X B d.root.0) (page_of d)) d.texts d.bytes h.by.0.texts_in h.by.0.bytes_in h.by.1,
    );
  }

-- ---- the first n plan records by themselves

arena_cut : (rows : List Row) (n m : ℕ) → m ≤ n → arena (take n rows) m ≡ arena rows m
unfolding arena
arena_cut rows n zero h = refl
arena_cut rows n (suc m) h = rw (arena_cut rows n m (omega arith), get_or-take n rows m [] (omega arith))

module _ (P : List Row) (n : ℕ) (X : List Row) (root : ℕ) (p : Planned P n X root) where
  cut_length : length (take n P) ≡ n
  cut_length = length-take-le n P p.lent

  cut_arena : arena (take n P) (length (take n P)) ≡ arena P n
  cut_arena = rw cut_length (arena_cut P n n (omega arith))

  pub cut_planned : Planned (take n P) (length (take n P)) X root
  cut_planned = record {
    lent = omega arith;
    few = rw cut_length p.few;
    ranked = rw cut_arena p.ranked;
    rooted = rw cut_length p.rooted;
  }

  pub cut_plan : (bytes : List ℕ) → plan (take n P) X bytes root ≡ layout P n X bytes root
  cut_plan bytes = rw cut_arena
