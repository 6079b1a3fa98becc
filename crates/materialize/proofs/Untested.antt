-- What passes every test need not be tested.
use Rattle.std.specs.Prelude.{Ok, Err}
use mathlib.Core.Path.{◌≡◌, refl, sym, subst, ◌∙◌}
use mathlib.Core.Bool.{Bool, true, false, cond}
use mathlib.Core.List.{List}
use Prim.Native.Nat.{ℕ, suc, ◌+◌, ◌<◌}
use native.Mathlib.Omega.{arith}
use lib.Dec.{leb}
use borrow.Author.Tests.{leb-true, leb-false}
use Rattle.file_tables.specs.declared.AnnotationId.{AnnotationId}
use Rattle.machine.specs.Events.{Out, Why, Counts, done, stop}
use Rattle.materialize.specs.declared.Capacity.{Capacity}
use Rattle.materialize.specs.declared.Exhausted.{Exhausted}
use Rattle.materialize.specs.declared.Walk.{Walk}
use Rattle.materialize.specs.declared.Act.TheVariants.{Open}
use Rattle.materialize.specs.declared.Passed.{Passed}
use Rattle.materialize.specs.Rows.{Row}
use Rattle.materialize.specs.Walks.{Visited, went, stopped, one_more, two_turn, annotate_turn, Goes, Passing, Turned}
use Rattle.materialize.proofs.Turns.{spent}

-- what is tested is not untested
pub told_apart : {A : Type 0} → true ≡ false → A
told_apart e = let z : ◌≡◌ {A = ℕ} 0 1 = cc in absurd (omega arith)

pub never : (k : Counts) (w : Why) (m : ℕ) (j : Counts) → ◌≡◌ {A = Out (Unit {0})} (done k tt) (stop w m j) → ⊥
never k w m j e = let z : ◌≡◌ {A = ℕ} 0 1 = cc in omega arith

module _ {c : Capacity} {P X : List Row} {e : List ℕ} {w : Walk} (h : Passing c P X e w) where
  pub goes : (x : List ℕ) (r : Visited) → Turned c h.around P X h.bytes e w x r → Goes r
  goes x (Ok y) t = record { walk = y.0; act = y.1; is = refl }
  goes x (Err q) t = absurd (never _ _ _ _ (sym h.passes ∙ t))

  pub no_stop : (x : List ℕ) (r : Visited) {q : Passed} → Turned c h.around P X h.bytes e w x r → r ≡ Err q → ⊥
  no_stop x r {q} t s = never _ _ _ _ (sym h.passes ∙ subst (λ (y : Visited). Turned c h.around P X h.bytes e w x y) s t)

  pub not_spent : (t : ℕ) → w.top ≡ suc t → w.visits < c.visit_limit
  not_spent t q = by_limit (leb c.visit_limit w.visits) refl
    where
      by_limit : (b : Bool) → leb c.visit_limit w.visits ≡ b → w.visits < c.visit_limit
      by_limit true b = absurd (never _ _ _ _ (sym h.passes ∙ spent c h.around P X h.bytes e w t q (leb-true _ _ b)))
      by_limit false b = leb-false _ _ b

-- where its first test can stop it, that passes, and what is behind goes on
pub passed : (b : Bool) (x : Visited) (q : Exhausted) (m v : ℕ) → Goes (cond b x (stopped q m v)) → (b ≡ true) × Goes x
passed true x q m v g = (refl, g)
passed false x q m v g = let e : stopped q m v ≡ went g.walk g.act = g.is in let z : ◌≡◌ {A = ℕ} 0 1 = cc in absurd (omega arith)

pub annotate_passed : (c : Capacity) (w : Walk) (k : AnnotationId) → Goes (annotate_turn c w k)
    → (leb (w.spans + 1) c.spans ≡ true) × (leb (w.depth + 1) c.depth ≡ true) × Goes (two_turn c (one_more w) (Open k))
annotate_passed c w k g =
    let a = passed (leb (w.spans + 1) c.spans) _ _ _ _ g in
    let b = passed (leb (w.depth + 1) c.depth) _ _ _ _ a.1 in
    (a.0, b.0, b.1)
