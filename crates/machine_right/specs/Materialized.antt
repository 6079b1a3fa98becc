-- The materializer's walk never comes to what cannot be; the cost that it would recount on the way is the layout's, and grows to it.
use Prim.Native.Nat.{ℕ, zero, suc, ◌+◌, ◌≤◌}
use native.Mathlib.Omega.{arith}
use Rattle.std.specs.Prelude.{◌≡◌, length}
use Rattle.std.proofs.Math.Path.{refl, ap}
use Rattle.std.proofs.Common.{ap₂, ◌∙◌, length-append}
use Rattle.std.proofs.Math.Option.{Option, some}
use Rattle.cost.specs.Cost.{Cost, zero_cost, add}
use Rattle.cost.specs.Charge.{text_cost, penalty_cost}
use Rattle.cost.specs.Rising.{at_zero}
use Rattle.layout.specs.Rules.{Rules}
use Rattle.layout.specs.Lawful.{Lawful}
use Rattle.layout.specs.Layout.{Plan, blank, put, line, join, mark, fee, page, last}
use Rattle.layout.specs.Spans.{spans_from}
use Rattle.layout.specs.Running.{cost_from}
use Rattle.machine.specs.Materializer.{marks, append_each, visit_plan, materialize, recount}
use Rattle.machine_right.specs.Post.{Post, holds_of, says, post_bind}

module _ {Q : Unit {0} → Type 0} where
  append_post : (at n : ℕ) → Q tt → Post Q (append_each at n)
  unfolding append_each
  append_post at zero h = holds_of h
  append_post at (suc n) h = says tt (append_post (at + 1) n h)

pub visit_post : (p : Plan) (v d at n : ℕ) {Q : Unit {0} → Type 0} → Q tt → Post Q (visit_plan p v d at n)
unfolding visit_plan
visit_post blank v d at n h = says tt (holds_of h)
visit_post (put t) v d at n h = says tt (says tt (holds_of h))
visit_post (line i) v d at n h = says tt (append_post at (i + 1) h)
visit_post (join p q) v d at n h = says tt (says tt (says tt (post_bind (visit_post p (v + 1) d at n (visit_post q v d (at + length (page p)) (n + marks p) h)))))
visit_post (mark a p) v d at n h = says tt (says tt (says tt (says tt (says tt (post_bind (visit_post p (v + 1) (d + 1) at (n + 1) (says tt (holds_of h))))))))
visit_post (fee a p) v d at n h = says tt (says tt (visit_post p v d at n h))

pub materialize_post : (p : Plan) {Q : Unit {0} → Type 0} → Q tt → Post Q (materialize p)
unfolding materialize
materialize_post p h = says tt (visit_post p 0 0 0 0 h)

-- the spans put so far are as many as it counts
pub marks_are : (p : Plan) (at : ℕ) (up : Option ℕ) (n : ℕ) → length (spans_from p at up n) ≡ marks p
marks_are blank at up n = refl
marks_are (put t) at up n = refl
marks_are (line i) at up n = refl
marks_are (join p q) at up n =
    length-append (spans_from p at up n) (spans_from q (at + length (page p)) up (n + length (spans_from p at up n)))
    ∙ ap₂ ◌+◌ (marks_are p at up n) (marks_are q (at + length (page p)) up (n + length (spans_from p at up n)))
marks_are (mark k p) at up n = ap suc (marks_are p at (some n) (suc n))
marks_are (fee a p) at up n = marks_are p at up n

-- ---- the cost counted again

cost : (a b : Cost) → a.overflow ≡ b.overflow → a.burden ≡ b.burden → a ≡ b
cost a b o u = ap₂ (λ (x y : ℕ). record { overflow = x; burden = y }) o u

module _ (R : Rules) (L : Lawful R) where
  pub recount_is : (p : Plan) (c : ℕ) (a : Cost) → recount R p c a ≡ add a (cost_from R p c)
  unfolding recount
  recount_is blank c a = cost _ _ (omega arith) (omega arith)
  recount_is (put t) c a = refl
  recount_is (line i) c a =
      let z : 0 + i ≡ i = omega arith in
      cost _ _ (omega (arith, at_zero L.rising, ap R.charge z)) (omega arith)
  recount_is (join p q) c a =
      recount_is q (last p c) (recount R p c a) ∙ ap (λ (z : Cost). add z (cost_from R q (last p c))) (recount_is p c a) ∙ cost _ _ (omega arith) (omega arith)
  recount_is (mark k p) c a = recount_is p c a
  recount_is (fee n p) c a = recount_is p c (add a (penalty_cost n)) ∙ cost _ _ (omega arith) (omega arith)

  -- from nothing, it is the layout's cost
  pub witnessed : (p : Plan) → recount R p 0 zero_cost ≡ cost_from R p 0
  witnessed p = recount_is p 0 zero_cost ∙ cost _ _ (omega arith) (omega arith)

-- no part of it is more
pub record Below (a b : Cost) : Type 0 where
  pub overflow_below : a.overflow ≤ b.overflow
  pub burden_below : a.burden ≤ b.burden

-- every sum on the way is below b
abbrev pub Sums : Rules → Plan → ℕ → Cost → Cost → Type 0
Sums R blank c a b = Unit {0}
Sums R (put t) c a b = Below (add a (text_cost R.charge c t.width)) b
Sums R (line i) c a b = Below (add a (penalty_cost R.newline_cost)) b × Below (add (add a (penalty_cost R.newline_cost)) (text_cost R.charge 0 i)) b
Sums R (join p q) c a b = Sums R p c a b × Sums R q (last p c) (recount R p c a) b
Sums R (mark k p) c a b = Sums R p c a b
Sums R (fee n p) c a b = Below (add a (penalty_cost n)) b × Sums R p c (add a (penalty_cost n)) b

grows : (R : Rules) (p : Plan) (c : ℕ) (a : Cost) → Below a (recount R p c a)
unfolding recount
grows R blank c a = record { overflow_below = omega arith; burden_below = omega arith }
grows R (put t) c a = record { overflow_below = omega arith; burden_below = omega arith }
grows R (line i) c a = record { overflow_below = omega arith; burden_below = omega arith }
grows R (join p q) c a =
    let g = grows R p c a in
    let h = grows R q (last p c) (recount R p c a) in
    record { overflow_below = omega (arith, g.overflow_below, h.overflow_below); burden_below = omega (arith, g.burden_below, h.burden_below) }
grows R (mark k p) c a = grows R p c a
grows R (fee n p) c a = let h = grows R p c (add a (penalty_cost n)) in record { overflow_below = omega (arith, h.overflow_below); burden_below = omega (arith, h.burden_below) }

-- so what the last sum has a place in, all have
pub sums : (R : Rules) (p : Plan) (c : ℕ) (a b : Cost) → Below (recount R p c a) b → Sums R p c a b
unfolding recount
sums R blank c a b h = tt
sums R (put t) c a b h = h
sums R (line i) c a b h = (record { overflow_below = omega (arith, h.overflow_below); burden_below = omega (arith, h.burden_below) }, h)
sums R (join p q) c a b h =
    let g = grows R q (last p c) (recount R p c a) in
    (sums R p c a b (record { overflow_below = omega (arith, g.overflow_below, h.overflow_below); burden_below = omega (arith, g.burden_below, h.burden_below) }), sums R q (last p c) (recount R p c a) b h)
sums R (mark k p) c a b h = sums R p c a b h
sums R (fee n p) c a b h =
    let g = grows R p c (add a (penalty_cost n)) in
    (record { overflow_below = omega (arith, g.overflow_below, h.overflow_below); burden_below = omega (arith, g.burden_below, h.burden_below) }, sums R p c (add a (penalty_cost n)) b h)
