-- What is added up as a layout is put together comes to the overflow and the burden of its lines.
use Rattle.std.specs.Prelude.{◌≡◌, refl, ℕ, ◌+◌}
use mathlib.Core.List.{List, [], ◌∷◌, ◌++◌, foldr}
use Rattle.std.proofs.Common.{arith}
use Rattle.cost.specs.Rising.{rises, at_zero}
use Rattle.layout.specs.Rules.{Rules}
use Rattle.layout.specs.Lawful.{Lawful}
use Rattle.layout.specs.Layout.{Plan, blank, put, line, join, mark, fee, last, closed, overflow_of, burden_of}
use Rattle.layout.specs.Choice.{price}
use Rattle.layout.specs.Running.{cost_from}

abbrev pub sum_of : (ℕ → ℕ) → List ℕ → ℕ
sum_of f l = foldr (λ n s. f n + s) 0 l

pub sum_append : (f : ℕ → ℕ) (l m : List ℕ) → sum_of f (l ++ m) ≡ sum_of f l + sum_of f m
sum_append f [] m = omega arith
sum_append f (n ∷ l) m = omega (arith, sum_append f l m)

pub burden_is : (R : Rules) (p : Plan) (c : ℕ) → (cost_from R p c).burden ≡ burden_of R p
burden_is R blank c = refl
burden_is R (put t) c = refl
burden_is R (line i) c = refl
burden_is R (join p q) c = omega (arith, burden_is R p c, burden_is R q (last p c))
burden_is R (mark k p) c = burden_is R p c
burden_is R (fee a p) c = omega (arith, burden_is R p c)

module _ (R : Rules) (L : Lawful R) where
  -- the closed lines and the open one; the line that is open at the start is charged before
  pub telescope : (p : Plan) (c : ℕ) → R.charge c + (cost_from R p c).overflow ≡ sum_of R.charge (closed p c) + R.charge (last p c)
  telescope blank c = omega arith
  telescope (put t) c = omega (arith, rises L.rising c (c + t.width) (omega arith))
  telescope (line i) c = omega arith
  telescope (join p q) c = omega (arith, telescope p c, telescope q (last p c), sum_append R.charge (closed p c) (closed q (last p c)))
  telescope (mark k p) c = telescope p c
  telescope (fee a p) c = omega (arith, telescope p c)

  pub overflow_is : (p : Plan) → (cost_from R p 0).overflow ≡ overflow_of R p
  overflow_is p = omega (arith, telescope p 0, at_zero L.rising, sum_append R.charge (closed p 0) (last p 0 ∷ []))

  pub price_is : (p : Plan) → cost_from R p 0 ≡ price R p
  price_is p = λ j. record { overflow = overflow_is p j; burden = burden_is R p 0 j }
