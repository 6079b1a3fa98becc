-- One candidate makes another superfluous: the test as facts. It is reflexive and transitive (proofs/Covers).
use Rattle.std.specs.Prelude.{◌≡◌, Bool, ◌&&◌, ◌||◌, ◌≤◌, ◌<◌, ltb}
use Rattle.std.proofs.Math.Path.{refl}
use Rattle.std.proofs.Common.{arith}
use Rattle.std.proofs.Math.Logic.{⊎_elim}
use Rattle.std.proofs.Math.Bool.{true, false}
use Rattle.std.proofs.Math.Dec.{eqb}
use borrow.Author.Tests.{ltb-true, eqb-true, eqb-false, lt-ltb}
use Rattle.cost.specs.Cost.{cheap, cheaper}
use Rattle.cost.specs.Logic.{no_both, or_cases, or_left, and_left, and_right, and_both, not_true, not_false, false_if}
use Rattle.cost.specs.Order.{Cheap, cheap_is, is_cheap}
use Rattle.cost.proofs.Order.{not_cheap}
use Rattle.layout.specs.Frontier.{Cand, covers}

module _ {P : Type 0} where
  pub record Before (x y : Cand P) : Type 0 where
    pub column_le : x.column ≤ y.column
    pub cost_le : Cheap x.cost y.cost
    pub tie : x.cost.overflow ≡ y.cost.overflow → x.cost.burden ≡ y.cost.burden → x.column ≡ y.column

  pub covers_is : (x y : Cand P) → covers x y ≡ true → Before x y
  unfolding covers cheaper
  covers_is x y t = ⊎_elim same lower (or_cases (eqb x.column y.column && cheap x.cost y.cost) (ltb x.column y.column && cheaper x.cost y.cost) t)
    where
      same : (eqb x.column y.column && cheap x.cost y.cost) ≡ true → Before x y
      same h =
          let q : x.column ≡ y.column = eqb-true _ _ (and_left (eqb x.column y.column) _ h) in
          record { column_le = omega arith; cost_le = cheap_is _ _ (and_right (eqb x.column y.column) _ h); tie = λ a b. q }

      lower : (ltb x.column y.column && cheaper x.cost y.cost) ≡ true → Before x y
      lower h =
          let q : x.column < y.column = ltb-true _ _ (and_left (ltb x.column y.column) _ h) in
          let n : cheap y.cost x.cost ≡ false = not_true _ (and_right (ltb x.column y.column) _ h) in
          record {
            column_le = omega arith;
            cost_le = not_cheap y.cost x.cost n;
            tie = λ a b. no_both (cheap y.cost x.cost) (is_cheap y.cost x.cost (record { overflow_le = omega arith; burden_le = λ e. omega arith })) n;
          }

  pub is_covers : (x y : Cand P) → Before x y → covers x y ≡ true
  unfolding covers cheaper
  is_covers x y h = go (eqb x.column y.column) refl
    where
      go : (t : Bool) → eqb x.column y.column ≡ t → ((t && cheap x.cost y.cost) || (ltb x.column y.column && cheaper x.cost y.cost)) ≡ true
      go true e = or_left (cheap x.cost y.cost) _ (is_cheap x.cost y.cost h.cost_le)
      go false e =
          and_both (ltb x.column y.column) (cheaper x.cost y.cost)
          (lt-ltb x.column y.column (omega (arith, h.column_le, eqb-false x.column y.column e)))
          (not_false _ (false_if _ (λ c. let d = cheap_is y.cost x.cost c in
          let o : x.cost.overflow ≡ y.cost.overflow = omega (arith, d.overflow_le, h.cost_le.overflow_le) in
          eqb-false _ _ e (h.tie o (omega (arith, d.burden_le (omega arith), h.cost_le.burden_le o))))))
