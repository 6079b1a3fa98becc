-- That one candidate makes another superfluous is reflexive and transitive.
use Rattle.std.specs.Prelude.{◌≡◌}
use Rattle.std.proofs.Math.Path.{refl}
use Rattle.std.proofs.Common.{◌∙◌, arith}
use Rattle.std.proofs.Math.Bool.{true}
use Rattle.cost.specs.Order.{cheap_refl, cheap_trans}
use Rattle.layout.specs.Frontier.{Cand, covers}
use Rattle.layout.specs.Covers.{covers_is, is_covers}

module _ {P : Type 0} where
  pub covers_refl : (x : Cand P) → covers x x ≡ true
  covers_refl x = is_covers x x (record { column_le = omega arith; cost_le = cheap_refl x.cost; tie = λ a b. refl })

  pub covers_trans : (x y z : Cand P) → covers x y ≡ true → covers y z ≡ true → covers x z ≡ true
  covers_trans x y z s t =
      let h = covers_is x y s in
      let k = covers_is y z t in
      is_covers x z (record {
        column_le = omega (arith, h.column_le, k.column_le);
        cost_le = cheap_trans h.cost_le k.cost_le;
        tie = λ a b.
            let p : x.cost.overflow ≡ y.cost.overflow = omega (arith, h.cost_le.overflow_le, k.cost_le.overflow_le) in
            let q : y.cost.overflow ≡ z.cost.overflow = omega arith in
            let m : x.cost.burden ≡ y.cost.burden = omega (arith, h.cost_le.burden_le p, k.cost_le.burden_le q) in
            h.tie p m ∙ k.tie q (omega arith);
      })
