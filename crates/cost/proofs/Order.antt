-- Of two costs one is no more than the other.
use Rattle.std.specs.Prelude.{◌≡◌, ◌≤◌, Bool, true, false, nat_le, refl}
use Rattle.std.proofs.Common.{arith, leb-true, leb-false}
use Rattle.cost.specs.Cost.{Cost, cheap}
use Rattle.cost.specs.Logic.{no_both}
use Rattle.cost.specs.Order.{Cheap, is_cheap}

pub not_cheap : (a b : Cost) → cheap a b ≡ false → Cheap b a
not_cheap a b e = record { overflow_le = first (nat_le b.overflow a.overflow) refl; burden_le = λ q. second q (nat_le b.burden a.burden) refl }
  where
    first : (t : Bool) → nat_le b.overflow a.overflow ≡ t → b.overflow ≤ a.overflow
    first true f = leb-true _ _ f
    first false f = no_both (cheap a b) (is_cheap a b (record { overflow_le = omega (arith, leb-false b.overflow a.overflow f); burden_le = λ g. omega (arith, leb-false b.overflow a.overflow f) })) e

    second : b.overflow ≡ a.overflow → (t : Bool) → nat_le b.burden a.burden ≡ t → b.burden ≤ a.burden
    second q true f = leb-true _ _ f
    second q false f = no_both (cheap a b) (is_cheap a b (record { overflow_le = omega arith; burden_le = λ g. omega (arith, leb-false b.burden a.burden f) })) e
