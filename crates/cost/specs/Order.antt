-- The order of costs as facts, and its laws.
use Rattle.std.specs.Prelude.{◌≡◌, ◌<◌, ◌≤◌, Bool, true, false, ◌&&◌, ◌||◌, ◌==◌, nat_le, nat_lt, refl}
use Rattle.std.proofs.Common.{⊎_elim, arith, leb-true, ltb-true, ltb-false, eqb-true, le-leb, eq-eqb}
use Rattle.cost.specs.Cost.{Cost, add, cheap}
use Rattle.cost.specs.Logic.{or_cases, and_left, and_right, and_both}

-- as much overflow at most and, where exactly as much, as much burden at most
pub record Cheap (a b : Cost) : Type 0 where
  pub overflow_le : a.overflow ≤ b.overflow
  pub burden_le : a.overflow ≡ b.overflow → a.burden ≤ b.burden

pub cheap_refl : (a : Cost) → Cheap a a
cheap_refl a = record { overflow_le = omega arith; burden_le = λ e. omega arith }

pub cheap_trans : {a b c : Cost} → Cheap a b → Cheap b c → Cheap a c
cheap_trans h k = record { overflow_le = omega arith; burden_le = λ e. omega (arith, h.burden_le (omega arith), k.burden_le (omega arith)) }

pub cheap_add : {a b c d : Cost} → Cheap a b → Cheap c d → Cheap (add a c) (add b d)
cheap_add h k = record { overflow_le = omega arith; burden_le = λ e. omega (arith, h.burden_le (omega arith), k.burden_le (omega arith)) }

pub cheap_is : (a b : Cost) → cheap a b ≡ true → Cheap a b
unfolding cheap
cheap_is a b t = ⊎_elim
    (λ h. let l : a.overflow < b.overflow = ltb-true _ _ h in record { overflow_le = omega arith; burden_le = λ e. omega arith })
    (λ h. let l : a.overflow ≡ b.overflow = eqb-true _ _ (and_left (a.overflow == b.overflow) _ h) in
    let m : a.burden ≤ b.burden = leb-true _ _ (and_right (a.overflow == b.overflow) _ h) in record { overflow_le = omega arith; burden_le = λ e. omega arith })
    (or_cases (nat_lt a.overflow b.overflow) (a.overflow == b.overflow && nat_le a.burden b.burden) t)

pub is_cheap : (a b : Cost) → Cheap a b → cheap a b ≡ true
unfolding cheap
is_cheap a b h = go (nat_lt a.overflow b.overflow) refl
  where
    go : (t : Bool) → nat_lt a.overflow b.overflow ≡ t → (t || (a.overflow == b.overflow && nat_le a.burden b.burden)) ≡ true
    go true e = refl
    go false e =
        let q : a.overflow ≡ b.overflow = omega (arith, ltb-false a.overflow b.overflow e, h.overflow_le) in
        and_both (a.overflow == b.overflow) (nat_le a.burden b.burden) (eq-eqb a.overflow b.overflow q) (le-leb a.burden b.burden (h.burden_le q))
