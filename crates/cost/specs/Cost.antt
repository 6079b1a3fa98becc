-- Document 01, "Cost": a cost is overflow and burden, compared by overflow, then burden. Whole numbers without a bound.
use Rattle.std.specs.Prelude.{ℕ, ◌+◌, Bool, not, ◌&&◌, ◌||◌, ◌==◌, nat_le, nat_lt}

pub record Cost : Type 0 where
  pub overflow : ℕ
  pub burden : ℕ

abbrev pub zero_cost : Cost
zero_cost = record { overflow = 0; burden = 0 }

abbrev pub add : Cost → Cost → Cost
add a b = record { overflow = a.overflow + b.overflow; burden = a.burden + b.burden }

-- a costs no more than b
unfoldable pub cheap : Cost → Cost → Bool
cheap a b = nat_lt a.overflow b.overflow || (a.overflow == b.overflow && nat_le a.burden b.burden)

-- a costs strictly less than b
unfoldable pub cheaper : Cost → Cost → Bool
cheaper a b = not (cheap b a)
