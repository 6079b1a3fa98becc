-- What is asked of rules: everything here is proved of all lawful rules, of which those of any settings are instances (Charging).
use Rattle.std.specs.Prelude.{ℕ, ◌≤◌}
use Rattle.cost.specs.Rising.{Rising}
use Rattle.layout.specs.Rules.{Rules}

-- the charge is 0 up to the width and rises from there by steps that never shrink; a smaller indent is never lowered to a larger one
pub record Lawful (R : Rules) : Type 0 where
  pub width : ℕ
  pub rising : Rising width R.charge
  pub lowers : (a b : ℕ) → a ≤ b → R.lower a ≤ R.lower b
