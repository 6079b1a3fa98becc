-- The settings of document 01, with the rule of document 02, change 5, as rules of layout and cost.
use Rattle.std.specs.Prelude.{ℕ, zero, suc, ◌-◌, min}
use Rattle.cost.specs.Charge.{charged}

pub record Rules : Type 0 where
  pub charge : ℕ → ℕ  -- of a line of so many columns
  pub newline_cost : ℕ
  pub lower : ℕ → ℕ  -- how Nest and Align lower the indent that they set

-- policy 0 keeps the indent, policy 1 lowers it to W − 1 at most
abbrev pub policy : ℕ → ℕ → ℕ → ℕ
policy zero w i = i
policy (suc p) w i = min i (w - 1)

-- under a cost rule, at a page width, a newline cost and a policy
abbrev pub charging : ℕ → ℕ → ℕ → ℕ → Rules
charging r w n p = record { charge = charged r w; newline_cost = n; lower = policy p w }
