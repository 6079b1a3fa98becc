-- Costs summed, and a sum that may be past its widths.
use Rattle.std.specs.Prelude.{◌≡◌, Result, Ok, Err, cond, List, [], ◌∷◌, ℕ, eqb, get_or}
use Rattle.cost.specs.Cost.{Cost, zero_cost, add}
use Rattle.cost.specs.Value.{value}
use Rattle.cost.specs.declared.Reason.{Reason}
use Rattle.cost.specs.declared.ConsumerCost.{ConsumerCost}
use Rattle.report.specs.Answers.{CostFits}
use Rattle.report.specs.Memory.{Words, cost_at}

unfoldable pub cost_sum : List Cost → Cost
cost_sum [] = zero_cost
cost_sum (c ∷ cs) = add c (cost_sum cs)

-- a row's cost, but of the one at skip none
unfoldable pub cost_but : List Words → ℕ → ℕ → Cost
cost_but t skip i = cond (eqb i skip) zero_cost (cost_at (get_or t i []))

-- the cost itself, or that it has no place
pub data CostTold (c : Cost) : Result ConsumerCost Reason → Type 0 where
  told : {v : ConsumerCost} → value v ≡ c → CostFits c → CostTold c (Ok v)
  past : {r : Reason} → (CostFits c → ⊥) → CostTold c (Err r)
