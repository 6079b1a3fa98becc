-- Document 01, "Cost": what a layout costs as it is put together, from column c on. Telescope shows that it comes to overflow and burden.
use Rattle.std.specs.Prelude.{ℕ}
use Rattle.cost.specs.Cost.{Cost, zero_cost, add}
use Rattle.cost.specs.Charge.{text_cost, newline_cost, penalty_cost}
use Rattle.layout.specs.Rules.{Rules}
use Rattle.layout.specs.Layout.{Plan, blank, put, line, join, mark, fee, last}

abbrev pub cost_from : Rules → Plan → ℕ → Cost
cost_from R blank c = zero_cost
cost_from R (put t) c = text_cost R.charge c t.width
cost_from R (line i) c = newline_cost R.charge R.newline_cost i
cost_from R (join p q) c = add (cost_from R p c) (cost_from R q (last p c))
cost_from R (mark k p) c = cost_from R p c
cost_from R (fee a p) c = add (cost_from R p c) (penalty_cost a)
