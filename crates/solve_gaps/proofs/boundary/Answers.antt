use Rattle.std.proofs.Common.{arith}
use Rattle.solve_workspace.specs.TurnLaws.{err_is}
use Rattle.solve_workspace.specs.Costs.{text_fine}
use Rattle.solve_gaps.proofs.Filling.{space_stop, space_go}
use Rattle.solve_gaps.proofs.boundary.Goals as goal

pub returns-in_err-cost : goal.returns-in_err-cost
returns-in_err-cost c = rw (err_is c.from_residual.ensures.1) (record { meets = λ P ts rs ps es e. space_stop c.args.options c.args.column c.args.indent P c.args.g.now _ _ _ _ (rw c.cost_model-model.ensures at c.text.ensures) c.in_err-cost.was; keeps = record { by = tt } })

pub overflow_add-column : goal.overflow_add-column
overflow_add-column c = let h = text_fine c.args.options c.args.column 1 _ _ (rw c.cost_model-model.ensures at c.text.ensures) c.in_ok-cost.was in omega (arith, h.small)

pub returns : goal.returns
returns c = record { meets = λ P ts rs ps es e. space_go c.args.options c.args.column c.args.indent c.args.space.0 P _ _ _ _ (rw c.cost_model-model.ensures at c.text.ensures) c.in_ok-cost.was c.scratch_candidate-c.ensures e (c.space_or_newline.ensures.meets P ts rs ps es); keeps = c.space_or_newline.ensures.keeps }
