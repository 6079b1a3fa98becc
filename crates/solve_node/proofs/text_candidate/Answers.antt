use native.Mathlib.Omega.{arith}
use Rattle.std.proofs.lemmas.Result.{err_from_is_err_and}
use Rattle.machine.specs.Model.{memo_key}
use Rattle.solve_workspace.specs.Costs.{text_fine}
use Rattle.solve_node.proofs.Leaves.{text_leaf, text_fails}
use Rattle.solve_node.proofs.text_candidate.Goals as goal

pub returns-in_err-cost : goal.returns-in_err-cost
returns-in_err-cost c = λ indent node. let p = err_from_is_err_and c.from_residual.result c.from_residual.ensures.1 in rw (p.1, p.2) (text_fails c.args.options (memo_key node c.args.column indent) c.args.text c.args.width _ _ (rw c.cost_model-model.ensures at c.text.ensures) c.in_err-cost.was)

pub overflow_add-column : goal.overflow_add-column
overflow_add-column c = let h = text_fine c.args.options c.args.column c.args.width _ _ (rw c.cost_model-model.ensures at c.text.ensures) c.in_ok-cost.was in omega (arith, h.small)

pub returns : goal.returns
returns c = λ indent node. text_leaf c.args.options (memo_key node c.args.column indent) c.args.text c.args.width _ _ _ (rw c.cost_model-model.ensures at c.text.ensures) c.in_ok-cost.was c.scratch_candidate.ensures
