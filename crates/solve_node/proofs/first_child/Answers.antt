use Rattle.solve_node.proofs.Steps.{started_at, nest_start, nest_failed}
use Rattle.std.proofs.Common.{◌≡◌}
use Rattle.cost.specs.declared.Reason.TheVariants.{Indent}
use Rattle.std.proofs.lemmas.Result.{err_from_is_err_and}
use native.Mathlib.Omega.{arith}
use Rattle.solve_node.proofs.first_child.Goals as goal

pub returns-in_err-nested-in-Nest : goal.returns-in_err-nested-in-Nest
returns-in_err-nested-in-Nest c =
    let n = rw c.in_err-nested-in-Nest.ensures.ok_part at c.checked_add.ensures in
    let v = rw c.in_err-nested-in-Nest.ensures.ok_part at c.in_err-nested-in-Nest.ensures.value in
    let e : c.in_err-nested-in-Nest.field-0.0 ≡ Indent = cc in
    let p = err_from_is_err_and c.from_residual.result c.from_residual.ensures.1 in
    started_at c.in-Nest.is (rw (p.1, p.2, e) (nest_failed _ c.args.key _ _ (omega (arith, n))))

pub returns-in_ok-nested-in-Nest : goal.returns-in_ok-nested-in-Nest
returns-in_ok-nested-in-Nest c =
    let n = rw c.in_ok-nested-in-Nest.ensures.ok_part at c.checked_add.ensures in
    started_at c.in-Nest.is (nest_start _ c.args.key _ _ _ n.0 (rw (← n.1) c.effective_indent.ensures))
