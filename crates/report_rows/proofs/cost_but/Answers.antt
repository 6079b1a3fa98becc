use native.Mathlib.Omega.{arith}
use Rattle.report_rows.proofs.Costs.{but_skipped, but_other}
use Rattle.report_rows.proofs.cost_but.Goals as goal

pub returns-then-place-skip : goal.returns-then-place-skip
returns-then-place-skip c = but_skipped c.args.table.now c.args.skip c.args.place (omega arith)

pub returns : goal.returns
returns c = but_other c.args.table.now c.args.skip c.args.place (λ e. omega arith)
