use Rattle.std.proofs.Common.{arith}
use Rattle.solve_builder.proofs.Plans.{kept_row_is}
use Rattle.solve_builder.proofs.kept_row.Goals as goal

pub returns : goal.returns
returns c = kept_row_is c.args.c c.args.plan.0 (omega arith) (omega arith)
