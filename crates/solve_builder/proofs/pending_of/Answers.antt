use Rattle.solve_builder.proofs.Plans.{pended}
use Rattle.solve_builder.proofs.pending_of.Goals as goal

pub returns : goal.returns
returns c = pended _ _ _ _ c.args.c.kind c.args.c.first c.args.c.second c.pending_plan.ensures c.narrow-3.ensures c.narrow.ensures c.narrow-2.ensures
