use Rattle.solve_builder.proofs.Plans.{commits_one}
use Rattle.solve_builder.proofs.commit.Goals as goal

pub returns : goal.returns
returns c = commits_one _ c.pending_of.result c.args.kept.now c.args.plans.now _ c.args.k c.args.n _ _ c.requires.kept c.pending_of.ensures c.kept_row.ensures c.commit_plan-done.ensures
