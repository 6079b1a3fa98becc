use Rattle.std.proofs.Common.{refl, arith}
use Rattle.stats.specs.Counts.{bumped}
use Rattle.solve_workspace.specs.Work.{miss_go}
use Rattle.solve_workspace.proofs.work_miss.Goals as goal

pub returns-clause-meets : goal.returns-clause-meets
unfolding bumped
returns-clause-meets c = miss_go c.args.b c.args.g.now _ refl (omega arith) c.requires
