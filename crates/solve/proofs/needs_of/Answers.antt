use Rattle.solve_workspace.specs.Words.{low_is}
use Rattle.solve_workspace.specs.Meets.{needs_in}
use Rattle.solve.proofs.needs_of.Goals as goal

pub returns : goal.returns
returns c = let n = needs_in c.args.g.now in let w = c.requires in rw (c.max.ensures, low_is n.stack w.stack, low_is n.memo w.memo, low_is n.kept w.kept, low_is n.frontier w.frontier, low_is n.plans w.plans)
