use mathlib.Core.Path.{refl}
use native.Mathlib.Omega.{arith}
use Rattle.solve_workspace.specs.Stacks.{kept_past, kept_at}
use Rattle.solve_workspace.proofs.candidate_at.Goals as goal

pub returns-then-count-index : goal.returns-then-count-index
returns-then-count-index c = kept_past c.args.kept.now c.args.count c.args.index (omega arith) (omega arith)

pub returns : goal.returns
returns c = kept_at c.args.kept.now c.args.count c.args.index _ (omega arith) (omega arith) refl c.narrow.ensures refl c.narrow-2.ensures
