use Rattle.solve_workspace.specs.Words.{words_plan}
use native.Mathlib.Omega.{arith}
use Rattle.solve_workspace.proofs.scratch_candidate.Goals as goal

pub returns : goal.returns
returns c = rw (words_plan c.args.plan c.from-words.result c.from-words.ensures (omega arith) (omega arith) (omega arith))
