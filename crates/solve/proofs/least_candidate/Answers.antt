use Rattle.solve.proofs.Least.{least_starts, least_goes, least_ends}
use Rattle.solve_workspace.specs.Rows.{candidate, candidate_of, row_list}
use native.Mathlib.Omega.{arith}
use Rattle.solve.proofs.least_candidate.Goals as goal

pub loop-i-init : goal.loop-i-init
loop-i-init c = least_starts (row_list candidate_of c.args.kept.now c.args.count) c.args.start c.args.len (candidate c.candidate_at-best.result) c.requires.0 c.candidate_at-best.ensures

pub loop-i-preserved : goal.loop-i-preserved
loop-i-preserved c = least_goes (row_list candidate_of c.args.kept.now c.args.count) c.args.start c.loop-i.i c.args.len (candidate c.loop-i.best) (candidate c.candidate_at-next.result) (candidate c.lesser-best.result) _ (omega arith) c.candidate_at-next.ensures c.lesser-best.ensures c.loop-i.invariant

pub returns : goal.returns
returns c = least_ends (row_list candidate_of c.args.kept.now c.args.count) c.args.start c.loop-i.i c.args.len (candidate c.loop-i.best) _ (omega arith) c.loop-i.invariant
