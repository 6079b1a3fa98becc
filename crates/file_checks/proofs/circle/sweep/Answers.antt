use Rattle.file_checks.proofs.Circles.{sweep_end}
use Rattle.file_checks.proofs.circle.sweep.Goals as goal

pub returns : goal.returns
returns c = sweep_end _ _ _ _ c.loop-i-test.false c.loop-i.invariant
