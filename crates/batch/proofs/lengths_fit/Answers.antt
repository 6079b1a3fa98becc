use mathlib.Core.Path.{refl}
use Rattle.file_checks.specs.Tells.{tell_no}
use Rattle.batch.proofs.Gates.{past_files, one_fits}
use Rattle.batch.proofs.lengths_fit.Goals as goal

pub returns-then-left-n : goal.returns-then-left-n
returns-then-left-n c = tell_no (λ t. past_files _ _ _ _ c.loop-n-test.true c.loop-n.invariant c.if-left-n.true t)

pub loop-n-preserved : goal.loop-n-preserved
loop-n-preserved c = one_fits _ _ _ _ _ c.loop-n-test.true c.loop-n.invariant refl c.if-left-n.false
