use mathlib.Core.Path.{refl}
use Rattle.report_step.proofs.charged_step.Goals as goal

pub returns : goal.returns
returns c = rw (c.with_desks.ensures, c.charged.ensures, c.work_of.ensures) refl
