use mathlib.Core.Path.{refl}
use Rattle.report_step.proofs.shut_step.Goals as goal

pub returns : goal.returns
returns c = rw (c.with_desks.ensures, c.refused_step.ensures) refl
