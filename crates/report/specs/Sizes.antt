-- Document 02, change 10, for a step: with just its needs as sizes the same page comes on the same report, and with exactly one of them smaller the refusal by that kind's own number (proofs/Sizes).
use Rattle.std.specs.Prelude.{◌≡◌}
use Rattle.machine.specs.Events.{Bounds, Needs, Kind}
use Rattle.machine.specs.Just.{RefusedBy}
use Rattle.report.specs.Report.{Report}
use Rattle.report.specs.Exactly.{Both}

-- ---- with exactly one of them smaller

-- a refused step: by which kind, and the report stays
pub record StepRefusedBy (x : Kind) (q : Needs) (d : Bounds) (X : Report) (z : Both) : Type 0 where
  pub by : RefusedBy x q d z.answer
  pub kept : z.after ≡ X
