use native.Mathlib.Omega.{arith}
use Rattle.file_utf8.specs.Tells.{tell_no}
use Rattle.file_utf8.proofs.Laws.{so_ill}
use Rattle.file_utf8.proofs.Ends.{so_end}
use Rattle.file_utf8.proofs.well_formed.Goals as goal

pub returns-in_default : goal.returns-in_default
returns-in_default c = tell_no (so_ill _ _ _ _ c.loop-b.invariant (omega arith) c.follow.ensures c.in_default.is)

pub returns : goal.returns
returns c = so_end _ _ _ c.loop-b.invariant (omega arith)
