use Rattle.solve_right.proofs.Rights.{child_read}
use Rattle.solve_right.proofs.child_number.Goals as goal

pub returns : goal.returns
returns c = rw c.unwrap_or.ensures (child_read _ _ _ c.sequence_child.ensures)
