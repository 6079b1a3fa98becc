use Rattle.solve_workspace.specs.Rows.{scratch_of}
use Rattle.solve_workspace.proofs.pending_at.Goals as goal

pub returns : goal.returns
unfolding scratch_of
returns c = rw c.narrow.ensures
