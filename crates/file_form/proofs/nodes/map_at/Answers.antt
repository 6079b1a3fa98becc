use Rattle.file_form.specs.Nodes.{map_at}
use Rattle.file_form.proofs.nodes.map_at.Goals as goal

pub returns : goal.returns
unfolding map_at
returns c = rw (c.checked.ensures, c.map_right.ensures, c.byte_at-b.ensures)
