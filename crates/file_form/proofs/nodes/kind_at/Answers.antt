use Rattle.file_form.specs.Nodes.{kind_at}
use Rattle.file_form.proofs.nodes.kind_at.Goals as goal

pub returns : goal.returns
unfolding kind_at
returns c = rw (c.checked.ensures, c.pair_right.ensures, c.byte_at-b.ensures)
