use Rattle.file_checks.proofs.ByKind.{first_child, second_child, both_children, no_first, annotated}
use Rattle.file_checks.proofs.names.kind_named.Goals as goal

pub returns-in-Group : goal.returns-in-Group
returns-in-Group c = first_child _ _ c.in-Ok.ensures c.in-Group.is

pub returns-in-Nest : goal.returns-in-Nest
returns-in-Nest c = second_child _ _ c.in-Ok.ensures c.in-Nest.is

pub returns-then-first-n : goal.returns-then-first-n
returns-then-first-n c = both_children _ _ c.in-Ok.ensures c.in-Choice.is c.if-first-n.true

pub returns-else-first-n : goal.returns-else-first-n
returns-else-first-n c = no_first _ _ c.in-Ok.ensures c.in-Choice.is c.if-first-n.false

pub returns-then-row-n : goal.returns-then-row-n
returns-then-row-n c = annotated _ _ c.in-Ok.ensures c.in-Annotate.is c.if-row-n.true
