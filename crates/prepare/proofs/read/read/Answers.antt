use Rattle.prepare.specs.File.{order}
use Rattle.prepare.proofs.read.read.Goals as goal

pub returns-then-not-tables_lent : goal.returns-then-not-tables_lent
returns-then-not-tables_lent c = order (c.tables_lent.ensures.no c.if-not-tables_lent.true)

pub read_lent-requires : goal.read_lent-requires
read_lent-requires c = c.tables_lent.ensures.yes c.if-not-tables_lent.false
