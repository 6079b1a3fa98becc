use Rattle.gannozhi.proofs.Told.{wrote}
use Rattle.gannozhi.proofs.gannozhi_write.Goals as goal

pub returns : goal.returns
returns c = wrote _ _ _ _ _ _ _ c.write-o.result c.counts_of-n.ensures c.write-o.ensures c.write_size.ensures c.write_number.ensures
