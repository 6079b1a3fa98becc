use Rattle.file_put.proofs.Laws.{bytes_turn}
use Rattle.file_put.proofs.put_bytes.Goals as goal

pub loop-i-preserved : goal.loop-i-preserved
loop-i-preserved c = bytes_turn _ _ _ _ _ _ c.loop-i.invariant c.loop-i-test.true c.put.ensures
