use native.Mathlib.Omega.{arith}
use Rattle.file_put.proofs.Laws.{nodes_turn}
use Rattle.file_put.proofs.put_nodes.Goals as goal

pub loop-row-preserved : goal.loop-row-preserved
loop-row-preserved c =
    (nodes_turn _ _ _ _ _ _ _ _ c.loop-row.invariant.0 c.loop-row-test.true c.put_node-next.ensures.0, omega (arith, c.loop-row.invariant.1, c.put_node-next.ensures.1))
