use native.Mathlib.Omega.{arith}
use Rattle.file_put.proofs.Laws.{node_put}
use Rattle.file_put.proofs.put_node.Goals as goal

pub put_if-requires : goal.put_if-requires
put_if-requires c = omega (arith, c.put_if-a.ensures.1, c.put_if-b.ensures.1, c.put_if-c.ensures.1, c.put_if-d.ensures.1, c.put_if-e.ensures.1, c.requires.0)

pub returns : goal.returns
returns c = node_put _ c.args.out.now _ _ c.args.at _ c.node_map-m.ensures.0 c.put.ensures c.put-2.ensures c.put_if-a.ensures c.put_if-b.ensures c.put_if-c.ensures c.put_if-d.ensures c.put_if-e.ensures c.put_if.ensures
