use Rattle.file_put.proofs.Laws.{header_put}
use Rattle.file_put.proofs.put_header.Goals as goal

pub returns : goal.returns
returns c = header_put _ _ _ _ _ _ _ c.args.out.now _ _ c.header_map-m.ensures.0 c.put.ensures c.put_if-p1.ensures c.put_if-p2.ensures c.put_if-p3.ensures c.put_if-p4.ensures c.put_if-p5.ensures c.put_if-p6.ensures c.put_if.ensures
