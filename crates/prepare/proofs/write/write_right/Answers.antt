use Rattle.prepare.proofs.Written.{answer_room, answer_written}
use Rattle.prepare.proofs.write.write_right.Goals as goal

pub returns-then-out-size : goal.returns-then-out-size
returns-then-out-size c = answer_room _ _ c.requires.sized.bytes c.args.out.now _ _ c.put_tables-size.result c.requires.space_value c.requires.judged c.put_tables-size.ensures.0 c.if-out-size.true

pub returns : goal.returns
returns c = answer_written _ _ c.requires.sized.bytes c.args.out.now _ _ _ c.put_tables-size.result c.put_tables-done.result c.requires.sized c.requires.space_value c.requires.judged c.put_tables-size.ensures.0 c.if-out-size.false c.put_tables-done.ensures.0
