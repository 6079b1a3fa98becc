use Rattle.file_put.proofs.Laws.{text_put}
use Rattle.file_put.proofs.put_text.Goals as goal

pub returns : goal.returns
returns c = text_put _ c.args.part.now c.args.out.now _ c.args.at _ c.text_map-m.ensures.0 c.put.ensures c.put_if-a.ensures c.put_if-b.ensures c.put_bytes.ensures
