use Rattle.gannozhi.proofs.Told.{answered}
use Rattle.gannozhi.proofs.gannozhi_render.Goals as goal

pub returns : goal.returns
returns c = answered c.args.desk c.args.desks.now _ _ _ _ _ _ c.render_for-r.result c.options_of-o.ensures c.bounds_of-b.ensures c.desks_of-d.ensures c.render_for-r.ensures c.desk_words.ensures c.answer_words.ensures c.answer_number.ensures
