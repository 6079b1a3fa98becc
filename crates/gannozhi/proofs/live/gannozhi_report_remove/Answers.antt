use Rattle.report_settle.specs.Settled.{stores}
use Rattle.gannozhi.proofs.Steps.{removed}
use Rattle.gannozhi.proofs.live.gannozhi_report_remove.Goals as goal

pub returns : goal.returns
returns c = removed c.args.desk c.args.desks.now c.args.head.now c.bounds_of-b.ensures c.head_of-h.ensures c.desks_of-d.ensures c.args.place (stores c.args.files.now c.args.pages.now c.args.marks.now c.args.output.now c.args.spans.now) c.remove-r.ensures c.head_words.ensures c.desk_words.ensures c.answer_words.ensures c.answer_number.ensures
