use Rattle.render.specs.Call.{lengths}
use Rattle.report_settle.specs.Settled.{stores}
use Rattle.gannozhi.proofs.Steps.{inserted}
use Rattle.gannozhi.proofs.live.gannozhi_report_insert.Goals as goal

pub returns : goal.returns
returns c = inserted c.args.desk c.args.desks.now c.args.head.now c.bounds_of-b.ensures c.head_of-h.ensures c.desks_of-d.ensures c.args.place c.args.file.now (stores c.args.files.now c.args.pages.now c.args.marks.now c.args.output.now c.args.spans.now) (lengths c.args.nodes.now c.args.edges.now c.args.choices.now c.args.texts.now c.args.bytes.now c.args.tasks.now c.args.results.now c.args.pending.now c.args.index.now c.args.entries.now c.args.kept.now c.args.frontier.now c.args.plans.now c.args.visit.now c.args.depth.now c.args.row_output.now c.args.row_spans.now) c.insert-r.ensures c.head_words.ensures c.desk_words.ensures c.answer_words.ensures c.answer_number.ensures
