use mathlib.Core.Path.{refl, ◌∙◌}
use Rattle.batch_call.proofs.Filing.{alike, at_first, to_try, one_more}
use Rattle.batch_call.proofs.file_documents.Goals as goal

pub loop-init : goal.loop-init
loop-init c = (refl, refl, at_first c.begin-p.ensures c.requires)

pub one_document-p-requires : goal.one_document-p-requires
one_document-p-requires c = to_try c.loop-test.true c.loop.invariant.2

pub loop-preserved : goal.loop-preserved
loop-preserved c = (alike c.one_document-p.auto.nodes c.one_document-p.auto.edges c.one_document-p.auto.choices c.one_document-p.auto.texts c.one_document-p.auto.bytes c.one_document-p.auto.tasks c.one_document-p.auto.results c.one_document-p.auto.pending c.one_document-p.auto.index c.one_document-p.auto.entries c.one_document-p.auto.kept c.one_document-p.auto.frontier c.one_document-p.auto.plans c.one_document-p.auto.visit c.one_document-p.auto.depth c.one_document-p.auto.output c.one_document-p.auto.spans ∙ c.loop.invariant.0, c.one_document-p.auto.answers ∙ c.loop.invariant.1, one_more c.loop.invariant.0 c.loop-test.true c.loop.invariant.2 c.one_document-p.ensures)
