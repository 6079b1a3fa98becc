use mathlib.Core.Path.{◌≡◌}
use lib.ListN.{length}
use Rattle.render.specs.Call.{lengths as lengths_of}
use Rattle.batch_call.specs.Going.{Came}
use Rattle.batch_call.proofs.file_documents.Given as goal

abbrev pub invariant-loop : goal.invariant-loop
invariant-loop l = (lengths_of l.nodes l.edges l.choices l.texts l.bytes l.tasks l.results l.pending l.index l.entries l.kept l.frontier l.plans l.visit l.depth l.output l.spans ≡ lengths_of l.initial.nodes l.initial.edges l.initial.choices l.initial.texts l.initial.bytes l.initial.tasks l.initial.results l.initial.pending l.initial.index l.initial.entries l.initial.kept l.initial.frontier l.initial.plans l.initial.visit l.initial.depth l.initial.output l.initial.spans) × (length l.answers ≡ length l.initial.answers) × Came l.desk l.desks l.options l.b (lengths_of l.initial.nodes l.initial.edges l.initial.choices l.initial.texts l.initial.bytes l.initial.tasks l.initial.results l.initial.pending l.initial.index l.initial.entries l.initial.kept l.initial.frontier l.initial.plans l.initial.visit l.initial.depth l.initial.output l.initial.spans) l.files l.lengths l.counter l.initial.output l.output l.initial.spans l.spans l.initial.answers l.answers l.p
