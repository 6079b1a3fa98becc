-- A batch's progress and answer, as the code has them.
use Rattle.std.specs.Prelude.{List, [], ℕ, zero, suc, ◌+◌, ◌<◌, ◌^◌, get_or}
use Rattle.stats.specs.declared.SolveStats.{SolveStats}
use Rattle.materialize.specs.Rows.{Row}
use Rattle.render.specs.Rendered.{Rendered, page_length, span_count}
use Rattle.desks.specs.declared.SharedRecord.{SharedRecord}
use Rattle.desks.specs.Desks.{charged}
use Rattle.desks.specs.Lent.{work_in}
use Rattle.call_words.specs.Accounts.{counts_from}
use Rattle.batch.specs.declared.FiledAll.{FiledAll}
use Rattle.batch.specs.declared.Progress.{Progress}
use Rattle.batch.specs.Documents.{most_documents}
use Rattle.batch.specs.Batch.{Batch}
use Rattle.batch.specs.Batched.{turned_away}

abbrev pub refusal : ℕ → ℕ → SharedRecord → FiledAll
refusal number documents s = record { number = number; tried = 0; bytes = 0; spans = 0; shared = turned_away documents s }

abbrev pub beginning : Progress
beginning = record { at = 0; filed = 0; bytes = 0; spans = 0; work = 0 }

-- a document more, whose bytes end at `to`, and which takes so many bytes, spans and so much work
abbrev pub advanced : Progress → ℕ → ℕ → ℕ → ℕ → Progress
advanced p to bytes spans work = record { at = to; filed = p.filed + 1; bytes = p.bytes + bytes; spans = p.spans + spans; work = p.work + work }

abbrev pub gone_on : Progress → ℕ → Rendered → Progress
gone_on p to a = advanced p to (page_length a) (span_count a) (work_in a)

-- what a document takes has its place
abbrev pub Taken : Progress → Rendered → Type 0
Taken p a = (p.filed < most_documents) × (p.bytes + page_length a < 2 ^ 32) × (p.spans + span_count a < 2 ^ 32) × (p.work + work_in a < 2 ^ 64)

-- the counts of the last of so many documents stand in its row
abbrev pub last_counts : SolveStats → ℕ → List Row → SolveStats
last_counts before zero answers = before
last_counts before (suc n) answers = counts_from 7 (get_or answers n [])

-- the record after the documents so far, from the record before the batch
abbrev pub record_then : ℕ → SharedRecord → Progress → List Row → SharedRecord
record_then d s p answers = record { stats = last_counts s.stats p.filed answers; desks = charged s.desks d p.work }

abbrev pub ending : ℕ → SharedRecord → Progress → List Row → FiledAll
ending d s p answers = record { number = 0; tried = p.filed; bytes = p.bytes; spans = p.spans; shared = record_then d s p answers }

-- a batch that has come so far, with the memory as it stands
abbrev pub held : ℕ → SharedRecord → Progress → List ℕ → List Row → List Row → Batch
held d s p output rows answers = record { shared = record_then d s p answers; output = output; rows = rows; answers = answers; bytes = p.bytes; spans = p.spans; filed = p.filed }
