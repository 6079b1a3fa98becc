-- A batch (document 02, change 9): its own refusals are 1, 28 and 29, in this order; otherwise each document is filed.
use Rattle.std.specs.Prelude.{◌≡◌, List, ℕ, zero, suc, ◌≤◌, ◌<◌, min, length}
use Rattle.stats.specs.Counts.{none_counted}
use Rattle.solve_workspace.specs.declared.Bounds.{Bounds}
use Rattle.solve_workspace.specs.declared.RenderOptions.{RenderOptions}
use Rattle.materialize.specs.Rows.{Row}
use Rattle.render.specs.declared.order.Lengths.{Lengths}
use Rattle.render.specs.Order.{InOrder}
use Rattle.desks.specs.declared.SharedRecord.{SharedRecord}
use Rattle.desks.specs.Desks.{last_desk}
use Rattle.batch.specs.declared.FiledAll.{FiledAll}
use Rattle.batch.specs.Documents.{cut, total, most_documents}
use Rattle.batch.specs.Batch.{Batch, Filed}

-- what 1 asks: all that a single call with the whole sizes is asked; a row of answers for each document, or 64 where there are more; the bytes of all of them
pub record BatchLent (o : RenderOptions) (b : Bounds) (l : Lengths) (files : ℕ) (lengths : List ℕ) (answers : ℕ) : Type 0 where
  pub in_order : InOrder o b l
  pub answers_lent : min (length lengths) most_documents ≤ answers
  pub files_lent : total lengths ≤ files

-- a refused batch leaves all but the counts in the record, which are 0; "no document alters nothing", the counts neither
abbrev pub turned_away : ℕ → SharedRecord → SharedRecord
turned_away zero s = s
turned_away (suc documents) s = record { stats = none_counted; desks = s.desks }

abbrev pub refused_batch : List ℕ → Batch → Batch
refused_batch lengths F = record { shared = turned_away (length lengths) F.shared; output = F.output; rows = F.rows; answers = F.answers; bytes = F.bytes; spans = F.spans; filed = F.filed }

pub data Batched (d : ℕ) (o : RenderOptions) (b : Bounds) (l : Lengths) (files lengths : List ℕ) (F : Batch) : ℕ → Batch → Type 0 where
  out_of_order : (BatchLent o b l (length files) lengths (length F.answers) → ⊥) → Batched d o b l files lengths F 1 (refused_batch lengths F)
  no_desk : BatchLent o b l (length files) lengths (length F.answers) → last_desk < d → Batched d o b l files lengths F 28 (refused_batch lengths F)
  too_many : BatchLent o b l (length files) lengths (length F.answers) → d ≤ last_desk → most_documents < length lengths → Batched d o b l files lengths F 29 (refused_batch lengths F)
  filed : {G : Batch} → BatchLent o b l (length files) lengths (length F.answers) → d ≤ last_desk → length lengths ≤ most_documents → Filed d o b l (cut files lengths) F G → Batched d o b l files lengths F 0 G

-- a batch's own numbers; 0 is that each document was tried
pub data BatchNumbered (n : ℕ) : Type 0 where
  order : n ≡ 1 → BatchNumbered n
  desk : n ≡ 28 → BatchNumbered n
  many : n ≡ 29 → BatchNumbered n

-- ---- over what the code has

-- before the first document nothing is used
abbrev pub begun : SharedRecord → List ℕ → List Row → List Row → Batch
begun s output rows answers = record { shared = s; output = output; rows = rows; answers = answers; bytes = 0; spans = 0; filed = 0 }

abbrev pub ended : FiledAll → List ℕ → List Row → List Row → Batch
ended r output rows answers = record { shared = r.shared; output = output; rows = rows; answers = answers; bytes = r.bytes; spans = r.spans; filed = r.tried }

-- what the number of the gate says; 0 is that the documents may be tried
pub data BatchGate (lent : Type 0) (d documents : ℕ) : ℕ → Type 0 where
  opens : lent → d ≤ last_desk → documents ≤ most_documents → BatchGate lent d documents 0
  order : (lent → ⊥) → BatchGate lent d documents 1
  desk : lent → last_desk < d → BatchGate lent d documents 28
  many : lent → d ≤ last_desk → most_documents < documents → BatchGate lent d documents 29
