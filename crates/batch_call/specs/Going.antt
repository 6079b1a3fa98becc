-- How a batch goes on, document by document; D are the desks before it.
use Rattle.std.specs.Prelude.{◌≡◌, List, ℕ, ◌+◌, ◌≤◌, ◌<◌, ◌^◌, length, get_or, take}
use Rattle.stats.specs.declared.SolveStats.{SolveStats}
use Rattle.solve_workspace.specs.declared.Bounds.{Bounds}
use Rattle.solve_workspace.specs.declared.RenderOptions.{RenderOptions}
use Rattle.materialize.specs.Rows.{Row}
use Rattle.render.specs.declared.order.Lengths.{Lengths}
use Rattle.desks.specs.declared.Desks.{Desks}
use Rattle.desks.specs.Desks.{last_desk, remaining}
use Rattle.batch.specs.declared.Progress.{Progress}
use Rattle.batch.specs.Documents.{cut, total, document, most_documents}
use Rattle.batch.specs.Batch.{One, Filed}
use Rattle.batch.specs.Values.{beginning, held}

-- the documents are few and have their rows and bytes; what is used is within its sizes and these within what is lent; the next document starts behind those before it; their work was the desk's to do; and what the types of sizes and desks say
pub record Ready (d : ℕ) (D : Desks) (b : Bounds) (files lengths : List ℕ) (p : Progress) (output : List ℕ) (rows answers : List Row) : Type 0 where
  pub desk : d ≤ last_desk
  pub few : length lengths ≤ most_documents
  pub answers_lent : length lengths ≤ length answers
  pub files_lent : total lengths ≤ length files
  pub output_lent : b.output ≤ length output
  pub rows_lent : b.spans ≤ length rows
  pub bytes_in : p.bytes ≤ b.output
  pub spans_in : p.spans ≤ b.spans
  pub at_is : p.at ≡ total (take p.filed lengths)
  pub work_in : p.work ≤ remaining D d
  pub sizes : (b.output < 2 ^ 32) × (b.spans < 2 ^ 32)
  pub counted : last_desk < length D.spent
  pub allowance : get_or D.allowance d 0 < 2 ^ 64

-- one document, whatever counts stood in the record before the batch
pub record Tried (d : ℕ) (D : Desks) (o : RenderOptions) (b : Bounds) (l : Lengths) (files lengths : List ℕ) (p : Progress) (output₀ output : List ℕ) (rows₀ rows answers₀ answers : List Row) (q : Progress) : Type 0 where
  pub one : (k : SolveStats) → One d o b l (document files lengths p.filed) (held d (record { stats = k; desks = D }) p output₀ rows₀ answers₀) (held d (record { stats = k; desks = D }) q output rows answers)
  pub filed_is : q.filed ≡ p.filed + 1
  pub ready : Ready d D b files lengths q output rows answers

-- the first n documents
pub record Came (d : ℕ) (D : Desks) (o : RenderOptions) (b : Bounds) (l : Lengths) (files lengths : List ℕ) (n : ℕ) (output₀ output : List ℕ) (rows₀ rows answers₀ answers : List Row) (q : Progress) : Type 0 where
  pub filed : (k : SolveStats) → Filed d o b l (take n (cut files lengths)) (held d (record { stats = k; desks = D }) beginning output₀ rows₀ answers₀) (held d (record { stats = k; desks = D }) q output rows answers)
  pub filed_is : q.filed ≡ n
  pub ready : Ready d D b files lengths q output rows answers
