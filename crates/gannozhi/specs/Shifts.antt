-- A shift's files in one go (document 02, change 9), as they are handed to another language.
use Rattle.std.specs.Prelude.{◌≡◌, refl, List, [], ℕ, length}
use Rattle.std.proofs.Common.{sym, ap, subst, ◌∙◌}
use Rattle.solve_workspace.specs.declared.Bounds.{Bounds}
use Rattle.solve_workspace.specs.declared.RenderOptions.{RenderOptions}
use Rattle.materialize.specs.Rows.{Row}
use Rattle.render.specs.declared.order.Lengths.{Lengths}
use Rattle.desks.specs.declared.SharedRecord.{SharedRecord}
use Rattle.call_words.specs.Words.{count_words}
use Rattle.call_words.specs.Accounts.{desks_at, desk_words, counts_from}
use Rattle.call_words.specs.Again.{desks_again, counts_again}
use Rattle.batch.specs.declared.FiledAll.{FiledAll}
use Rattle.batch.specs.Batch.{Batch}
use Rattle.batch.specs.Batched.{Batched, out_of_order, no_desk, too_many, filed, BatchNumbered, order, desk, many, begun, ended}
use Rattle.batch.specs.Exactly.{nothing_altered}

-- the record, as its words give it
abbrev pub record_at : List ℕ → List ℕ → SharedRecord
record_at counts desks = record { stats = counts_from 0 counts; desks = desks_at desks }

-- the record's words are those of the record after the batch, and the number is the batch's own
pub record FiledShift (d : ℕ) (desks₀ desks counts₀ counts files lengths : List ℕ) (o : RenderOptions) (b : Bounds) (l : Lengths) (output₀ output : List ℕ) (rows₀ rows answers₀ answers : List Row) (number : ℕ) : Type 0 where
  pub told : FiledAll
  pub batched : Batched d o b l files lengths (begun (record_at counts₀ desks₀) output₀ rows₀ answers₀) told.number (ended told output rows answers)
  pub desks_are : desks ≡ desk_words told.shared.desks
  pub counts_are : counts ≡ count_words told.shared.stats []
  pub number_is : number ≡ told.number

-- the number is 0, 1, 28 or 29
pub never_other :
    {d : ℕ} {desks₀ desks counts₀ counts files lengths : List ℕ} {o : RenderOptions} {b : Bounds} {l : Lengths} {output₀ output : List ℕ} {rows₀ rows answers₀ answers : List Row} {number : ℕ}
    → FiledShift d desks₀ desks counts₀ counts files lengths o b l output₀ output rows₀ rows answers₀ answers number → (number ≡ 0 → ⊥) → BatchNumbered number
never_other {d} {files = files} {lengths = lengths} {o = o} {b = b} {l = l} {number = number} f = subst (λ (n : ℕ). (n ≡ 0 → ⊥) → BatchNumbered n) (sym f.number_is) (own f.batched)
  where
    own : {F G : Batch} {n : ℕ} → Batched d o b l files lengths F n G → (n ≡ 0 → ⊥) → BatchNumbered n
    own (out_of_order _) z = order refl
    own (no_desk _ _) z = desk refl
    own (too_many _ _ _) z = many refl
    own (filed _ _ _ _) z = absurd (z refl)

-- no document alters nothing: the record's words, which are sixteen and ten, are written as they were read
pub record Unaltered (desks₀ desks counts₀ counts output₀ output : List ℕ) (rows₀ rows answers₀ answers : List Row) : Type 0 where
  pub desks_stay : desks ≡ desks₀
  pub counts_stay : counts ≡ counts₀
  pub output_stays : output ≡ output₀
  pub rows_stay : rows ≡ rows₀
  pub answers_stay : answers ≡ answers₀

pub no_document :
    {d : ℕ} {desks₀ desks counts₀ counts files : List ℕ} {o : RenderOptions} {b : Bounds} {l : Lengths} {output₀ output : List ℕ} {rows₀ rows answers₀ answers : List Row} {number : ℕ}
    → length desks₀ ≡ 16 → length counts₀ ≡ 10 → FiledShift d desks₀ desks counts₀ counts files [] o b l output₀ output rows₀ rows answers₀ answers number
    → Unaltered desks₀ desks counts₀ counts output₀ output rows₀ rows answers₀ answers
no_document {desks₀ = desks₀} {counts₀ = counts₀} n m f =
    let e = nothing_altered f.batched in
    record {
      desks_stay = f.desks_are ∙ ap (λ (F : Batch). desk_words F.shared.desks) e ∙ desks_again desks₀ n;
      counts_stay = f.counts_are ∙ ap (λ (F : Batch). count_words F.shared.stats []) e ∙ counts_again counts₀ m;
      output_stays = ap (λ (F : Batch). F.output) e;
      rows_stay = ap (λ (F : Batch). F.rows) e;
      answers_stay = ap (λ (F : Batch). F.answers) e;
    }
