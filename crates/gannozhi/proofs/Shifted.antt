-- A batch, told in words, with the settings, the sizes and the record that were given in words.
use mathlib.Core.Path.{◌≡◌, subst}
use mathlib.Core.List.{List, []}
use Prim.Native.Nat.{ℕ}
use Rattle.stats.specs.declared.SolveStats.{SolveStats}
use Rattle.solve_workspace.specs.declared.Bounds.{Bounds}
use Rattle.solve_workspace.specs.declared.RenderOptions.{RenderOptions}
use Rattle.materialize.specs.Rows.{Row}
use Rattle.render.specs.declared.order.Lengths.{Lengths}
use Rattle.desks.specs.declared.Desks.{Desks}
use Rattle.call_words.specs.Words.{count_words}
use Rattle.call_words.specs.Accounts.{desks_at, desk_words, counts_from}
use Rattle.batch.specs.declared.FiledAll.{FiledAll}
use Rattle.batch.specs.Batched.{Batched, begun, ended}
use Rattle.gannozhi.specs.Shifts.{FiledShift, record_at}

pub shifted : (d : ℕ) (desks₀ counts₀ files lengths : List ℕ) {o o' : RenderOptions} {b b' : Bounds} {D : Desks} {k : SolveStats} (l : Lengths) (output₀ output : List ℕ) (rows₀ rows answers₀ answers : List Row) (r : FiledAll) {desks counts : List ℕ} {number : ℕ}
    → o ≡ o' → b ≡ b' → D ≡ desks_at desks₀ → k ≡ counts_from 0 counts₀ → Batched d o b l files lengths (begun (record { stats = k; desks = D }) output₀ rows₀ answers₀) r.number (ended r output rows answers)
    → desks ≡ desk_words r.shared.desks → counts ≡ count_words r.shared.stats [] → number ≡ r.number
    → FiledShift d desks₀ desks counts₀ counts files lengths o' b' l output₀ output rows₀ rows answers₀ answers number
shifted d desks₀ counts₀ files lengths {o} {o'} {b} {D = D} {k = k} l output₀ output rows₀ rows answers₀ answers r h e f g t i j n = record {
  told = r;
  batched = subst (λ (x : Bounds). Batched d o' x l files lengths (begun (record_at counts₀ desks₀) output₀ rows₀ answers₀) r.number (ended r output rows answers)) e
      (subst (λ (x : RenderOptions). Batched d x b l files lengths (begun (record_at counts₀ desks₀) output₀ rows₀ answers₀) r.number (ended r output rows answers)) h
      (subst (λ (x : SolveStats). Batched d o b l files lengths (begun (record { stats = x; desks = desks_at desks₀ }) output₀ rows₀ answers₀) r.number (ended r output rows answers)) g
      (subst (λ (x : Desks). Batched d o b l files lengths (begun (record { stats = k; desks = x }) output₀ rows₀ answers₀) r.number (ended r output rows answers)) f t)));
  desks_are = i;
  counts_are = j;
  number_is = n;
}
