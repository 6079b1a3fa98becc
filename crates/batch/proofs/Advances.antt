-- The counts in the row of a document's answer.
use mathlib.Core.Path.{◌≡◌, refl, ap}
use mathlib.Core.List.{List, []}
use Prim.Native.Nat.{ℕ, zero, suc, ◌-◌}
use native.Mathlib.Omega.{arith}
use lib.ListN.{get_or}
use Rattle.stats.specs.declared.SolveStats.{SolveStats}
use Rattle.materialize.specs.Rows.{Row}
use Rattle.call_words.specs.Accounts.{counts_from}
use Rattle.batch.specs.Values.{last_counts}

pub last_before : (k : SolveStats) (n : ℕ) (answers : List Row) → (n ≡ 0 → ⊥) → counts_from 7 (get_or answers (n - 1) []) ≡ last_counts k n answers
last_before k zero answers e = absurd (e refl)
last_before k (suc n) answers e = let z : suc n - 1 ≡ n = omega arith in ap (λ (i : ℕ). counts_from 7 (get_or answers i [])) z
