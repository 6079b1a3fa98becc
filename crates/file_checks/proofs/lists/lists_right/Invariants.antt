use Rattle.file_checks.specs.Search.{RowRight}
use mathlib.Core.List.{[]}
use Prim.Native.Nat.{ℕ, ◌<◌}
use lib.ListN.{get_or}
use Rattle.file_checks.proofs.lists.lists_right.Given as goal

abbrev pub invariant-loop-row : goal.invariant-loop-row
invariant-loop-row l = (m : ℕ) → m < l.row-index → RowRight l.nodes l.choices (get_or l.nodes m [])
