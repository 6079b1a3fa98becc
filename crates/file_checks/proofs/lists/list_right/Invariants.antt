use mathlib.Core.Path.{◌≡◌}
use Prim.Native.Nat.{◌+◌, ◌-◌, ◌≤◌}
use lib.ListN.{length, drop}
use Rattle.file_checks.proofs.Choices.{Same}
use Rattle.file_checks.specs.Search.{Cut}
use mathlib.Core.List.{[], ◌∷◌}
use Rattle.file_checks.proofs.lists.list_right.Given as goal

abbrev pub invariant-loop-at : goal.invariant-loop-at
invariant-loop-at l = (l.at ≤ length l.xs) × ((l.sp ≤ length l.stack) × ((length l.stack ≡ length l.initial.stack) × (((length l.stack - l.sp) + l.left ≡ length l.xs - l.at)
    × Same l.nodes (Cut l.nodes (l.first ∷ l.second ∷ []) l.xs l.skipped) (drop l.sp l.stack) (drop l.at l.xs) l.left)))

abbrev pub decreases-loop-at : goal.decreases-loop-at
decreases-loop-at l = (length l.xs - l.at) + l.left
