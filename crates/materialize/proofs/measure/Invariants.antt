use mathlib.Core.Path.{◌≡◌}
use mathlib.Core.List.{List}
use Prim.Native.Nat.{ℕ, ◌-◌}
use lib.ListN.{length}
use Rattle.materialize.specs.Texts.{InBytes}
use Rattle.materialize.specs.Walks.{Around, pile, Sound}
use Rattle.materialize.proofs.Passes.{Along, Reaching}
use Rattle.materialize.proofs.measure.Given as goal

abbrev pub invariant-loop-w : goal.invariant-loop-w
invariant-loop-w l = (length l.visit ≡ length l.initial.visit) × Sound l.capacity (length l.plans) (pile l.visit l.w.top) l.w
    × ((o : Around) (bytes : List ℕ) → InBytes l.texts bytes → Along l.capacity o l.plans l.texts bytes l.fn.root.0 (pile l.visit l.w.top) l.w)
    × ((bytes : List ℕ) → InBytes l.texts bytes → Reaching l.plans l.texts bytes l.fn.root.0 (pile l.visit l.w.top) l.w l.highest l.deepest)

abbrev pub decreases-loop-w : goal.decreases-loop-w
decreases-loop-w l = l.capacity.visit_limit - l.w.visits
