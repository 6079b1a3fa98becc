use mathlib.Core.Path.{◌≡◌}
use Prim.Native.Nat.{◌-◌}
use lib.ListN.{length}
use Rattle.materialize.specs.Walks.{pile, Sound}
use Rattle.materialize.specs.Writes.{Writing}
use Rattle.materialize.proofs.write.Given as goal

abbrev pub invariant-loop-w : goal.invariant-loop-w
invariant-loop-w l = (length l.visit ≡ length l.initial.visit) × (length l.depth ≡ length l.initial.depth) × (length l.output ≡ length l.initial.output) × (length l.spans ≡ length l.initial.spans)
    × Sound l.capacity (length l.plans) (pile l.visit l.w.top) l.w × Writing l.capacity l.plans l.texts l.bytes l.fn.root.0 (pile l.visit l.w.top) l.w l.initial.output l.output l.depth l.initial.spans l.spans

abbrev pub decreases-loop-w : goal.decreases-loop-w
decreases-loop-w l = l.capacity.visit_limit - l.w.visits
