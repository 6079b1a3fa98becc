-- `frontier::prune` meets its contract. The invariant: of the order that is left the same stay as of the first. The measure is the number of candidates.
use mathlib.Core.Path.{◌≡◌}
use Rattle.cost.specs.Value.{value}
use Rattle.layout.specs.Frontier.{Cand}
use Rattle.frontier.specs.Candidates.{Pending}
use Rattle.frontier.specs.Kept.{Fresh}
use Rattle.frontier.proofs.Sifting.{Stage}
use Rattle.frontier.proofs.prune.Given as goal

abbrev pub invariant-loop-cost : goal.invariant-loop-cost
invariant-loop-cost l = (x : Cand Pending) → x.cost ≡ value l.cost → x.column ≡ l.last → (p : Fresh l.initial.frontier l.initial.b x) → Stage l.initial.frontier l.frontier l.initial.b l.b x p.sound.kept.order

abbrev pub decreases-loop-cost : goal.decreases-loop-cost
decreases-loop-cost l = l.b.live
