use mathlib.Core.Path.{◌≡◌}
use lib.ListN.{length, drop}
use Rattle.file_checks.specs.Search.{turns}
use Rattle.file_checks.proofs.Circles.{Searching}
use Rattle.file_checks.proofs.circle.search.Given as goal

abbrev pub invariant-loop-top : goal.invariant-loop-top
invariant-loop-top l = (length l.cs ≡ length l.initial.cs) × ((length l.way ≡ length l.initial.way) × Searching l.nodes l.edges l.initial.cs l.cs l.way l.top)

abbrev pub decreases-loop-top : goal.decreases-loop-top
decreases-loop-top l = turns l.nodes l.cs (drop l.top l.way)
