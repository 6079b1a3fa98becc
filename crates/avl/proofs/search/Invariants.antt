-- `avl::search` meets its contract. The invariant: the search at the current link answers as the search of the whole tree. The measure is the height there.
use Rattle.avl.specs.Holds.{Whole}
use Rattle.avl.proofs.Into.{high}
use Rattle.avl.proofs.Look.{Walk}
use Rattle.avl.proofs.search.Given as goal

abbrev pub invariant-loop-current : goal.invariant-loop-current
invariant-loop-current l = (p : Whole l.frontier l.root) → Walk l.frontier l.column l.current l.before l.from p.t

abbrev pub decreases-loop-current : goal.decreases-loop-current
decreases-loop-current l = high l.frontier l.current
