-- `avl::search` meets its contract. The invariant: the search at the current link answers as the search of the whole tree. The measure is the height there.
use native.Mathlib.Omega.{arith}
use lib.Dec.{lit<}
use Rattle.avl.proofs.Look.{start, w_at, step_l, step_r, found, none}
use Rattle.avl.proofs.search.Goals as goal

pub loop-current-init : goal.loop-current-init
loop-current-init c = λ p. start _ p

pub get-here-requires : goal.get-here-requires
get-here-requires c = (w_at (c.loop-current.invariant c.requires) c.loop-current-test.true, lit< tt)

pub get-current-requires : goal.get-current-requires
get-current-requires c = (w_at (c.loop-current.invariant c.requires) c.loop-current-test.true, lit< tt)

pub loop-current-smaller-then-column-here : goal.loop-current-smaller-then-column-here
loop-current-smaller-then-column-here c = (step_l (c.loop-current.invariant c.requires) c.loop-current-test.true c.get-here.ensures c.if-column-here.true c.get-current.ensures).1

pub loop-current-preserved-then-column-here : goal.loop-current-preserved-then-column-here
loop-current-preserved-then-column-here c = λ p. (step_l (c.loop-current.invariant p) c.loop-current-test.true c.get-here.ensures c.if-column-here.true c.get-current.ensures).0

pub get-current-requires-then-here-column : goal.get-current-requires-then-here-column
get-current-requires-then-here-column c = (w_at (c.loop-current.invariant c.requires) c.loop-current-test.true, lit< tt)

pub loop-current-smaller : goal.loop-current-smaller
loop-current-smaller c = (step_r (c.loop-current.invariant c.requires) c.loop-current-test.true c.get-here.ensures c.if-here-column.true c.get-current-then-here-column.ensures).1

pub loop-current-preserved : goal.loop-current-preserved
loop-current-preserved c = λ p. (step_r (c.loop-current.invariant p) c.loop-current-test.true c.get-here.ensures c.if-here-column.true c.get-current-then-here-column.ensures).0

pub returns-else-here-column : goal.returns-else-here-column
returns-else-here-column c = λ p. found (c.loop-current.invariant p) c.loop-current-test.true c.get-here.ensures (omega (arith, c.if-here-column.false, c.if-column-here.false))

pub returns : goal.returns
returns c = λ p. none (c.loop-current.invariant p) c.loop-current-test.false
