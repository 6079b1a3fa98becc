use mathlib.Core.Path.{refl}
use lib.ListN.{length-set}
use native.Mathlib.Omega.{arith}
use borrow.Author.Tests.{le-leb, lt-leb}
use Rattle.materialize.proofs.Untested.{passed}
use Rattle.materialize.proofs.push_visits.Goals as goal

pub exceeds-requires : goal.exceeds-requires
exceeds-requires c = λ f. (passed _ _ _ _ _ (c.requires.3 f)).0

pub returns-then-exceeds : goal.returns-then-exceeds
returns-then-exceeds c = rw (lt-leb _ _ (c.exceeds.ensures.0 c.if-exceeds.true)) (refl, refl)

pub bounds-visit-top : goal.bounds-visit-top
bounds-visit-top c = omega (arith, c.exceeds.ensures.1 c.if-exceeds.false, c.requires.1)

pub bounds-visit-top-2 : goal.bounds-visit-top-2
bounds-visit-top-2 c = simp length-set (omega (arith, c.exceeds.ensures.1 c.if-exceeds.false, c.requires.1))

pub returns : goal.returns
returns c = rw (le-leb _ _ (c.exceeds.ensures.1 c.if-exceeds.false)) (refl, refl)
