use mathlib.Core.Path.{refl}
use borrow.Author.Tests.{le-leb, lt-leb}
use Rattle.materialize.proofs.Untested.{annotate_passed}
use Rattle.materialize.proofs.visit_annotate.Goals as goal

pub exceeds-requires : goal.exceeds-requires
exceeds-requires c = let a = c.args in λ f. (annotate_passed a.capacity a.w a.annotation (c.requires.5 f)).0

pub returns-then-exceeds : goal.returns-then-exceeds
returns-then-exceeds c = rw (lt-leb _ _ (c.exceeds.ensures.0 c.if-exceeds.true)) (refl, refl)

pub exceeds-requires-2 : goal.exceeds-requires-2
exceeds-requires-2 c = let a = c.args in λ f. (annotate_passed a.capacity a.w a.annotation (c.requires.5 f)).1

pub returns-then-exceeds-2 : goal.returns-then-exceeds-2
returns-then-exceeds-2 c = rw (le-leb _ _ (c.exceeds.ensures.1 c.if-exceeds.false), lt-leb _ _ (c.exceeds-2.ensures.0 c.if-exceeds-2.true)) (refl, refl)

pub push_visits-requires : goal.push_visits-requires
push_visits-requires c = let a = c.args in (c.requires.0, c.requires.3, c.requires.4, λ f. (annotate_passed a.capacity a.w a.annotation (c.requires.5 f)).2)

pub returns : goal.returns
returns c = rw (le-leb _ _ (c.exceeds.ensures.1 c.if-exceeds.false), le-leb _ _ (c.exceeds-2.ensures.1 c.if-exceeds-2.false), ← c.word_of-above.ensures.0) (c.push_visits.ensures.0, c.push_visits.ensures.1)
