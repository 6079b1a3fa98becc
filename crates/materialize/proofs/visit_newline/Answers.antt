use borrow.Author.Tests.{le-leb, lt-leb}
use Rattle.materialize.proofs.Untested.{passed}
use Rattle.materialize.proofs.visit_newline.Goals as goal

pub exceeds-requires : goal.exceeds-requires
exceeds-requires c = rw c.wide-indent.ensures.0 (λ f. (passed _ _ _ _ _ (c.requires.2 f)).0)

pub returns-then-exceeds : goal.returns-then-exceeds
returns-then-exceeds c = rw (← c.wide-indent.ensures.0, lt-leb _ _ (c.exceeds.ensures.0 c.if-exceeds.true))

pub returns : goal.returns
returns c = rw (← c.wide-indent.ensures.0, le-leb _ _ (c.exceeds.ensures.1 c.if-exceeds.false))
