-- `frontier::covered` meets its contract.
use Rattle.std.proofs.Common.{eq-eqb}
use Rattle.avl.specs.Holds.{nil}
use Rattle.frontier.specs.Candidates.{carried}
use Rattle.frontier.proofs.Searching.{same_at, by_same, before_at, by_before, by_none}
use Rattle.frontier.proofs.covered.Goals as goal

pub stays-requires : goal.stays-requires
stays-requires c = same_at (carried c.args.candidate) c.requires c.if-way-ne-NIL.true

pub returns-then-way-ne-NIL : goal.returns-then-way-ne-NIL
returns-then-way-ne-NIL c = λ p. by_same (carried c.args.candidate) p c.if-way-ne-NIL.true c.stays.ensures

pub beats-requires : goal.beats-requires
beats-requires c = before_at (carried c.args.candidate) c.requires c.if-way-ne-NIL.false c.if-way-ne-NIL-2.true

pub returns-then-way-ne-NIL-2 : goal.returns-then-way-ne-NIL-2
returns-then-way-ne-NIL-2 c = λ p. by_before (carried c.args.candidate) p c.if-way-ne-NIL.false c.if-way-ne-NIL-2.true c.beats.ensures

pub returns-else-way-ne-NIL-2 : goal.returns-else-way-ne-NIL-2
returns-else-way-ne-NIL-2 c = λ p. rw (eq-eqb c.args.way.before nil c.if-way-ne-NIL-2.false) (by_none (carried c.args.candidate) p c.if-way-ne-NIL.false c.if-way-ne-NIL-2.false)
