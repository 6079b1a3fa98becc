use Rattle.cost.proofs.Laws.{by_excess, by_square}
use Rattle.cost.proofs.PreparedConsumerCostModel.charge.Goals as goal

pub returns-then-self-eq2 : goal.returns-then-self-eq2
returns-then-self-eq2 c = by_excess _ _ _ _ c.if-self-eq2.true c.over-excess.ensures.0

pub returns-else-self-eq2 : goal.returns-else-self-eq2
returns-else-self-eq2 c = by_square _ _ _ _ c.if-self-eq2.false c.over-excess.ensures.0
