use Rattle.std.proofs.Common.{◌∙◌, arith}
use Rattle.cost.proofs.Laws.{le_is}
use Rattle.cost.proofs.ConsumerCost.at_most.Goals as goal

pub returns : goal.returns
returns c = c.le.ensures ∙ le_is _ _ (omega arith) (omega arith)
