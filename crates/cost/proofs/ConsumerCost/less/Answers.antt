use Rattle.std.proofs.Common.{◌∙◌, arith}
use Rattle.cost.specs.Cost.{cheaper}
use Rattle.cost.proofs.Laws.{lt_is}
use Rattle.cost.proofs.ConsumerCost.less.Goals as goal

pub returns : goal.returns
unfolding cheaper
returns c = c.lt.ensures ∙ lt_is _ _ (omega arith) (omega arith)
