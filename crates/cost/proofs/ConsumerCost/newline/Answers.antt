use Rattle.std.proofs.Common.{ap, ◌∙◌, arith}
use Rattle.cost.specs.Value.{cost}
use Rattle.cost.proofs.Laws.{low_only, newline_fits}
use Rattle.cost.proofs.ConsumerCost.newline.Goals as goal

pub returns : goal.returns
returns c =
    let e = ap cost (low_only _ _ _ c.charge.ensures) in
    record {
      says = e ∙ newline_fits c.args.model.rule c.args.model.width c.args.model.newline_cost c.args.indent (omega arith) (omega arith);
      fits = e;
    }
