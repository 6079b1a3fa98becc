use Rattle.report_settle.proofs.Costs.{without_told}
use lib.Seq.{length-take-le}
use lib.ListN.{take}
use Rattle.report_settle.proofs.cost_without.Goals as goal

pub returns : goal.returns
returns c = without_told c.args.newline_cost c.args.rows c.args.place (take c.args.rows c.args.table.now) (length-take-le c.args.rows c.args.table.now c.requires.1) c.requires.2 c.between.result c.between.ensures c.cost_after.ensures
