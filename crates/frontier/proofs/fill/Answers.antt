-- `frontier::fill` meets its contract.
use Rattle.frontier.proofs.Slots.{filled}
use Rattle.frontier.proofs.fill.Goals as goal

pub returns : goal.returns
returns c = rw (c.clear.ensures, c.store_plan.ensures, c.store.ensures, c.store_cost.ensures) (filled _ c.args.s c.args.candidate c.requires)
