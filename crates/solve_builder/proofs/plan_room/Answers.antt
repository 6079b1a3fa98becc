use Rattle.std.proofs.Common.{arith, refl, ◌+◌, le-leb}
use Rattle.solve_builder.proofs.Passing.{plans_few}
use Rattle.solve_builder.proofs.Finishing.{new_plans}
use Rattle.solve_builder.proofs.plan_room.Goals as goal

pub returns-then-g-live : goal.returns-then-g-live
returns-then-g-live c = rw (le-leb (c.args.g.now.plans + new_plans c.args.frontier.now c.args.g.now) c.args.b.plans (omega (arith, plans_few c.requires.0, c.if-g-live.true))) refl
