use native.Mathlib.Omega.{arith}
use Rattle.plan.proofs.Commit.{commit_new}
use Rattle.plan.proofs.commit_plan.Goals as goal

pub returns-in-New : goal.returns-in-New
returns-in-New c = rw (c.into-first.ensures, c.in-New.is) (commit_new c.args.plans.now c.args.count c.in-New.node (omega (arith, rw c.in-New.is at c.requires.0)))
