use Rattle.std.proofs.Common.{refl}
use Rattle.solve_workspace.specs.TurnLaws.{err_is}
use Rattle.solve_join.proofs.Joins.{join_go, join_stop}
use Rattle.solve_join.proofs.push_join.Goals as goal

pub returns-in_err-cost : goal.returns-in_err-cost
returns-in_err-cost c = rw (err_is c.from_residual.ensures.1) (record { meets = λ ts rs es ks fs ns. join_stop _ _ c.args.g.now _ _ _ _ c.checked_add.ensures c.in_err-cost.was; only = refl })

pub returns-clause-meets : goal.returns-clause-meets
returns-clause-meets c = λ ts rs es ks fs ns. join_go _ _ _ _ _ c.checked_add.ensures c.in_ok-cost.was (c.push_pending.ensures.meets ts rs es ks fs ns)
