use Rattle.std.proofs.Common.{refl}
use Rattle.cost.specs.Value.{value}
use Rattle.solve_workspace.specs.Rows.{candidate}
use Rattle.solve_workspace.specs.TurnLaws.{err_is}
use Rattle.solve_ranges.specs.Wrapping.{wrapping, charging}
use Rattle.solve_ranges.proofs.Wraps.{wrap_go, wrap_stop}
use Rattle.solve_ranges.proofs.present_charged.Goals as goal

pub returns-in_err-total-clause-meets : goal.returns-in_err-total-clause-meets
returns-in_err-total-clause-meets c = λ ts rs ps es ks ns. rw (err_is c.from_residual.ensures.1) (wrap_stop c.args.b (wrapping c.args.wrapper) (charging c.args.wrapper) c.args.g.now (candidate c.args.c) _ c.charge.result (value c.args.c.cost) _ _ _ c.charge.ensures refl c.checked_add.ensures c.in_err-total.was)

pub returns-clause-meets : goal.returns-clause-meets
returns-clause-meets c = λ ts rs ps es ks ns. wrap_go c.args.b (wrapping c.args.wrapper) (charging c.args.wrapper) (candidate c.args.c) _ c.charge.result (value c.args.c.cost) _ _ _ _ c.charge.ensures refl c.checked_add.ensures c.in_ok-total.was c.scratch_candidate-x.ensures c.wrapped.ensures (c.present.ensures.meets ts rs ps es ks ns)
