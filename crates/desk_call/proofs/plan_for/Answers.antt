use native.Mathlib.Omega.{arith}
use Rattle.desk_call.proofs.Calls.{shut_plan, served_plan}
use Rattle.desk_call.proofs.plan_for.Goals as goal

pub returns-then-gate-ne0 : goal.returns-then-gate-ne0
returns-then-gate-ne0 c = shut_plan c.args.desk c.args.desks c.in_order-ordered.ensures c.desk_gate-gate.ensures c.args.plans.now c.args.texts.now c.args.bytes.now (λ e. omega (arith, e, c.if-gate-ne0.true)) c.uncounted.ensures

pub returns : goal.returns
returns c = served_plan c.args.desk c.args.desks c.in_order-ordered.ensures c.desk_gate-gate.ensures (omega (arith, c.if-gate-ne0.false)) c.allowed-lesser.ensures c.render_plan.ensures
