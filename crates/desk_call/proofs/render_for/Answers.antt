use native.Mathlib.Omega.{arith}
use Rattle.desk_call.proofs.Calls.{nothing_done, shut_call, call_left, served_call}
use Rattle.desk_call.proofs.render_for.Goals as goal

pub charge-requires : goal.charge-requires
charge-requires c = nothing_done c.args.desks c.args.desk c.uncounted.ensures

pub returns-then-gate-ne0 : goal.returns-then-gate-ne0
returns-then-gate-ne0 c = shut_call c.args.desk c.args.desks c.in_order-ordered.ensures c.desk_gate-gate.ensures c.args.output.now c.args.spans.now (λ e. omega (arith, e, c.if-gate-ne0.true)) c.uncounted.ensures c.charge.ensures

pub charge-requires-2 : goal.charge-requires-2
charge-requires-2 c = call_left c.args.desk c.args.desks c.in_order-ordered.ensures c.desk_gate-gate.ensures (omega (arith, c.if-gate-ne0.false)) c.allowed-c.ensures c.render_core-a.ensures

pub returns : goal.returns
returns c = served_call c.args.desk c.args.desks c.in_order-ordered.ensures c.desk_gate-gate.ensures (omega (arith, c.if-gate-ne0.false)) c.allowed-c.ensures c.render_core-a.ensures c.charge-2.ensures
