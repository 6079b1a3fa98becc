use Rattle.file_encode.specs.Fields.{Bytes}
use Rattle.render.proofs.Renders.{order_drafting, lent_drafting}
use Rattle.render.proofs.call.render_plan.Goals as goal

pub returns-then-not-in_order : goal.returns-then-not-in_order
returns-then-not-in_order c =
    let z : Bytes c.args.file.now = record { byte = λ i. (c.shared_slice_known-1.given i).fits } in
    order_drafting z (c.in_order.ensures.no c.if-not-in_order.true) c.uncounted.ensures

pub render_lent-requires : goal.render_lent-requires
render_lent-requires c =
    let i = c.in_order.ensures.yes c.if-not-in_order.false in
    (i.tables, record { tasks = i.solver.stacks.tasks; results = i.solver.stacks.results; pending = i.solver.stacks.pending; frontier = i.solver.stores.frontier; kept = i.solver.stores.kept; plans = i.solver.stores.plans }, record { entries_in = i.solver.memo.entries; slots_for = i.solver.memo.slots_for; is = i.solver.memo.is; slots_in = i.solver.memo.index }, i.page.visit)

pub returns : goal.returns
returns c =
    let i = c.in_order.ensures.yes c.if-not-in_order.false in
    lent_drafting c.render_lent.result i (c.render_lent.ensures _ i)
