use native.Mathlib.Omega.{arith}
use Rattle.report_step.proofs.Inserted.{rows_held, opened, remove_shut, shut, removing, removal_steps}
use Rattle.report_step.proofs.remove.Goals as goal

pub returns-then-gate-ne0 : goal.returns-then-gate-ne0
returns-then-gate-ne0 c =
    shut tt c.shut_step.ensures
    (remove_shut (λ w. rows_held c.args.h c.args.table.now c.args.files.now c.args.pages.now c.args.marks.now w.sound) (λ e. omega (arith, e)) (c.remove_gate-gate.ensures c.args.table.now c.sum_rows-s.ensures))

pub settle_removal-t-requires : goal.settle_removal-t-requires
settle_removal-t-requires c =
    let w = opened (omega arith) (c.remove_gate-gate.ensures c.args.table.now c.sum_rows-s.ensures) in
    removing c.args.place c.args.b c.args.h c.args.table.now c.args.files.now c.args.pages.now c.args.marks.now c.args.output.now c.args.spans.now w.0 w.2

pub returns : goal.returns
returns c =
    let w = opened (omega arith) (c.remove_gate-gate.ensures c.args.table.now c.sum_rows-s.ensures) in
    removal_steps c.args.place c.args.b c.args.h c.args.table.now c.args.files.now c.args.pages.now c.args.marks.now c.args.output.now c.args.spans.now w.0 w.2 w.1 c.settle_removal-t.ensures c.with_desks.ensures
