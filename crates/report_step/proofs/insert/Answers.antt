use native.Mathlib.Omega.{arith}
use Rattle.file_encode.specs.Fields.{Bytes}
use Rattle.render.specs.Call.{lengths}
use Rattle.report_step.proofs.Steps.{past_spends, past_steps}
use Rattle.report_step.proofs.Inserted.{rows_held, opened, insert_shut, shut, lent_within, held_page, room_for, insertion_past, with_options}
use Rattle.report_step.proofs.insert.Goals as goal

pub returns-then-gate-ne0 : goal.returns-then-gate-ne0
returns-then-gate-ne0 c =
    let z : Bytes c.args.file.now = record { byte = λ i. (c.type_inv.file i).fits } in
    shut z c.shut_step.ensures
    (insert_shut (λ w. rows_held c.args.h c.args.table.now c.args.files.now c.args.pages.now c.args.marks.now w.sound) (λ e. omega (arith, e)) (c.insert_gate-gate.ensures c.args.table.now c.sum_rows-s.ensures))

pub settle-t-requires : goal.settle-t-requires
settle-t-requires c =
    let w = opened (omega (arith, c.if-gate-ne0.false)) (c.insert_gate-gate.ensures c.args.table.now c.sum_rows-s.ensures) in
    record {
      room = room_for c.args.place c.allowed-c.result c.args.h c.args.file.now c.args.table.now c.args.files.now c.args.pages.now c.args.marks.now c.args.output.now c.args.spans.now (lengths c.args.nodes.now c.args.edges.now c.args.choices.now c.args.texts.now c.args.bytes.now c.args.tasks.now c.args.results.now c.args.pending.now c.args.index.now c.args.entries.now c.args.kept.now c.args.frontier.now c.args.plans.now c.args.visit.now c.args.depth.now c.args.row_output.now c.args.row_spans.now) (lent_within c.args.desks c.args.desk c.allowed-c.ensures w.0) w.2 w.3;
      page = held_page (omega (arith, c.allowed-c.type_inv)) (omega (arith, c.allowed-c.type_inv)) c.render_core-a.auto.output c.render_core-a.auto.spans c.render_core-a.ensures;
      no_fit_checks = c.render_core-a.ensures.stands.no_fit_checks;
    }

pub charged_step-requires : goal.charged_step-requires
charged_step-requires c =
    let w = opened (omega (arith, c.if-gate-ne0.false)) (c.insert_gate-gate.ensures c.args.table.now c.sum_rows-s.ensures) in
    past_spends c.args.desks c.args.desk c.args.b c.allowed-c.ensures (insertion_past c.args.place c.allowed-c.result c.args.h c.args.file.now c.args.table.now c.args.files.now c.args.pages.now c.args.marks.now c.args.output.now c.args.spans.now (lengths c.args.nodes.now c.args.edges.now c.args.choices.now c.args.texts.now c.args.bytes.now c.args.tasks.now c.args.results.now c.args.pending.now c.args.index.now c.args.entries.now c.args.kept.now c.args.frontier.now c.args.plans.now c.args.visit.now c.args.depth.now c.args.row_output.now c.args.row_spans.now) (lent_within c.args.desks c.args.desk c.allowed-c.ensures w.0) w.2 w.3 (with_options c.args.h c.options_of-o.ensures c.render_core-a.ensures) c.settle-t.ensures)

pub returns : goal.returns
returns c =
    let z : Bytes c.args.file.now = record { byte = λ i. (c.type_inv.file i).fits } in
    let w = opened (omega (arith, c.if-gate-ne0.false)) (c.insert_gate-gate.ensures c.args.table.now c.sum_rows-s.ensures) in
    past_steps c.args.desks c.args.desk c.args.b c.allowed-c.ensures (insertion_past c.args.place c.allowed-c.result c.args.h c.args.file.now c.args.table.now c.args.files.now c.args.pages.now c.args.marks.now c.args.output.now c.args.spans.now (lengths c.args.nodes.now c.args.edges.now c.args.choices.now c.args.texts.now c.args.bytes.now c.args.tasks.now c.args.results.now c.args.pending.now c.args.index.now c.args.entries.now c.args.kept.now c.args.frontier.now c.args.plans.now c.args.visit.now c.args.depth.now c.args.row_output.now c.args.row_spans.now) (lent_within c.args.desks c.args.desk c.allowed-c.ensures w.0) w.2 w.3 (with_options c.args.h c.options_of-o.ensures c.render_core-a.ensures) c.settle-t.ensures) w.0 w.1 z c.charged_step.ensures
