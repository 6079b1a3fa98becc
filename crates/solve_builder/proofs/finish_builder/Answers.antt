use Rattle.std.proofs.Common.{arith, refl, sym, ◌∙◌, ◌+◌}
use Rattle.plan.specs.Uses.{room_enough, room_full}
use Rattle.solve_workspace.specs.TurnLaws.{err_is}
use Rattle.solve_builder.proofs.Finishing.{new_plans, finish_full, finish_stop, finish_go}
use Rattle.solve_builder.proofs.finish_builder.Goals as goal

pub returns-in_err-plan_room-clause-meets : goal.returns-in_err-plan_room-clause-meets
returns-in_err-plan_room-clause-meets c =
    let r = room_full (c.args.g.now.plans + new_plans c.args.frontier.now c.args.g.now) c.args.b.plans _ (sym c.plan_room.ensures ∙ c.in_err-plan_room.was) in
    λ ts rs ps es. rw (err_is c.from_residual.ensures.1) (finish_full c.args.b c.args.g.now ts rs ps es c.args.kept.now c.args.frontier.now c.args.plans.now _ _ r.1 r.0)

pub returns-then-b-required-clause-meets : goal.returns-then-b-required-clause-meets
returns-then-b-required-clause-meets c =
    let r = room_enough (c.args.g.now.plans + new_plans c.args.frontier.now c.args.g.now) c.args.b.plans (sym c.plan_room.ensures ∙ c.in_ok-plan_room.was) in
    λ ts rs ps es. finish_stop c.args.b c.args.g.now ts rs ps es c.args.kept.now c.args.frontier.now c.args.plans.now _ _ c.requires.0 (omega (arith, c.requires.1.0, c.requires.1.1.1)) r refl (omega (arith, c.if-b-required.true))

pub returns-clause-meets : goal.returns-clause-meets
returns-clause-meets c =
    let r = room_enough (c.args.g.now.plans + new_plans c.args.frontier.now c.args.g.now) c.args.b.plans (sym c.plan_room.ensures ∙ c.in_ok-plan_room.was) in
    λ ts rs ps es. finish_go c.args.b c.args.g.now ts rs ps es c.args.kept.now c.args.frontier.now c.args.plans.now _ _ _ _ _ c.requires.0 c.requires.1.1.1 (omega (arith, c.requires.1.0, c.requires.1.1.1)) r refl (omega (arith, c.if-b-required.false)) c.commit_all-g.ensures c.max-g.ensures
