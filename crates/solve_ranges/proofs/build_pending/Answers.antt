use Rattle.std.proofs.Common.{[], ◌≤◌, take, arith}
use Rattle.machine.specs.Events.{◌>>=◌}
use Rattle.machine.specs.Model.{State, with_pending}
use Rattle.machine.specs.Solver.{finish_builder, build_pending}
use Rattle.solve_workspace.specs.Runs.{seq, halt, kept_by, kept_trans}
use Rattle.solve_workspace.specs.TurnLaws.{went, halted, held_on, handed_on}
use Rattle.solve_builder.specs.Opening.{building_by, begun_building, begun_held, begun_kept, begun_from}
use Rattle.solve_ranges.specs.Wrapping.{pending_from}
use Rattle.solve_ranges.proofs.Taken.{taken_sound, taken_building, taken_from}
use Rattle.solve_ranges.proofs.build_pending.Goals as goal
use Rattle.solve_ranges.proofs.build_pending.Goals.{In_ok-present_pending}

presented : (c : In_ok-present_pending) → c.args.start ≤ c.present_pending.new.g.pending
presented c = omega (arith, (kept_trans (begun_kept c.begin_builder.ensures) (kept_by c.present_pending.ensures.keeps (went _ c.in_ok-present_pending.was))).pending, c.requires.1.1.1.1.0)

pub present_pending-requires : goal.present_pending-requires
present_pending-requires c = (begun_building c.begin_builder.ensures c.requires.0 (omega arith), (c.requires.1.0, begun_held c.begin_builder.ensures c.requires.1.1.1.1.1))

pub returns-in_err-present_pending-clause-meets : goal.returns-in_err-present_pending-clause-meets
unfolding build_pending
returns-in_err-present_pending-clause-meets c = λ ts rs es. rw (handed_on c.in_err-present_pending.was c.from_residual.ensures.1) (begun_from (λ (S : State). pending_from c.args.start S >>= (λ S₁. finish_builder (with_pending (take c.args.start S₁.pending) S₁))) c.begin_builder.ensures ts rs c.args.pending.now es c.args.kept.now c.args.frontier.now c.args.plans.now
    (halt _ (c.present_pending.ensures.meets ts rs es c.args.kept.now c.args.plans.now) (halted _ c.in_err-present_pending.was)))

pub finish_builder-requires : goal.finish_builder-requires
finish_builder-requires c = (taken_building _ c.args.start (building_by c.present_pending.ensures.building (went _ c.in_ok-present_pending.was)), (c.requires.1.1.0, (c.requires.1.1.1.0, taken_sound _ c.args.start (presented (goal.at.finish_builder-requires c).In_ok-present_pending) (held_on (c.present_pending.ensures.meets [] [] [] [] []) c.in_ok-present_pending.was))))

pub returns-clause-meets : goal.returns-clause-meets
unfolding build_pending
returns-clause-meets c = λ ts rs es. begun_from (λ (S : State). pending_from c.args.start S >>= (λ S₁. finish_builder (with_pending (take c.args.start S₁.pending) S₁))) c.begin_builder.ensures ts rs c.args.pending.now es c.args.kept.now c.args.frontier.now c.args.plans.now
    (seq _ (c.present_pending.ensures.meets ts rs es c.args.kept.now c.args.plans.now) (went _ c.in_ok-present_pending.was)
    (taken_from finish_builder c.present_pending.new.g c.args.start ts rs c.args.pending.now es c.args.kept.now _ c.args.plans.now (presented (goal.at.returns-clause-meets c).In_ok-present_pending) (c.finish_builder.ensures.meets ts rs c.args.pending.now es)))
