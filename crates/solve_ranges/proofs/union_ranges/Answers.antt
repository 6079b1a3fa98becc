use Rattle.std.proofs.Common.{[], arith}
use Rattle.machine.specs.Events.{◌>>=◌}
use Rattle.machine.specs.Model.{State, range}
use Rattle.machine.specs.Solver.{present_range, finish_builder, union_ranges}
use Rattle.solve_workspace.specs.Runs.{seq, halt}
use Rattle.solve_workspace.specs.TurnLaws.{went, halted, held_on, handed_on}
use Rattle.solve_builder.specs.Opening.{building_by, begun_building, begun_held, begun_from}
use Rattle.solve_ranges.proofs.union_ranges.Goals as goal

pub present_range-requires : goal.present_range-requires
present_range-requires c = (begun_building c.begin_builder.ensures c.requires.0 (omega arith), (c.requires.1.0, begun_held c.begin_builder.ensures c.requires.1.1.1))

pub returns-in_err-present_range-clause-meets : goal.returns-in_err-present_range-clause-meets
unfolding union_ranges
returns-in_err-present_range-clause-meets c = λ ts rs ps es. rw (handed_on c.in_err-present_range.was c.from_residual.ensures.1) (begun_from (λ (S : State). present_range (range c.args.start c.args.len) S >>= (λ S₁. present_range (range c.args.other_start c.args.other_len) S₁ >>= finish_builder)) c.begin_builder.ensures ts rs ps es c.args.kept.now c.args.frontier.now c.args.plans.now
    (halt _ (c.present_range.ensures.meets ts rs ps es c.args.plans.now) (halted _ c.in_err-present_range.was)))

pub present_range-requires-2 : goal.present_range-requires-2
present_range-requires-2 c = (building_by c.present_range.ensures.building (went _ c.in_ok-present_range.was), (c.requires.1.0, held_on (c.present_range.ensures.meets [] [] [] [] []) c.in_ok-present_range.was))

pub returns-in_err-present_range-2-clause-meets : goal.returns-in_err-present_range-2-clause-meets
unfolding union_ranges
returns-in_err-present_range-2-clause-meets c = λ ts rs ps es. rw (handed_on c.in_err-present_range-2.was c.from_residual-in_err-present_range-2.ensures.1) (begun_from (λ (S : State). present_range (range c.args.start c.args.len) S >>= (λ S₁. present_range (range c.args.other_start c.args.other_len) S₁ >>= finish_builder)) c.begin_builder.ensures ts rs ps es c.args.kept.now c.args.frontier.now c.args.plans.now
    (seq _ (c.present_range.ensures.meets ts rs ps es c.args.plans.now) (went _ c.in_ok-present_range.was) (halt _ (c.present_range-2.ensures.meets ts rs ps es c.args.plans.now) (halted _ c.in_err-present_range-2.was))))

pub finish_builder-requires : goal.finish_builder-requires
finish_builder-requires c = (building_by c.present_range-2.ensures.building (went _ c.in_ok-present_range-2.was), (c.requires.1.0, (c.requires.1.1.0, held_on (c.present_range-2.ensures.meets [] [] [] [] []) c.in_ok-present_range-2.was)))

pub returns-clause-meets : goal.returns-clause-meets
unfolding union_ranges
returns-clause-meets c = λ ts rs ps es. begun_from (λ (S : State). present_range (range c.args.start c.args.len) S >>= (λ S₁. present_range (range c.args.other_start c.args.other_len) S₁ >>= finish_builder)) c.begin_builder.ensures ts rs ps es c.args.kept.now c.args.frontier.now c.args.plans.now
    (seq _ (c.present_range.ensures.meets ts rs ps es c.args.plans.now) (went _ c.in_ok-present_range.was) (seq _ (c.present_range-2.ensures.meets ts rs ps es c.args.plans.now) (went _ c.in_ok-present_range-2.was) (c.finish_builder.ensures.meets ts rs ps es)))
