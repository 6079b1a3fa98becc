use Rattle.std.proofs.Common.{[], arith}
use Rattle.machine.specs.Events.{◌>>=◌}
use Rattle.machine.specs.Model.{State, range}
use Rattle.machine.specs.Solver.{finish_builder, wrap_range}
use Rattle.solve_workspace.specs.Runs.{seq, halt}
use Rattle.solve_workspace.specs.TurnLaws.{went, halted, held_on, handed_on}
use Rattle.solve_builder.specs.Opening.{building_by, begun_building, begun_held, begun_from}
use Rattle.solve_ranges.specs.Wrapping.{wrapping, charging, wrapped_range}
use Rattle.solve_ranges.proofs.wrap_range.Goals as goal

pub present_wrapped-requires : goal.present_wrapped-requires
present_wrapped-requires c = (begun_building c.begin_builder.ensures c.requires.0 (omega arith), (c.requires.1.0, begun_held c.begin_builder.ensures c.requires.1.1.1))

pub returns-in_err-present_wrapped-clause-meets : goal.returns-in_err-present_wrapped-clause-meets
unfolding wrap_range
returns-in_err-present_wrapped-clause-meets c = λ ts rs ps es. rw (handed_on c.in_err-present_wrapped.was c.from_residual.ensures.1) (begun_from (λ (S : State). wrapped_range (wrapping c.args.wrapper) (charging c.args.wrapper) (range c.args.start c.args.len) S >>= finish_builder) c.begin_builder.ensures ts rs ps es c.args.kept.now c.args.frontier.now c.args.plans.now
    (halt _ (c.present_wrapped.ensures.meets ts rs ps es c.args.plans.now) (halted _ c.in_err-present_wrapped.was)))

pub finish_builder-requires : goal.finish_builder-requires
finish_builder-requires c = (building_by c.present_wrapped.ensures.building (went _ c.in_ok-present_wrapped.was), (c.requires.1.0, (c.requires.1.1.0, held_on (c.present_wrapped.ensures.meets [] [] [] [] []) c.in_ok-present_wrapped.was)))

pub returns-clause-meets : goal.returns-clause-meets
unfolding wrap_range
returns-clause-meets c = λ ts rs ps es. begun_from (λ (S : State). wrapped_range (wrapping c.args.wrapper) (charging c.args.wrapper) (range c.args.start c.args.len) S >>= finish_builder) c.begin_builder.ensures ts rs ps es c.args.kept.now c.args.frontier.now c.args.plans.now
    (seq _ (c.present_wrapped.ensures.meets ts rs ps es c.args.plans.now) (went _ c.in_ok-present_wrapped.was) (c.finish_builder.ensures.meets ts rs ps es))
