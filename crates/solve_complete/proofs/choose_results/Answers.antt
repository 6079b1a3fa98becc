use Rattle.std.proofs.Common.{[], arith}
use Rattle.machine.specs.Events.{◌>>=◌}
use Rattle.machine.specs.Model.{State}
use Rattle.machine.specs.Solver.{finish_builder}
use Rattle.solve_workspace.specs.Runs.{seq, halt, any_rules, any_tables}
use Rattle.solve_workspace.specs.TurnLaws.{went, halted, held_on, handed_on}
use Rattle.solve_builder.specs.Opening.{building_by, begun_building, begun_held, begun_kept, begun_from}
use Rattle.solve_ranges.specs.Wrapping.{results_from}
use Rattle.solve_complete.proofs.choose_results.Goals as goal

pub present_results-requires : goal.present_results-requires
present_results-requires c = (begun_building c.begin_builder.ensures c.requires.1.0 (omega arith), (c.requires.1.1.0, (c.requires.0, (omega (arith, (begun_kept c.begin_builder.ensures).results, c.requires.1.1.1.1.0), begun_held c.begin_builder.ensures c.requires.1.1.1.1.1))))

pub returns-in_err-present_results-clause-meets : goal.returns-in_err-present_results-clause-meets
returns-in_err-present_results-clause-meets c = λ R P ts ps es. rw (handed_on c.in_err-present_results.was c.from_residual.ensures.1) (begun_from (λ (S : State). results_from R P c.args.from S >>= finish_builder) c.begin_builder.ensures ts c.args.results.now ps es c.args.kept.now c.args.frontier.now c.args.plans.now
    (halt _ (c.present_results.ensures.meets R P ts ps es c.args.plans.now) (halted _ c.in_err-present_results.was)))

pub finish_builder-requires : goal.finish_builder-requires
finish_builder-requires c = (building_by c.present_results.ensures.building (went _ c.in_ok-present_results.was), (c.requires.1.1.0, (c.requires.1.1.1.0, held_on (c.present_results.ensures.meets any_rules any_tables [] [] [] []) c.in_ok-present_results.was)))

pub returns-clause-meets : goal.returns-clause-meets
returns-clause-meets c = λ R P ts ps es. begun_from (λ (S : State). results_from R P c.args.from S >>= finish_builder) c.begin_builder.ensures ts c.args.results.now ps es c.args.kept.now c.args.frontier.now c.args.plans.now
    (seq _ (c.present_results.ensures.meets R P ts ps es c.args.plans.now) (went _ c.in_ok-present_results.was) (c.finish_builder.ensures.meets ts c.args.results.now ps es))
