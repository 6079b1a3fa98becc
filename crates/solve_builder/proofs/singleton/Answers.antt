use Rattle.std.proofs.Common.{[], arith}
use Rattle.machine.specs.Events.{◌>>=◌}
use Rattle.machine.specs.Solver.{present, finish_builder, singleton}
use Rattle.frontier.specs.Candidates.{carried}
use Rattle.solve_workspace.specs.Rows.{survivor}
use Rattle.solve_workspace.specs.Runs.{seq, halt}
use Rattle.solve_workspace.specs.TurnLaws.{went, halted, held_on, handed_on}
use Rattle.solve_builder.specs.Opening.{building_by, begun_building, begun_held, begun_from}
use Rattle.solve_builder.proofs.singleton.Goals as goal

pub present-requires : goal.present-requires
present-requires c = (begun_building c.begin_builder.ensures c.requires.0 (omega arith), begun_held c.begin_builder.ensures c.requires.1.1.1)

pub returns-in_err-present-clause-meets : goal.returns-in_err-present-clause-meets
unfolding singleton
returns-in_err-present-clause-meets c = λ ts rs ps es. rw (handed_on c.in_err-present.was c.from_residual.ensures.1) (begun_from (λ S. present (survivor (carried c.args.c)) S >>= finish_builder) c.begin_builder.ensures ts rs ps es c.args.kept.now c.args.frontier.now c.args.plans.now (halt _ (c.present.ensures.meets ts rs ps es c.args.kept.now c.args.plans.now) (halted _ c.in_err-present.was)))

pub finish_builder-requires : goal.finish_builder-requires
finish_builder-requires c =
    (building_by c.present.ensures.building (went _ c.in_ok-present.was), (omega (arith, c.requires.1.0), (omega (arith, c.requires.1.1.0), held_on (c.present.ensures.meets [] [] [] [] [] []) c.in_ok-present.was)))

pub returns-clause-meets : goal.returns-clause-meets
unfolding singleton
returns-clause-meets c = λ ts rs ps es. begun_from (λ S. present (survivor (carried c.args.c)) S >>= finish_builder) c.begin_builder.ensures ts rs ps es c.args.kept.now c.args.frontier.now c.args.plans.now (seq _ (c.present.ensures.meets ts rs ps es c.args.kept.now c.args.plans.now) (went _ c.in_ok-present.was) (c.finish_builder.ensures.meets ts rs ps es))
