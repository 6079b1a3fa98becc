use mathlib.Core.List.{[]}
use native.Mathlib.Omega.{arith}
use Rattle.frontier.specs.Candidates.{carried}
use Rattle.machine.specs.Events.{◌>>=◌}
use Rattle.machine.specs.Model.{State}
use Rattle.machine.specs.Solver.{present, newline, finish_builder}
use Rattle.solve_workspace.specs.Reading.{rules}
use Rattle.solve_workspace.specs.Rows.{survivor}
use Rattle.solve_workspace.specs.Runs.{seq, halt, kept_by, kept_on}
use Rattle.solve_workspace.specs.TurnLaws.{went, halted, held_on, handed_on}
use Rattle.solve_builder.specs.Opening.{building_by, begun_building, begun_held, begun_kept, begun_from}
use Rattle.solve_gaps.specs.Gaps.{spacing}
use Rattle.solve_gaps.proofs.Filling.{any_space}
use Rattle.solve_gaps.proofs.space_or_newline.Goals as goal

pub present-requires : goal.present-requires
present-requires c = (begun_building c.begin_builder.ensures c.requires.0 (omega arith), begun_held c.begin_builder.ensures c.requires.1.1.1)

pub returns-in_err-present : goal.returns-in_err-present
unfolding spacing
returns-in_err-present c = rw (handed_on c.in_err-present.was c.from_residual.ensures.1) (record { meets = λ P ts rs ps es. begun_from (λ (S : State). present (survivor (carried c.args.space)) S >>= (λ S₁. present (newline (rules c.args.options) P c.args.indent) S₁ >>= finish_builder)) c.begin_builder.ensures ts rs ps es c.args.kept.now c.args.frontier.now c.args.plans.now (halt _ (c.present.ensures.meets ts rs ps es c.args.kept.now c.args.plans.now) (halted _ c.in_err-present.was)); keeps = kept_on _ (begun_kept c.begin_builder.ensures) c.present.ensures.keeps })

pub present_newline-requires : goal.present_newline-requires
present_newline-requires c = (building_by c.present.ensures.building (went _ c.in_ok-present.was), held_on (c.present.ensures.meets [] [] [] [] [] []) c.in_ok-present.was)

pub returns-in_err-present_newline : goal.returns-in_err-present_newline
unfolding spacing
returns-in_err-present_newline c = rw (handed_on c.in_err-present_newline.was c.from_residual-in_err-present_newline.ensures.1) (record { meets = λ P ts rs ps es. begun_from (λ (S : State). present (survivor (carried c.args.space)) S >>= (λ S₁. present (newline (rules c.args.options) P c.args.indent) S₁ >>= finish_builder)) c.begin_builder.ensures ts rs ps es c.args.kept.now c.args.frontier.now c.args.plans.now (seq _ (c.present.ensures.meets ts rs ps es c.args.kept.now c.args.plans.now) (went _ c.in_ok-present.was) (halt _ (c.present_newline.ensures.meets P ts rs ps es c.args.kept.now c.args.plans.now) (halted _ c.in_err-present_newline.was))); keeps = kept_on _ (begun_kept c.begin_builder.ensures) (kept_on _ (kept_by c.present.ensures.keeps (went _ c.in_ok-present.was)) c.present_newline.ensures.keeps) })

pub finish_builder-requires : goal.finish_builder-requires
finish_builder-requires c = (building_by c.present_newline.ensures.building (went _ c.in_ok-present_newline.was), (c.requires.1.0, (c.requires.1.1.0, held_on (c.present_newline.ensures.meets (any_space 0) [] [] [] [] [] []) c.in_ok-present_newline.was)))

pub returns : goal.returns
unfolding spacing
returns c = record { meets = λ P ts rs ps es. begun_from (λ (S : State). present (survivor (carried c.args.space)) S >>= (λ S₁. present (newline (rules c.args.options) P c.args.indent) S₁ >>= finish_builder)) c.begin_builder.ensures ts rs ps es c.args.kept.now c.args.frontier.now c.args.plans.now (seq _ (c.present.ensures.meets ts rs ps es c.args.kept.now c.args.plans.now) (went _ c.in_ok-present.was) (seq _ (c.present_newline.ensures.meets P ts rs ps es c.args.kept.now c.args.plans.now) (went _ c.in_ok-present_newline.was) (c.finish_builder.ensures.meets ts rs ps es))); keeps = kept_on _ (begun_kept c.begin_builder.ensures) (kept_on _ (kept_by c.present.ensures.keeps (went _ c.in_ok-present.was)) (kept_on _ (kept_by c.present_newline.ensures.keeps (went _ c.in_ok-present_newline.was)) c.finish_builder.ensures.keeps)) }
