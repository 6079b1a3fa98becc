use mathlib.Core.Path.{refl}
use mathlib.Core.List.{[]}
use native.Mathlib.Omega.{arith}
use Rattle.solve_workspace.specs.Reading.{rules}
use Rattle.solve_workspace.specs.Runs.{seq, halt, kept_by}
use Rattle.solve_workspace.specs.TurnLaws.{went, halted, held_on, handed_on}
use Rattle.solve_continue.proofs.Boundaries.{fill_is, kept_back, any_space}
use Rattle.solve_continue.proofs.fill_boundary.Goals as goal

pub returns-in_err-push_gaps : goal.returns-in_err-push_gaps
returns-in_err-push_gaps c = rw (handed_on c.in_err-push_gaps.was c.from_residual.ensures.1) (record { meets = λ P ts rs es e. rw (fill_is (rules c.args.options) P c.args.start c.args.len c.args.indent c.args.g.now ts rs c.args.pending.now es c.args.kept.now c.args.frontier.now c.args.plans.now (omega (arith, c.requires.1.1.1.0, c.requires.1.1.1.1.pending))) (halt _ (c.push_gaps.ensures.meets P ts rs es e) (halted _ c.in_err-push_gaps.was)); keeps = c.push_gaps.ensures.keeps })

pub build_pending-requires : goal.build_pending-requires
build_pending-requires c = (record { room = omega (arith, c.requires.0.room) }, (omega (arith, c.requires.1.1.1.0), (omega (arith, c.requires.1.0), (omega (arith, c.requires.1.1.0), ((kept_by c.push_gaps.ensures.keeps (went _ c.in_ok-push_gaps.was)).pending, held_on (c.push_gaps.ensures.meets (any_space c.args.space.0) [] [] [] refl) c.in_ok-push_gaps.was)))))

pub returns : goal.returns
returns c = record { meets = λ P ts rs es e. rw (fill_is (rules c.args.options) P c.args.start c.args.len c.args.indent c.args.g.now ts rs c.args.pending.now es c.args.kept.now c.args.frontier.now c.args.plans.now (omega (arith, c.requires.1.1.1.0, c.requires.1.1.1.1.pending))) (seq _ (c.push_gaps.ensures.meets P ts rs es e) (went _ c.in_ok-push_gaps.was) (c.build_pending.ensures.meets ts rs es)); keeps = kept_back _ (kept_by c.push_gaps.ensures.keeps (went _ c.in_ok-push_gaps.was)) c.build_pending.ensures.keeps }
