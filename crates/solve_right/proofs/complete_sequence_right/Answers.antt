use mathlib.Core.Path.{◌∙◌}
use mathlib.Core.List.{[]}
use native.Mathlib.Omega.{arith}
use Rattle.solve_workspace.specs.Rows.{abs, candidate}
use Rattle.solve_workspace.specs.Runs.{kept_by}
use Rattle.solve_workspace.specs.TurnLaws.{went, halted, held_on, handed_on}
use Rattle.solve_workspace.specs.Work.{popped_sound, popped_from}
use Rattle.solve_right.proofs.Rights.{right_go, right_halt, same_stopped, same_trans}
use Rattle.solve_right.proofs.complete_sequence_right.Goals as goal

pub candidate_at-left-requires : goal.candidate_at-left-requires
candidate_at-left-requires c = omega (arith, c.pop_exact_result.ensures.popped.kept, c.requires.1.1.1.1.1.1.1.1.1.kept, c.requires.1.1.1.1.1.1.1.0)

pub push_joined-requires : goal.push_joined-requires
push_joined-requires c = (c.requires.1.1.1.1.1.1.0, (c.requires.1.1.1.1.1.1.1.0, popped_sound c.pop_exact_result.ensures.popped c.requires.1.1.1.1.1.1.1.1.1))

pub returns-in_err-push_joined : goal.returns-in_err-push_joined
returns-in_err-push_joined c = rw (handed_on c.in_err-push_joined.was c.from_residual.ensures.1) (record { meets = λ R choices texts bytes an root space es. popped_from c.pop_exact_result.ensures.popped (right_halt R _ c.args.key c.args.child_index c.args.start c.args.len c.args.left_offset c.args.pending_start (abs c.args.g.now c.args.tasks.now c.args.results.now c.args.pending.now es c.args.kept.now c.args.frontier.now c.args.plans.now) c.pop_exact_result.new.g _ _ c.args.tasks.now c.args.results.now c.args.pending.now es c.args.kept.now c.args.frontier.now c.args.plans.now (candidate c.candidate_at-left.result) (c.pop_exact_result.ensures.is c.args.tasks.now c.args.pending.now es c.args.kept.now c.args.frontier.now c.args.plans.now) c.candidate_at-left.ensures (c.push_joined.ensures.meets c.args.tasks.now c.args.results.now es c.args.frontier.now c.args.plans.now) (halted _ c.in_err-push_joined.was)); same = same_stopped (halted _ c.in_err-push_joined.was) })

pub next_left-requires : goal.next_left-requires
next_left-requires c = (c.requires.1.0, (omega (arith, c.requires.1.1.0, (kept_by c.push_joined.ensures.keeps (went _ c.in_ok-push_joined.was)).pending, c.pop_exact_result.ensures.popped.pending), (c.requires.1.1.1.0, (c.requires.1.1.1.1.0, (c.requires.1.1.1.1.1.0, (omega (arith, c.requires.1.1.1.1.1.1.0), (c.requires.1.1.1.1.1.1.1.0, (c.requires.1.1.1.1.1.1.1.1.0, held_on (c.push_joined.ensures.meets [] [] [] [] []) c.in_ok-push_joined.was))))))))

pub returns : goal.returns
returns c = record { meets = λ R choices texts bytes an root space es. popped_from c.pop_exact_result.ensures.popped (right_go R _ c.args.key c.args.child_index c.args.start c.args.len c.args.left_offset c.args.pending_start (abs c.args.g.now c.args.tasks.now c.args.results.now c.args.pending.now es c.args.kept.now c.args.frontier.now c.args.plans.now) c.pop_exact_result.new.g _ _ c.args.tasks.now c.args.results.now c.args.pending.now es c.args.kept.now c.args.frontier.now c.args.plans.now (candidate c.candidate_at-left.result) (c.pop_exact_result.ensures.is c.args.tasks.now c.args.pending.now es c.args.kept.now c.args.frontier.now c.args.plans.now) c.candidate_at-left.ensures (c.push_joined.ensures.meets c.args.tasks.now c.args.results.now es c.args.frontier.now c.args.plans.now) (went _ c.in_ok-push_joined.was) (c.next_left.ensures.meets R choices texts bytes an root space es)); same = same_trans _ ((kept_by c.push_joined.ensures.keeps (went _ c.in_ok-push_joined.was)).memo ∙ c.pop_exact_result.ensures.popped.memo) c.next_left.ensures.same }
