use mathlib.Core.Path.{◌∙◌}
use mathlib.Core.List.{[]}
use Rattle.machine.specs.Solver.{next_left}
use Rattle.solve_workspace.specs.Runs.{seq, halt, kept_by}
use Rattle.solve_workspace.specs.TurnLaws.{went, halted, held_on, handed_on}
use Rattle.solve_right.proofs.Rights.{same_stopped, same_trans}
use Rattle.solve_right.proofs.last_left.Goals as goal

pub returns-in_err-build_pending : goal.returns-in_err-build_pending
unfolding next_left
returns-in_err-build_pending c = rw (handed_on c.in_err-build_pending.was c.from_residual.ensures.1) (record { meets = λ R P start len offset es. halt _ (c.build_pending.ensures.meets _ _ es) (halted _ c.in_err-build_pending.was); same = same_stopped (halted _ c.in_err-build_pending.was) })

pub push_exact_task-requires : goal.push_exact_task-requires
push_exact_task-requires c = (c.requires.1.1.0, held_on (c.build_pending.ensures.meets [] [] []) c.in_ok-build_pending.was)

pub returns-in_err-push_exact_task : goal.returns-in_err-push_exact_task
unfolding next_left
returns-in_err-push_exact_task c = rw (handed_on c.in_err-push_exact_task.was c.from_residual-in_err-push_exact_task.ensures.1) (record { meets = λ R P start len offset es. seq _ (c.build_pending.ensures.meets _ _ es) (went _ c.in_ok-build_pending.was) (halt _ (c.push_exact_task.ensures.meets _ _ es _ _ _) (halted _ c.in_err-push_exact_task.was)); same = same_stopped (halted _ c.in_err-push_exact_task.was) })

pub push_exact_result-requires : goal.push_exact_result-requires
push_exact_result-requires c = (c.requires.1.1.1.0, held_on (c.push_exact_task.ensures.meets [] [] [] [] [] []) c.in_ok-push_exact_task.was)

pub returns : goal.returns
unfolding next_left
returns c = record { meets = λ R P start len offset es. seq _ (c.build_pending.ensures.meets _ _ es) (went _ c.in_ok-build_pending.was) (seq _ (c.push_exact_task.ensures.meets _ _ es _ _ _) (went _ c.in_ok-push_exact_task.was) (c.push_exact_result.ensures.meets _ _ es _ _ _)); same = same_trans _ ((kept_by c.push_exact_task.ensures.keeps (went _ c.in_ok-push_exact_task.was)).memo ∙ (kept_by c.build_pending.ensures.keeps (went _ c.in_ok-build_pending.was)).memo) c.push_exact_result.ensures.keeps }
