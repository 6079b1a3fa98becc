use Rattle.solve_workspace.specs.Runs.{via}
use Rattle.solve_workspace.specs.TurnLaws.{err_is}
use Rattle.solve_node.proofs.Steps.{start_push, start_failed}
use Rattle.solve_node.proofs.begin_single.Goals as goal

pub returns-in_err-task-clause-meets : goal.returns-in_err-task-clause-meets
returns-in_err-task-clause-meets c = λ P rs ps es ks fs ns. rw (err_is c.from_residual.ensures.1) (start_failed c.first_child.ensures c.in_err-task.was P _ _ _ _)

pub returns-clause-meets : goal.returns-clause-meets
returns-clause-meets c = λ P rs ps es ks fs ns. via (start_push c.first_child.ensures c.in_ok-task.was P _ _ _) (c.push_child.ensures.meets _ P rs ps es ks fs ns)
