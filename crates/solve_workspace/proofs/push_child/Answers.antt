use Rattle.machine.specs.Solver.{push_child}
use Rattle.solve_workspace.specs.Runs.{seq, halt}
use Rattle.solve_workspace.specs.TurnLaws.{went, halted, held_on, handed_on}
use Rattle.std.proofs.Common.{[], arith}
use Rattle.solve_workspace.proofs.push_child.Goals as goal

pub returns-in_err-push_exact_task-clause-meets : goal.returns-in_err-push_exact_task-clause-meets
unfolding push_child
returns-in_err-push_exact_task-clause-meets c = λ R P rs ps es ks fs ns. rw (handed_on c.in_err-push_exact_task.was c.from_residual.ensures.1) (halt _ (c.push_exact_task.ensures.meets rs ps es ks fs ns) (halted _ c.in_err-push_exact_task.was))

pub push_exact_task-requires-2 : goal.push_exact_task-requires-2
push_exact_task-requires-2 c = (omega arith, held_on (c.push_exact_task.ensures.meets [] [] [] [] [] []) c.in_ok-push_exact_task.was)

pub returns-clause-meets : goal.returns-clause-meets
unfolding push_child
returns-clause-meets c = λ R P rs ps es ks fs ns. seq _ (c.push_exact_task.ensures.meets rs ps es ks fs ns) (went _ c.in_ok-push_exact_task.was) (c.push_exact_task-2.ensures.meets rs ps es ks fs ns)
