use Rattle.std.proofs.Common.{arith}
use Rattle.solve_workspace.specs.Stacks.{sound_tasks, task_go, task_stop}
use Rattle.solve_workspace.proofs.push_exact_task.Goals as goal

pub returns-then-b-top-clause-meets : goal.returns-then-b-top-clause-meets
returns-then-b-top-clause-meets c = λ rs ps es ks fs ns. task_stop c.args.b c.args.g.now c.args.tasks.now rs ps es ks fs ns _ _ (omega arith)

pub returns-clause-meets : goal.returns-clause-meets
returns-clause-meets c = λ rs ps es ks fs ns. rw c.raise.ensures (task_go c.args.b c.args.g.now c.args.tasks.now rs ps es ks fs ns c.task_row.result _ c.task_row.ensures (omega arith) (omega arith) (sound_tasks _ c.requires.1 (omega arith)))
