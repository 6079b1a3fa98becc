use mathlib.Core.List.{[]}
use native.Mathlib.Omega.{arith}
use Rattle.machine.specs.Solver.{begin_union}
use Rattle.solve_workspace.specs.Runs.{seq, halt, kept_by, kept_on, any_rules, any_tables}
use Rattle.solve_workspace.specs.TurnLaws.{went, halted, held_on, handed_on}
use Rattle.solve_node.proofs.begin_union.Goals as goal

pub returns-in_err-push_child : goal.returns-in_err-push_child
unfolding begin_union
returns-in_err-push_child c = rw (handed_on c.in_err-push_child.was c.from_residual.ensures.1) (record { meets = λ R P rs ps es ks fs ns. halt _ (c.push_child.ensures.meets R P rs ps es ks fs ns) (halted _ c.in_err-push_child.was); keeps = c.push_child.ensures.keeps })

pub push_exact_task-requires : goal.push_exact_task-requires
push_exact_task-requires c = (omega arith, held_on (c.push_child.ensures.meets any_rules any_tables [] [] [] [] [] []) c.in_ok-push_child.was)

pub returns : goal.returns
unfolding begin_union
returns c = record { meets = λ R P rs ps es ks fs ns. seq _ (c.push_child.ensures.meets R P rs ps es ks fs ns) (went _ c.in_ok-push_child.was) (c.push_exact_task.ensures.meets rs ps es ks fs ns); keeps = kept_on _ (kept_by c.push_child.ensures.keeps (went _ c.in_ok-push_child.was)) c.push_exact_task.ensures.keeps }
