use mathlib.Core.List.{[]}
use Rattle.machine.specs.Solver.{complete_singleton}
use Rattle.solve_workspace.specs.Entering.{memory_of}
use Rattle.solve_workspace.specs.Runs.{seq, halt, kept_by}
use Rattle.solve_workspace.specs.TurnLaws.{went, halted, held_on, handed_on}
use Rattle.solve_begin.proofs.Begin.{memory_stopped}
use Rattle.solve_begin.proofs.complete_singleton.Goals as goal

pub returns-in_err-singleton : goal.returns-in_err-singleton
unfolding complete_singleton
returns-in_err-singleton c = rw (handed_on c.in_err-singleton.was c.from_residual.ensures.1) (record { meets = λ R P ts ps. halt _ (c.singleton.ensures.meets ts _ ps _) (halted _ c.in_err-singleton.was); memory = memory_stopped (halted _ c.in_err-singleton.was) })

pub complete_node-requires : goal.complete_node-requires
complete_node-requires c = (memory_of c.requires.1.1.1.0 (kept_by c.singleton.ensures.keeps (went _ c.in_ok-singleton.was)).memo, (c.requires.1.1.1.1.0, held_on (c.singleton.ensures.meets [] [] [] []) c.in_ok-singleton.was))

pub returns : goal.returns
unfolding complete_singleton
returns c = record { meets = λ R P ts ps. seq _ (c.singleton.ensures.meets ts _ ps _) (went _ c.in_ok-singleton.was) (c.complete_node.ensures.meets ts ps _ _ _); memory = c.complete_node.ensures.memory }
