use mathlib.Core.List.{[]}
use native.Mathlib.Omega.{arith}
use Rattle.machine.specs.Solver.{complete_node}
use Rattle.solve_workspace.specs.Runs.{seq, halt}
use Rattle.solve_workspace.specs.Entering.{memory_on, memory_by}
use Rattle.solve_workspace.specs.TurnLaws.{went, halted, held_on, handed_on}
use Rattle.solve_workspace.proofs.complete_node.Goals as goal

pub returns-in_err-memo_insert : goal.returns-in_err-memo_insert
unfolding complete_node
returns-in_err-memo_insert c = rw (handed_on c.in_err-memo_insert.was c.from_residual.ensures.1) (record { meets = λ ts ps ks fs ns. halt _ (c.memo_insert.ensures.meets ts _ ps ks fs ns) (halted _ c.in_err-memo_insert.was); memory = c.memo_insert.ensures.memory })

pub push_exact_result-requires : goal.push_exact_result-requires
push_exact_result-requires c = (omega arith, held_on (c.memo_insert.ensures.meets [] [] [] [] [] []) c.in_ok-memo_insert.was)

pub returns : goal.returns
unfolding complete_node
returns c = record { meets = λ ts ps ks fs ns. seq _ (c.memo_insert.ensures.meets ts _ ps ks fs ns) (went _ c.in_ok-memo_insert.was) (c.push_exact_result.ensures.meets ts ps _ ks fs ns); memory = memory_on _ (memory_by c.memo_insert.ensures.memory (went _ c.in_ok-memo_insert.was)) c.push_exact_result.ensures.keeps }
