use Rattle.solve_workspace.specs.Runs.{via}
use Rattle.solve_workspace.specs.TurnLaws.{err_is}
use Rattle.solve_begin.proofs.Begin.{leaf_push, leaf_fails}
use Rattle.solve_begin.proofs.begin_leaf.Goals as goal

pub returns-in_err-c : goal.returns-in_err-c
returns-in_err-c c = rw (err_is c.from_residual.ensures.1) (record { meets = λ P ts ps. leaf_fails c.leaf_candidate.ensures c.in_err-c.was P _ _ _ _; memory = record { by = tt } })

pub returns : goal.returns
returns c = record { meets = λ P ts ps. via (leaf_push c.leaf_candidate.ensures c.in_ok-c.was P _ _ _) (c.complete_singleton.ensures.meets _ P ts ps); memory = c.complete_singleton.ensures.memory }
