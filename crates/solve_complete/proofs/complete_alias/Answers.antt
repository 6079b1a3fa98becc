use Rattle.machine.specs.Solver.{complete_alias}
use Rattle.solve_complete.proofs.Completes.{popped_then}
use Rattle.solve_complete.proofs.complete_alias.Goals as goal

pub returns-clause-meets : goal.returns-clause-meets
unfolding complete_alias
returns-clause-meets c = λ R P ts ps ks fs ns. popped_then _ c.pop_exact_result.ensures.popped (c.pop_exact_result.ensures.is ts ps _ ks fs ns) (c.complete_made.ensures.meets ts ps ks fs ns)
