use Rattle.std.proofs.Common.{[], ◌∙◌}
use Rattle.machine.specs.Solver.{complete_wrapped}
use Rattle.solve_workspace.specs.Entering.{memory_of}
use Rattle.solve_workspace.specs.Runs.{seq, halt, kept_by}
use Rattle.solve_workspace.specs.TurnLaws.{went, halted, held_on, handed_on}
use Rattle.solve_complete.proofs.Completes.{popped_then}
use Rattle.solve_complete.proofs.complete_wrapped.Goals as goal

pub returns-in_err-wrap_range-clause-meets : goal.returns-in_err-wrap_range-clause-meets
unfolding complete_wrapped
returns-in_err-wrap_range-clause-meets c = λ R P ts ps. rw (handed_on c.in_err-wrap_range.was c.from_residual.ensures.1) (popped_then _ c.pop_exact_result.ensures.popped (c.pop_exact_result.ensures.is ts ps _ _ _ _) (halt _ (c.wrap_range.ensures.meets ts _ ps _) (halted _ c.in_err-wrap_range.was)))

pub complete_made-requires : goal.complete_made-requires
complete_made-requires c = (memory_of c.requires.0 ((kept_by c.wrap_range.ensures.keeps (went _ c.in_ok-wrap_range.was)).memo ∙ c.pop_exact_result.ensures.popped.memo), (c.requires.1.0, held_on (c.wrap_range.ensures.meets [] [] [] []) c.in_ok-wrap_range.was))

pub returns-clause-meets : goal.returns-clause-meets
unfolding complete_wrapped
returns-clause-meets c = λ R P ts ps. popped_then _ c.pop_exact_result.ensures.popped (c.pop_exact_result.ensures.is ts ps _ _ _ _) (seq _ (c.wrap_range.ensures.meets ts _ ps _) (went _ c.in_ok-wrap_range.was) (c.complete_made.ensures.meets ts ps _ _ _))
