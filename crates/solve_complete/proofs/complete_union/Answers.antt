use Rattle.std.proofs.Common.{[], ◌∙◌}
use Rattle.machine.specs.Solver.{complete_union}
use Rattle.solve_workspace.specs.Entering.{memory_of}
use Rattle.solve_workspace.specs.Runs.{seq, halt, kept_by}
use Rattle.solve_workspace.specs.TurnLaws.{went, halted, held_on, handed_on}
use Rattle.solve_complete.proofs.Completes.{popped_then}
use Rattle.solve_complete.proofs.complete_union.Goals as goal

pub returns-in_err-union_ranges-clause-meets : goal.returns-in_err-union_ranges-clause-meets
unfolding complete_union
returns-in_err-union_ranges-clause-meets c = λ R P ts ps. rw (handed_on c.in_err-union_ranges.was c.from_residual.ensures.1) (popped_then _ c.pop_exact_result.ensures.popped (c.pop_exact_result.ensures.is ts ps _ _ _ _) (popped_then _ c.pop_exact_result-2.ensures.popped (c.pop_exact_result-2.ensures.is ts ps _ _ _ _)
    (halt _ (c.union_ranges.ensures.meets ts _ ps _) (halted _ c.in_err-union_ranges.was))))

pub complete_made-requires : goal.complete_made-requires
complete_made-requires c = (memory_of c.requires.0 ((kept_by c.union_ranges.ensures.keeps (went _ c.in_ok-union_ranges.was)).memo ∙ (c.pop_exact_result-2.ensures.popped.memo ∙ c.pop_exact_result.ensures.popped.memo)), (c.requires.1.0, held_on (c.union_ranges.ensures.meets [] [] [] []) c.in_ok-union_ranges.was))

pub returns-clause-meets : goal.returns-clause-meets
unfolding complete_union
returns-clause-meets c = λ R P ts ps. popped_then _ c.pop_exact_result.ensures.popped (c.pop_exact_result.ensures.is ts ps _ _ _ _) (popped_then _ c.pop_exact_result-2.ensures.popped (c.pop_exact_result-2.ensures.is ts ps _ _ _ _)
    (seq _ (c.union_ranges.ensures.meets ts _ ps _) (went _ c.in_ok-union_ranges.was) (c.complete_made.ensures.meets ts ps _ _ _)))
