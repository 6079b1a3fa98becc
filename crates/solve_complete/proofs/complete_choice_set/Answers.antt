use Rattle.std.proofs.Common.{[], arith}
use Rattle.machine.specs.Solver.{complete_node}
use Rattle.solve_workspace.specs.Runs.{kept_by, any_rules, any_tables}
use Rattle.solve_workspace.specs.Entering.{memory_of}
use Rattle.solve_workspace.specs.TurnLaws.{went, halted, held_on, handed_on}
use Rattle.solve_complete.proofs.Completes.{choice_seq, choice_halt, fewer_sound, fewer_from}
use Rattle.solve_complete.proofs.complete_choice_set.Goals as goal

pub returns-in_err-choose_results-clause-meets : goal.returns-in_err-choose_results-clause-meets
returns-in_err-choose_results-clause-meets c = λ R P ts ps. rw (handed_on c.in_err-choose_results.was c.from_residual.ensures.1) (choice_halt R P c.args.key c.args.result_start _ (c.choose_results.ensures.meets R P ts ps _) (halted _ c.in_err-choose_results.was))

pub complete_made-requires : goal.complete_made-requires
complete_made-requires c =
    let k = kept_by c.choose_results.ensures.keeps (went _ c.in_ok-choose_results.was) in
    (memory_of c.requires.0 k.memo, (c.requires.1.0, fewer_sound c.choose_results.new.g c.args.result_start (omega (arith, k.results, c.requires.1.1.1.1.1.0)) (held_on (c.choose_results.ensures.meets any_rules any_tables [] [] []) c.in_ok-choose_results.was)))

pub returns-clause-meets : goal.returns-clause-meets
returns-clause-meets c = λ R P ts ps. choice_seq R P c.args.key c.args.result_start _ (c.choose_results.ensures.meets R P ts ps _) (went _ c.in_ok-choose_results.was)
    (fewer_from (complete_node c.args.key _) c.args.g.now c.choose_results.new.g c.args.result_start ts _ ps _ _ _ _ _ _ _ c.requires.1.1.1.1.1.0 (c.complete_made.ensures.meets ts ps _ _ _))
