use mathlib.Core.Path.{refl}
use mathlib.Core.List.{[]}
use native.Mathlib.Omega.{arith}
use Rattle.solve_workspace.specs.Runs.{seq, halt, ok, kept_by, kept_on, kept_trans, any_rules, any_tables}
use Rattle.solve_workspace.specs.TurnLaws.{went, halted, held_on, handed_on}
use Rattle.solve_node.proofs.Steps.{choice_is}
use Rattle.solve_node.proofs.begin_choice.Goals as goal

pub returns-in_err-skip_choices : goal.returns-in_err-skip_choices
returns-in_err-skip_choices c = rw (handed_on c.in_err-skip_choices.was c.from_residual.ensures.1) (record { meets = λ R P rs ps es ks fs ns. rw (choice_is R P c.args.alternatives.now c.args.skipped c.args.key c.args.g.now _ rs ps es ks fs ns _ refl) (halt _ (c.skip_choices.ensures.meets R P _ rs ps es ks fs ns) (halted _ c.in_err-skip_choices.was)); keeps = c.skip_choices.ensures.keeps })

pub overflow_cast-below : goal.overflow_cast-below
overflow_cast-below c =
    let k = ok (c.skip_choices.ensures.meets any_rules any_tables [] [] [] [] [] [] []) (went _ c.in_ok-skip_choices.was) in
    omega (arith, k.results, k.stack)

pub push_exact_task-requires : goal.push_exact_task-requires
push_exact_task-requires c = (omega arith, held_on (c.skip_choices.ensures.meets any_rules any_tables [] [] [] [] [] [] []) c.in_ok-skip_choices.was)

pub returns-in_err-push_exact_task : goal.returns-in_err-push_exact_task
returns-in_err-push_exact_task c =
    let k = kept_by c.skip_choices.ensures.keeps (went _ c.in_ok-skip_choices.was) in
    rw (handed_on c.in_err-push_exact_task.was c.from_residual-in_err-push_exact_task.ensures.1) (record { meets = λ R P rs ps es ks fs ns. rw (choice_is R P c.args.alternatives.now c.args.skipped c.args.key c.args.g.now _ rs ps es ks fs ns _ k.results) (seq _ (c.skip_choices.ensures.meets R P _ rs ps es ks fs ns) (went _ c.in_ok-skip_choices.was) (halt _ (c.push_exact_task.ensures.meets rs ps es ks fs ns) (halted _ c.in_err-push_exact_task.was))); keeps = kept_on _ k c.push_exact_task.ensures.keeps })

pub push_alternatives-requires : goal.push_alternatives-requires
push_alternatives-requires c = (omega arith, held_on (c.push_exact_task.ensures.meets [] [] [] [] [] []) c.in_ok-push_exact_task.was)

pub returns : goal.returns
returns c =
    let k = kept_by c.skip_choices.ensures.keeps (went _ c.in_ok-skip_choices.was) in
    record { meets = λ R P rs ps es ks fs ns. rw (choice_is R P c.args.alternatives.now c.args.skipped c.args.key c.args.g.now _ rs ps es ks fs ns _ k.results) (seq _ (c.skip_choices.ensures.meets R P _ rs ps es ks fs ns) (went _ c.in_ok-skip_choices.was) (seq _ (c.push_exact_task.ensures.meets rs ps es ks fs ns) (went _ c.in_ok-push_exact_task.was) (c.push_alternatives.ensures.meets R P rs ps es ks fs ns))); keeps = kept_on _ (kept_trans k (kept_by c.push_exact_task.ensures.keeps (went _ c.in_ok-push_exact_task.was))) c.push_alternatives.ensures.keeps }
