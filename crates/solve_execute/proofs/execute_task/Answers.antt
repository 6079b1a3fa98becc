use mathlib.Core.List.{[]}
use lib.ListN.{get_or}
use native.Mathlib.Omega.{arith}
use Rattle.machine.specs.Solver.{execute_task}
use Rattle.solve_execute.proofs.Children.{row_at_most}
use Rattle.solve_execute.proofs.execute_task.Goals as goal

pub prove-unreachable-requires : goal.prove-unreachable-requires
prove-unreachable-requires c =
    let w = rw c.in-CompleteSequenceRight.is at c.requires.1.1.1 in
    omega (arith, w.child, row_at_most c.args.edges.now (get_or c.args.nodes.now c.in-CompleteSequenceRight.key.node []), c.node_word-most.ensures, c.if-prove.true)

pub complete_sequence_right-requires : goal.complete_sequence_right-requires
complete_sequence_right-requires c =
    let w = rw c.in-CompleteSequenceRight.is at c.requires.1.1.1 in
    (w.result, (omega (arith, c.if-prove.false, c.node_word-most.type_inv), (w.pending, (c.requires.0.tasks, (c.requires.0.results, (record { room = c.requires.0.frontier }, (c.requires.0.pending, (c.requires.0.kept, (c.requires.0.plans, c.requires.1.1.0)))))))))

pub returns-in-Eval-clause-meets : goal.returns-in-Eval-clause-meets
unfolding execute_task
returns-in-Eval-clause-meets c = rw c.in-Eval.is (λ bytes annotations root. c.begin_node.ensures.meets bytes annotations root _ _)

pub returns-in-CompleteAlias-clause-meets : goal.returns-in-CompleteAlias-clause-meets
unfolding execute_task
returns-in-CompleteAlias-clause-meets c = rw c.in-CompleteAlias.is (λ bytes annotations root. c.complete_alias.ensures.meets _ _ _ _ _ _ _)

pub returns-in-CompleteUnion-clause-meets : goal.returns-in-CompleteUnion-clause-meets
unfolding execute_task
returns-in-CompleteUnion-clause-meets c = rw c.in-CompleteUnion.is (λ bytes annotations root. c.complete_union.ensures.meets _ _ _ _)

pub returns-in-CompleteChoiceSet-clause-meets : goal.returns-in-CompleteChoiceSet-clause-meets
unfolding execute_task
returns-in-CompleteChoiceSet-clause-meets c = rw c.in-CompleteChoiceSet.is (λ bytes annotations root. c.complete_choice_set.ensures.meets _ _ _ _)

pub returns-in-CompleteAnnotate-clause-meets : goal.returns-in-CompleteAnnotate-clause-meets
unfolding execute_task
returns-in-CompleteAnnotate-clause-meets c = rw c.in-CompleteAnnotate.is (λ bytes annotations root. c.complete_wrapped.ensures.meets _ _ _ _)

pub returns-in-CompletePenalty-clause-meets : goal.returns-in-CompletePenalty-clause-meets
unfolding execute_task
returns-in-CompletePenalty-clause-meets c = rw c.in-CompletePenalty.is (λ bytes annotations root. c.complete_wrapped-in-CompletePenalty.ensures.meets _ _ _ _)

pub returns-in-ContinueSequence-clause-meets : goal.returns-in-ContinueSequence-clause-meets
unfolding execute_task
returns-in-ContinueSequence-clause-meets c = rw c.in-ContinueSequence.is (c.continue_sequence.ensures.meets c.args.choices.now c.args.texts.now)

pub returns-in-CompleteSequenceRight-clause-meets : goal.returns-in-CompleteSequenceRight-clause-meets
unfolding execute_task
returns-in-CompleteSequenceRight-clause-meets c = rw c.in-CompleteSequenceRight.is (λ bytes annotations root. c.complete_sequence_right.ensures.meets _ _ _ bytes annotations root _ _)
