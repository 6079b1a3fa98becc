use mathlib.Core.Path.{sym, ap}
use Rattle.solve_workspace.specs.Rows.{task_of, meant}
use Rattle.solve_workspace.proofs.task_row.Goals as goal

pub returns-in-Eval : goal.returns-in-Eval
unfolding task_of
returns-in-Eval c = ap meant (sym c.in-Eval.is)

pub returns-in-CompleteAlias : goal.returns-in-CompleteAlias
unfolding task_of
returns-in-CompleteAlias c = ap meant (sym c.in-CompleteAlias.is)

pub returns-in-CompleteUnion : goal.returns-in-CompleteUnion
unfolding task_of
returns-in-CompleteUnion c = ap meant (sym c.in-CompleteUnion.is)

pub returns-in-CompleteChoiceSet : goal.returns-in-CompleteChoiceSet
unfolding task_of
returns-in-CompleteChoiceSet c = ap meant (sym c.in-CompleteChoiceSet.is)

pub returns-in-CompleteAnnotate : goal.returns-in-CompleteAnnotate
unfolding task_of
returns-in-CompleteAnnotate c = ap meant (sym c.in-CompleteAnnotate.is)

pub returns-in-CompletePenalty : goal.returns-in-CompletePenalty
unfolding task_of
returns-in-CompletePenalty c = ap meant (sym c.in-CompletePenalty.is)

pub returns-in-ContinueSequence : goal.returns-in-ContinueSequence
unfolding task_of
returns-in-ContinueSequence c = ap meant (sym c.in-ContinueSequence.is)

pub returns-in-CompleteSequenceRight : goal.returns-in-CompleteSequenceRight
unfolding task_of
returns-in-CompleteSequenceRight c = ap meant (sym c.in-CompleteSequenceRight.is)
