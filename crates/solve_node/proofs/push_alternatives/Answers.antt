use Rattle.std.proofs.Common.{[]}
use Rattle.solve_workspace.specs.Runs.{onward, via, kept_by, kept_on, kept_trans, ended}
use Rattle.solve_workspace.specs.TurnLaws.{went, halted, held_on, handed_on}
use Rattle.solve_node.proofs.Steps.{alternatives_go, alternatives_halt, alternatives_none}
use Rattle.solve_node.proofs.push_alternatives.Goals as goal

pub loop-node-preserved : goal.loop-node-preserved
loop-node-preserved c = record {
  sound = held_on (c.push_exact_task.ensures.meets [] [] [] [] [] []) c.in_ok-push_exact_task.was;
  kept = kept_trans c.loop-node.invariant.kept (kept_by c.push_exact_task.ensures.keeps (went _ c.in_ok-push_exact_task.was));
  leads = λ R P rs ps es ks fs ns. onward (c.loop-node.invariant.leads R P rs ps es ks fs ns) (alternatives_go R P _ _ c.args.key _ c.in-Some.ensures.steps (c.push_exact_task.ensures.meets rs ps es ks fs ns) (went _ c.in_ok-push_exact_task.was));
}

pub returns-in_err-push_exact_task : goal.returns-in_err-push_exact_task
returns-in_err-push_exact_task c = rw (handed_on c.in_err-push_exact_task.was c.from_residual.ensures.1) (record { meets = λ R P rs ps es ks fs ns. via (c.loop-node.invariant.leads R P rs ps es ks fs ns) (alternatives_halt R P _ _ c.args.key _ c.in-Some.ensures.steps (c.push_exact_task.ensures.meets rs ps es ks fs ns) (halted _ c.in_err-push_exact_task.was)); keeps = kept_on _ c.loop-node.invariant.kept c.push_exact_task.ensures.keeps })

pub returns : goal.returns
returns c = record { meets = λ R P rs ps es ks fs ns. via (c.loop-node.invariant.leads R P rs ps es ks fs ns) (rw (alternatives_none R P c.loop-node.node-iterator.iter.rest.now c.args.key _ c.in-None.ensures.steps.0) (ended _ c.loop-node.invariant.sound)); keeps = record { by = c.loop-node.invariant.kept } }
