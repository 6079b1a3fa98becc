use Rattle.std.proofs.Common.{[], ◌-◌, ◌+◌, refl, arith}
use native.Mathlib.Numerals.{unary_clauses}
use Rattle.solve_workspace.specs.Runs.{leads_refl, onward, via, kept_by, kept_on, kept_trans, ended}
use Rattle.solve_workspace.specs.TurnLaws.{went, halted, held_on, handed_on}
use Rattle.solve_node.proofs.Steps.{skip_go, skip_halt, skip_none}
use Rattle.solve_node.proofs.skip_choices.Goals as goal

pub loop-init : goal.loop-init
loop-init c = record { sound = c.requires; kept = record { memo = refl; results = refl; pending = omega arith }; leads = λ R P ts rs ps es ks fs ns. simp unary_clauses leads_refl }

pub returns-in_err-work_miss : goal.returns-in_err-work_miss
returns-in_err-work_miss c = rw (handed_on c.in_err-work_miss.was c.from_residual.ensures.1) (record { meets = λ R P ts rs ps es ks fs ns. via (c.loop.invariant.leads R P ts rs ps es ks fs ns) (skip_halt R P (c.args.skipped - c.loop.counter) (c.args.skipped - (c.loop.counter + 1)) _ (omega arith) (c.work_miss.ensures.meets ts rs ps es ks fs ns) (halted _ c.in_err-work_miss.was)); keeps = kept_on _ c.loop.invariant.kept c.work_miss.ensures.keeps })

pub loop-preserved : goal.loop-preserved
loop-preserved c = record {
  sound = held_on (c.work_miss.ensures.meets [] [] [] [] [] [] []) c.in_ok-work_miss.was;
  kept = kept_trans c.loop.invariant.kept (kept_by c.work_miss.ensures.keeps (went _ c.in_ok-work_miss.was));
  leads = λ R P ts rs ps es ks fs ns. onward (c.loop.invariant.leads R P ts rs ps es ks fs ns) (skip_go R P (c.args.skipped - c.loop.counter) (c.args.skipped - (c.loop.counter + 1)) _ (omega arith) (c.work_miss.ensures.meets ts rs ps es ks fs ns) (went _ c.in_ok-work_miss.was));
}

pub returns : goal.returns
returns c = record { meets = λ R P ts rs ps es ks fs ns. via (c.loop.invariant.leads R P ts rs ps es ks fs ns) (rw (skip_none R P (c.args.skipped - c.loop.counter) _ (omega arith)) (ended _ c.loop.invariant.sound)); keeps = record { by = c.loop.invariant.kept } }
