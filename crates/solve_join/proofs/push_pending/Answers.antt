use Rattle.std.proofs.Common.{refl, ap, arith}
use Rattle.machine.specs.Model.{Scratch}
use Rattle.solve_workspace.specs.Stacks.{pending_go, pending_stop}
use Rattle.solve_workspace.specs.Words.{pending_row}
use Rattle.solve_join.proofs.Puts.{pending_sound}
use Rattle.solve_join.proofs.push_pending.Goals as goal

pub returns-then-b-top-clause-meets : goal.returns-then-b-top-clause-meets
returns-then-b-top-clause-meets c = λ ts rs es ks fs ns. pending_stop c.args.b c.args.g.now ts rs c.args.pending.now es ks fs ns _ _ (omega arith) (omega arith)

pub returns : goal.returns
returns c = rw c.raise.ensures (record { meets = λ ts rs es ks fs ns. pending_go c.args.b c.args.g.now ts rs c.args.pending.now es ks fs ns _ _ (pending_row _ _ _ _ _ _ _ _ (omega arith) (ap (λ (x : Scratch). x.plan.plan) c.scratch_candidate-c.ensures)) (omega arith) (omega arith) (pending_sound _ c.requires.1 (omega arith)); only = refl })
