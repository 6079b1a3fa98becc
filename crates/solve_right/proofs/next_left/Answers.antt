use native.Mathlib.Omega.{arith}
use Rattle.solve_right.proofs.Rights.{left_on, left_off, kept_same}
use Rattle.solve_right.proofs.next_left.Goals as goal

pub returns-then-left_offset-len : goal.returns-then-left_offset-len
returns-then-left_offset-len c = record { meets = λ R choices texts bytes an root space es. left_on R _ c.args.key c.args.child_index c.args.start c.args.len c.args.left_offset c.args.pending_start _ (omega arith) (c.push_right.ensures.meets R _ _ _ es _ _ c.child_number-child.ensures); same = kept_same _ c.push_right.ensures.keeps }

pub returns-else-left_offset-len : goal.returns-else-left_offset-len
returns-else-left_offset-len c = record { meets = λ R choices texts bytes an root space es. left_off R _ c.args.key c.args.child_index c.args.start c.args.len c.args.left_offset c.args.pending_start _ (omega arith) (c.last_left.ensures.meets R _ _ _ _ es); same = c.last_left.ensures.same }
