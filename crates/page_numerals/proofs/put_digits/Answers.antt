use native.Mathlib.Omega.{arith}
use Rattle.page_numerals.proofs.Laws.{left_begin, left_again, left_end}
use Rattle.page_numerals.proofs.put_digits.Goals as goal

pub loop-i-init : goal.loop-i-init
loop-i-init c = left_begin _ _ _ _

pub loop-i-preserved : goal.loop-i-preserved
loop-i-preserved c = left_again _ _ _ _ _ _ _ _ (omega arith) (omega arith) c.digit.ensures c.loop-i.invariant

pub returns : goal.returns
returns c = left_end _ _ _ _ _ _ _ (omega arith) c.loop-i.invariant
