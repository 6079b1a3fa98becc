use native.Mathlib.Omega.{arith}
use Rattle.file_put.proofs.Laws.{numbers_turn}
use Rattle.file_put.proofs.put_numbers.Goals as goal

pub loop-x-preserved : goal.loop-x-preserved
loop-x-preserved c =
    (numbers_turn _ _ _ _ _ _ _ _ c.loop-x.invariant.0 c.loop-x-test.true c.put_word-next.ensures, omega (arith, c.loop-x.invariant.1, c.put_word-next.ensures.next))
