use native.Mathlib.Omega.{arith}
use Rattle.page_lines.proofs.Laws.{part_put}
use Rattle.page_lines.proofs.put_number.Goals as goal

pub overflow_add-result : goal.overflow_add-result
overflow_add-result c = omega (arith, c.put_decimal-count.ensures.1)

pub returns : goal.returns
returns c = (part_put _ _ _ _ _ _ _ (omega arith) c.put_decimal-count.ensures.2 c.put_decimal-count.ensures.0, omega (arith, c.put_decimal-count.ensures.1))
