use native.Mathlib.Omega.{arith}
use Rattle.page_lines.proofs.Laws.{and_then}
use Rattle.page_lines.proofs.put_spaced.Goals as goal

pub returns : goal.returns
returns c = (and_then c.put_text-next.ensures c.put_number.ensures.0, omega (arith, c.put_text-next.ensures.next, c.put_number.ensures.1))
