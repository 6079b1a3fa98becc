use native.Mathlib.Omega.{arith}
use mathlib.Core.Path.{sym}
use Rattle.page_numerals.specs.Lengths.{length_digits}
use Rattle.page_lines.proofs.Laws.{part_put}
use Rattle.page_lines.proofs.put_halves.Goals as goal

pub returns : goal.returns
returns c = part_put _ _ _ _ _ _ _ (omega arith) c.put_hexadecimal.ensures (sym (length_digits 16 32 _))
