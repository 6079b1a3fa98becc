use native.Mathlib.Omega.{arith}
use Rattle.page_lines.proofs.Laws.{and_then}
use Prim.Native.Nat.{◌+◌, ◌*◌, ◌^◌}
use Rattle.page_numerals.specs.Lengths.{length_digits}
use Rattle.page_lines.proofs.put_spaced_halves.Goals as goal

pub returns : goal.returns
returns c = (and_then c.put_text-next.ensures c.put_halves.ensures, omega (arith, c.put_text-next.ensures.next, c.put_halves.ensures.next, length_digits 16 32 (c.args.high * 2 ^ 64 + c.args.low)))
