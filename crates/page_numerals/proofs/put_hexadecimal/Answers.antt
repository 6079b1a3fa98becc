use native.Mathlib.Omega.{arith}
use Rattle.page_numerals.proofs.Halves.{two_runs}
use Rattle.page_numerals.proofs.put_hexadecimal.Goals as goal

pub returns : goal.returns
returns c = two_runs 16 16 c.args.high c.args.low c.args.out.now _ _ (omega arith) (omega arith) (omega arith) c.put_digits.ensures c.put_digits-2.ensures
