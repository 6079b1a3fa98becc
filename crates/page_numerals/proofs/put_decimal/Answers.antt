use mathlib.Core.Path.{◌∙◌, sym, ap}
use mathlib.Core.List.{◌++◌}
use Prim.Native.Nat.{ℕ}
use lib.ListN.{drop}
use Rattle.page_numerals.specs.Digits.{digits}
use Rattle.page_numerals.specs.Lengths.{length_digits}
use Rattle.page_numerals.proofs.put_decimal.Goals as goal

pub returns : goal.returns
returns c = (c.width-count.ensures.0 ∙ sym (length_digits 10 _ _), c.width-count.ensures.1, c.put_digits.ensures ∙ ap (λ (k : ℕ). digits 10 k c.args.n ++ drop c.width-count.result c.args.out.now) c.width-count.ensures.0)
