-- `page_numerals::put_digits` meets its contract. The invariant: the digits from i on are written.
use Rattle.page_numerals.proofs.Laws.{Left}
use Rattle.page_numerals.proofs.put_digits.Given as goal

abbrev pub invariant-loop-i : goal.invariant-loop-i
invariant-loop-i l = Left l.base l.n l.count l.initial.out l.out l.m l.i
