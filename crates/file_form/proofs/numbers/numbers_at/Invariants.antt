use mathlib.Core.Path.{◌≡◌}
use lib.ListN.{take}
use Rattle.file_form.specs.Numbers.{after_numbers, numbers}
use Rattle.file_form.proofs.numbers.numbers_at.Given as goal

abbrev pub invariant-loop-number : goal.invariant-loop-number
invariant-loop-number l = (l.q ≡ after_numbers l.s l.initial.q l.number-index) × (take l.number-index l.number-items ≡ numbers l.s l.initial.q l.number-index)
