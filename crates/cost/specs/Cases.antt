-- Worked costs, by computation.
use Rattle.std.specs.Prelude.{◌≡◌, ℕ, zero, suc, ◌+◌, ◌-◌, ◌*◌, ◌^◌, true, false, refl}
use Rattle.std.proofs.Math.Logic.{by_cases}
use Rattle.std.proofs.Math.Decide.{dec_lt}
use Rattle.std.proofs.Common.{arith}
use Rattle.cost.specs.Cost.{Cost, cheap, cheaper}
use Rattle.cost.specs.Charge.{charged, text_cost, newline_cost, penalty_cost}
use Rattle.cost.specs.Rising.{Rising}
use Rattle.cost.specs.Value.{past, within, text_outcome, newline_outcome}
use Rattle.cost.specs.Value.{cost as fits}
use Rattle.cost.specs.declared.Reason.TheVariants.{Column, Overflow, Burden}

abbrev pub cost : ℕ → ℕ → Cost
cost o b = record { overflow = o; burden = b }

-- `abc` at page width 1: rule 1 squares the excess, rule 2 takes it itself
abc_1 : text_cost (charged 1 1) 0 3 ≡ cost 4 0
unfolding charged
abc_1 = refl

abc_1_excess : text_cost (charged 2 1) 0 3 ≡ cost 2 0
unfolding charged
abc_1_excess = refl

-- text that starts past the width is charged what it adds to its line
after_ab_1 : text_cost (charged 1 1) 2 1 ≡ cost 3 0
unfolding charged
after_ab_1 = refl

after_ab_1_excess : text_cost (charged 2 1) 2 1 ≡ cost 1 0
unfolding charged
after_ab_1_excess = refl

-- a newline to indent 3 at page width 1
indent_3 : newline_cost (charged 1 1) 7 3 ≡ cost 4 7
unfolding charged
indent_3 = refl

indent_3_excess : newline_cost (charged 2 1) 7 3 ≡ cost 2 7
unfolding charged
indent_3_excess = refl

penalty_9 : penalty_cost 9 ≡ cost 0 9
penalty_9 = refl

-- overflow is compared before burden
overflow_first : cheaper (cost 0 9) (cost 1 0) ≡ true
unfolding cheaper cheap
overflow_first = refl

equal_not_less : cheaper (cost 1 1) (cost 1 1) ≡ false
unfolding cheaper cheap
equal_not_less = refl

equal_at_most : cheap (cost 1 1) (cost 1 1) ≡ true
unfolding cheap
equal_at_most = refl

-- the last column that there is, and the one after it
column_fits : text_outcome 1 4294967295 4294967294 1 ≡ fits (cost 0 0)
unfolding text_outcome charged
column_fits = refl

column_past : text_outcome 1 4294967295 4294967295 1 ≡ past Column
unfolding text_outcome charged
column_past = refl

-- the dearest newline at page width 1, under either rule
newline_most : newline_outcome 1 1 4294967295 4294967295 ≡ fits (cost ((2 ^ 32 - 2) * (2 ^ 32 - 2)) 4294967295)
unfolding newline_outcome within charged
newline_most = refl

newline_most_excess : newline_outcome 2 1 4294967295 4294967295 ≡ fits (cost (2 ^ 32 - 2) 4294967295)
unfolding newline_outcome within charged
newline_most_excess = refl

-- so an overflow past its width takes more doublings of it under rule 2: 97 for 65
doubled_64 : within (cost (2 ^ 64 * charged 1 1 4294967295) 0) ≡ fits (cost (2 ^ 64 * charged 1 1 4294967295) 0)
unfolding within charged
doubled_64 = refl

doubled_65 : within (cost (2 ^ 65 * charged 1 1 4294967295) 0) ≡ past Overflow
unfolding within charged
doubled_65 = refl

doubled_96 : within (cost (2 ^ 96 * charged 2 1 4294967295) 0) ≡ fits (cost (2 ^ 96 * charged 2 1 4294967295) 0)
unfolding within charged
doubled_96 = refl

doubled_97 : within (cost (2 ^ 97 * charged 2 1 4294967295) 0) ≡ past Overflow
unfolding within charged
doubled_97 = refl

-- the overflow is looked at first
both_past : within (cost (2 ^ 128) (2 ^ 64)) ≡ past Overflow
unfolding within
both_past = refl

burden_past : within (cost (2 ^ 128 - 1) (2 ^ 64)) ≡ past Burden
unfolding within
burden_past = refl

-- a charge of neither rule that rises so too: past the width 1, 3, 6, and so on, each column one more than the one before
abbrev sums : ℕ → ℕ
sums zero = 0
sums (suc n) = suc n + sums n

sums_rising : (w : ℕ) → Rising w (λ c. sums (c - w))
sums_rising w = record {
  free = λ c h. let e : c - w ≡ 0 = omega arith in rw e;
  up = λ c. by_cases (dec_lt c w)
      (λ h. let e : c - w ≡ 0 = omega arith in rw e (omega arith))
      (λ h. let e : suc c - w ≡ suc (c - w) = omega (arith, h) in rw e (omega arith));
  more = λ c. by_cases (dec_lt c w)
      (λ h. let e : suc c - w ≡ 0 = omega arith in rw e (omega arith))
      (λ h. let e : suc c - w ≡ suc (c - w) = omega (arith, h) in let f : suc (suc c) - w ≡ suc (suc (c - w)) = omega (arith, h) in rw (e, f) (omega arith));
}
