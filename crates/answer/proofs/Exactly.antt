-- Each call has exactly one answer.
use Rattle.std.specs.Prelude.{List, ℕ}
use Rattle.std.proofs.Common.{arith}
use Rattle.std.proofs.Math.Logic.{by_cases}
use Rattle.std.proofs.Math.Decide.{dec_lt}
use Rattle.machine.specs.Events.{Bounds}
use Rattle.answer.specs.Answer.{Settings, Ordered, out_of_order, wrong_file, laid_out}
use Rattle.answer.specs.Exactly.{Meaning, refused_by, accepted_as, meaning, Answered}

-- ---- what a call answers

module _ {lent : Type 0} (file : List ℕ) (c : Settings) (b : Bounds) where
  ordered? : Dec lent → Dec (Ordered lent c)
  ordered? (yes l) =
      by_cases (dec_lt 0 c.width)
      (λ w. by_cases (dec_lt c.policy 2)
      (λ p. by_cases (dec_lt 0 c.rule)
      (λ r. by_cases (dec_lt c.rule 3)
      (λ s. yes (record { wide = w; policy_known = omega arith; rule_known = (r, omega arith); lent_enough = l }))
      (λ s. no (λ o. s (omega (arith, o.rule_known.1)))))
      (λ r. no (λ o. r o.rule_known.0)))
      (λ p. no (λ o. p (omega (arith, o.policy_known)))))
      (λ w. no (λ o. w o.wide))
  ordered? (no l) = no (λ o. l o.lent_enough)

  pub answered : Dec lent → Answered lent file c b
  answered d = by_cases (ordered? d) (λ o. read o (meaning file)) (λ n. record { is = _; answers = out_of_order n })
    where
      read : Ordered lent c → Meaning file → Answered lent file c b
      read o (refused_by n m) = record { is = _; answers = wrong_file n o m }
      read o (accepted_as m) = record { is = _; answers = laid_out o m }
