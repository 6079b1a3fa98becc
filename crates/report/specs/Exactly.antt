-- Each step has exactly one answer, and one report after it; a refusal's report is the report before.
use Rattle.std.specs.Prelude.{◌≡◌, refl, ℕ, ◌^◌}
use Rattle.std.proofs.Common.{arith}
use Rattle.std.proofs.Math.Logic.{by_cases}
use Rattle.std.proofs.Math.Decide.{dec_lt}
use Rattle.cost.specs.Cost.{Cost}
use Rattle.file_encode.specs.Fields.{Bytes}
use Rattle.machine.specs.Numbers.{listed, cost}
use Rattle.machine.specs.Events.{Bounds, Counts}
use Rattle.machine.specs.Answer.{Answer, refused}
use Rattle.answer.proofs.Demand.{refusal_right}
use Rattle.report.specs.Report.{Report, Step, insert, remove}
use Rattle.report.specs.Answers.{CostFits, Tested, too_dear, no_bytes, no_spans, fits, StepAnswers, out_of_order, no_place, full, row_refused, tested, StepNumbered, of_a_call, place, rows}

-- an answer with a report after it
pub record Both : Type 0 where
  pub answer : Answer
  pub after : Report

abbrev pub both : Answer → Report → Both
both a Y = record { answer = a; after = Y }

-- what a step came to, before the whole page is tested
pub record Come : Type 0 where
  pub counts : Counts
  pub report : Report

module _ {lent : Type 0} {X : Report} {b : Bounds} where
  -- a refusal's report is the report before
  pub refused_keeps : {s : Step} {n m : ℕ} {k : Counts} {Y : Report} → StepAnswers lent X b s (refused n m k) Y → Y ≡ X
  refused_keeps {n = n} {m = m} {k = k} {Y = Y} h = go h refl
    where
      of_test : {j : Counts} {Z U : Report} {a : Answer} → Tested X b j Z a U → a ≡ refused n m k → U ≡ X
      of_test (too_dear x) e = refl
      of_test (no_bytes x y) e = refl
      of_test (no_spans x y z) e = refl
      of_test (fits x y z) e = let w : ◌≡◌ {A = ℕ} 0 1 = cc in absurd (omega arith)

      go : {s : Step} {a : Answer} {U : Report} → StepAnswers lent X b s a U → a ≡ refused n m k → U ≡ X
      go (out_of_order x) e = refl
      go (no_place l p) e = refl
      go (full l p f) e = refl
      go (row_refused d w) e = refl
      go (tested d w t) e = of_test t e

-- ---- there is one

pub record Stepped (lent : Type 0) (X : Report) (b : Bounds) (s : Step) : Type 0 where
  pub is : Answer
  pub after : Report
  pub answers : StepAnswers lent X b s is after

pub cost_fits? : (c : Cost) → Dec (CostFits c)
cost_fits? c =
    by_cases (dec_lt c.overflow (2 ^ 128))
    (λ o. by_cases (dec_lt c.burden (2 ^ 64)) (λ u. yes (record { overflow = o; burden = u })) (λ u. no (λ f. u f.burden)))
    (λ o. no (λ f. o f.overflow))

-- ---- its number

-- the bytes of a file that is inserted
abbrev pub InBytes : Step → Type 0
InBytes (insert i f) = Bytes f
InBytes (remove i) = Unit {0}

module _ {lent : Type 0} {X : Report} {b : Bounds} where
  pub step_numbered : {s : Step} {n m : ℕ} {k : Counts} {Y : Report} → InBytes s → StepAnswers lent X b s (refused n m k) Y → StepNumbered n
  step_numbered {n = n} {m = m} {k = k} z h = go z h refl
    where
      of_test : {j : Counts} {Z U : Report} {a : Answer} → Tested X b j Z a U → a ≡ refused n m k → StepNumbered n
      of_test (too_dear x) e = let i : n ≡ 26 = cc in of_a_call (cost i)
      of_test (no_bytes x y) e = let i : n ≡ 20 = cc in of_a_call (listed (omega (arith, i)) (omega (arith, i)))
      of_test (no_spans x y w) e = let i : n ≡ 21 = cc in of_a_call (listed (omega (arith, i)) (omega (arith, i)))
      of_test (fits x y w) e = let w : ◌≡◌ {A = ℕ} 0 1 = cc in absurd (omega arith)

      go : {s : Step} {a : Answer} {U : Report} → InBytes s → StepAnswers lent X b s a U → a ≡ refused n m k → StepNumbered n
      go z (out_of_order x) e = let i : n ≡ 1 = cc in of_a_call (listed (omega (arith, i)) (omega (arith, i)))
      go z (no_place l p) e = let i : n ≡ 23 = cc in place i
      go z (full l p f) e = let i : n ≡ 24 = cc in rows i
      go z (row_refused {f = f} {n = x} d w) e = let i : n ≡ x = cc in rw i (of_a_call (refusal_right z w))
      go z (tested d w t) e = of_test t e
