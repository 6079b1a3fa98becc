-- "The page that a larger call must repeat is read for the same step, with the same place and file, on a report of the same rows" (document 02, change 2).
use Rattle.std.specs.Prelude.{◌≡◌, refl, ℕ}
use Rattle.std.proofs.Common.{subst, arith}
use Rattle.machine.specs.Events.{Bounds, Counts, output, spans as spans_kind}
use Rattle.machine.specs.Materializer.{Rendered}
use Rattle.machine.specs.Answer.{Answer, paged}
use Rattle.machine.specs.Larger.{Larger}
use Rattle.answer.specs.Demand.{same_page}
use Rattle.report.specs.Report.{Report, Step}
use Rattle.report.specs.Answers.{Solved, inserted, removed, Tested, too_dear, no_bytes, no_spans, fits, StepAnswers, tested}
use Rattle.report.specs.Exactly.{both}
use Rattle.report.proofs.Exactly.{step_one}
use Rattle.report.specs.Same.{came, admitted_as}

-- ---- under sizes and limits none smaller

module _ {X : Report} {b d : Bounds} (L : Larger b d) where
  pub solved_larger : {s : Step} {k : Counts} {Y : Report} → Solved X b s k Y → Solved X d s k Y
  solved_larger (inserted p) = inserted (same_page L tt p)
  solved_larger removed = removed

  tested_larger : {k : Counts} {Y : Report} {r : Rendered} {j : Counts} → Tested X b k Y (paged r j) Y → Tested X d k Y (paged r j) Y
  tested_larger {k} {Y} {r} {j} t = go t refl
    where
      go : {a : Answer} {Z : Report} → Tested X b k Y a Z → a ≡ paged r j → Tested X d k Y (paged r j) Y
      go (too_dear x) e = let w : ◌≡◌ {A = ℕ} 0 1 = cc in absurd (omega arith)
      go (no_bytes x y) e = let w : ◌≡◌ {A = ℕ} 0 1 = cc in absurd (omega arith)
      go (no_spans x y z) e = let w : ◌≡◌ {A = ℕ} 0 1 = cc in absurd (omega arith)
      go (fits x y z) e = subst (λ (a : Answer). Tested X d k Y a Y) e (fits x (omega (arith, y, L.sizes output)) (omega (arith, z, L.sizes spans_kind)))

module _ {lent wider : Type 0} {X : Report} {b d : Bounds} (L : Larger b d) (w : wider) where
  pub larger_step : {s : Step} {r : Rendered} {k : Counts} {Y : Report} → StepAnswers lent X b s (paged r k) Y → StepAnswers wider X d s (paged r k) Y
  larger_step p = let c = came p in tested (admitted_as w c.admitted) (solved_larger L c.solved) (tested_larger L c.tests)

  -- the same page, counts and report, and no other answer
  pub only_step : {s : Step} {r : Rendered} {k : Counts} {Y Z : Report} {a : Answer} → StepAnswers lent X b s (paged r k) Y → StepAnswers wider X d s a Z → both a Z ≡ both (paged r k) Y
  only_step p q = step_one q (larger_step p)
