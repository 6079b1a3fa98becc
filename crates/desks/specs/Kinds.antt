-- The kinds of calls that are served: a call on one file, and a step of a live report.
use Rattle.std.specs.Prelude.{◌≡◌, refl, List, ℕ, ◌≤◌}
use Rattle.std.proofs.Common.{ap, arith}
use Rattle.machine.specs.Events.{Bounds, Counts}
use Rattle.machine.specs.Answer.{Answer}
use Rattle.answer.specs.Answer.{Settings, Answers, out_of_order, wrong_file, laid_out, rules_of, document_of}
use Rattle.answer.specs.Exactly.{answers_one}
use Rattle.answer.specs.Demand.{same_page, needs_within, just_answered, less_refused}
use Rattle.report.specs.Report.{Report, Step}
use Rattle.report.specs.Answers.{Solved, inserted, removed, Tested, too_dear, no_bytes, no_spans, fits, StepAnswers, no_place, full, row_refused, tested}
use Rattle.report.specs.Answers.{out_of_order as step_unordered}
use Rattle.report.specs.Exactly.{Both}
use Rattle.report.proofs.Exactly.{step_one}
use Rattle.report.proofs.Same.{larger_step}
use Rattle.report.proofs.Sizes.{just_step, less_step}
use Rattle.report.proofs.Sizes.{needs_within as step_within}
use Rattle.desks.specs.Desks.{work}
use Rattle.desks.specs.Served.{Left, left, Steady}
use Rattle.desks.specs.Work.{work_within}

-- ---- a call on one file; it keeps no state

abbrev pub single : List ℕ → Settings → Bounds → Answer → Unit {0} → Type 0
single file c b a u = Answers (Unit {0}) file c b a

pub single_spends : {lent : Type 0} {file : List ℕ} {c : Settings} {b : Bounds} {a : Answer} → Answers lent file c b a → work a ≤ b.work_limit
single_spends (out_of_order n) = omega arith
single_spends (wrong_file n o m) = omega arith
single_spends {file = file} {c = c} {b = b} (laid_out o m) = work_within (rules_of c) (document_of file) b

pub single_steady : (file : List ℕ) (c : Settings) → Steady (single file c) tt
single_steady file c = record {
  one = λ p q. ap (λ (a : Answer). left a tt) (answers_one p q);
  larger = λ L p. same_page L tt p;
  within = λ p. needs_within p;
  suffices = λ p. just_answered tt p;
  less = λ x p s q. record { by = less_refused tt p x _ s q; kept = refl };
  spends = λ p. single_spends p;
}

-- ---- a step of a live report; its state is the report

abbrev pub step : Report → Step → Bounds → Answer → Report → Type 0
step X s b a Z = StepAnswers (Unit {0}) X b s a Z

solved_spends : {X Y : Report} {b : Bounds} {s : Step} {k : Counts} → Solved X b s k Y → k.work_items ≤ b.work_limit
solved_spends (inserted p) = single_spends p
solved_spends removed = omega arith

pub tested_spends : {X Y Z : Report} {b : Bounds} {k : Counts} {a : Answer} → Tested X b k Y a Z → work a ≡ k.work_items
tested_spends (too_dear n) = refl
tested_spends (no_bytes c o) = refl
tested_spends (no_spans c o p) = refl
tested_spends (fits c o p) = refl

pub step_spends : {lent : Type 0} {X Z : Report} {b : Bounds} {s : Step} {a : Answer} → StepAnswers lent X b s a Z → work a ≤ b.work_limit
step_spends (step_unordered n) = omega arith
step_spends (no_place l p) = omega arith
step_spends (full l p f) = omega arith
step_spends (row_refused d w) = single_spends w
step_spends (tested d w t) = omega (arith, solved_spends w, tested_spends t)

left_of : Both → Left Report
left_of z = left z.answer z.after

pub step_steady : (X : Report) (s : Step) → Steady (step X s) X
unfolding left_of
step_steady X s = record {
  one = λ p q. ap left_of (step_one p q);
  larger = λ L p. larger_step L tt p;
  within = λ p. step_within p;
  suffices = λ p. just_step tt p;
  less = λ x p i q. let z = less_step tt x _ p i q in record { by = z.by; kept = z.kept };
  spends = λ p. step_spends p;
}
