-- Each call for a desk has an answer; an allowance that is just met changes nothing, and one that is just missed is 12 with the work up to it (document 02, change 8).
use Rattle.std.specs.Prelude.{◌≡◌, refl, List, ℕ, ◌≤◌, ◌<◌}
use Rattle.std.proofs.Common.{ap, subst, arith}
use Rattle.std.proofs.Math.Logic.{by_cases}
use Rattle.std.proofs.Math.Decide.{dec_lt}
use Rattle.machine.specs.Events.{Bounds, Counts}
use Rattle.machine.specs.Materializer.{Rendered}
use Rattle.machine.specs.Answer.{Answer, paged, refused}
use Rattle.answer.specs.Answer.{Settings, Answers, out_of_order, wrong_file, laid_out, rules_of, document_of}
use Rattle.answer.specs.Exactly.{answers_one}
use Rattle.answer.proofs.Exactly.{answered}
use Rattle.report.specs.Report.{Report, Step}
use Rattle.report.specs.Answers.{Admitted, Solved, inserted, removed, Tested, too_dear, no_bytes, no_spans, fits, StepAnswers, row_refused, tested}
use Rattle.report.specs.Exactly.{Both}
use Rattle.report.proofs.Exactly.{step_one, stepped}
use Rattle.report.specs.Same.{came}
use Rattle.desks.specs.declared.Desks.{Desks}
use Rattle.desks.specs.Desks.{last_desk, at_most, allowed}
use Rattle.desks.specs.Served.{Served, out_of_order as unordered, no_desk, served}
use Rattle.desks.specs.Work.{SpentAt, work_met, work_missed}
use Rattle.desks.specs.Kinds.{single, step, tested_spends}

-- ---- there is an answer

pub record ServedBy {S : Type 0} (lent : Type 0) (D : Desks) (d : ℕ) (call : Bounds → Answer → S → Type 0) (b : Bounds) (X : S) : Type 0 where
  pub answer : Answer
  pub state : S
  pub desks : Desks
  pub is : Served lent D d call b X answer state desks

-- where the kind of call has one
pub record Answering {S : Type 0} (call : Bounds → Answer → S → Type 0) (b : Bounds) : Type 0 where
  pub answer : Answer
  pub state : S
  pub is : call b answer state

pub serves : {S : Type 0} {lent : Type 0} (D : Desks) (d : ℕ) {call : Bounds → Answer → S → Type 0} (b : Bounds) (X : S) → Dec lent → Answering call (allowed D d b) → ServedBy lent D d call b X
serves D d b X (no n) c = record { answer = _; state = _; desks = _; is = unordered n }
serves D d b X (yes l) c =
    by_cases (dec_lt last_desk d)
    (λ h. record { answer = _; state = _; desks = _; is = no_desk l h })
    (λ h. record { answer = _; state = _; desks = _; is = served l (omega (arith, h)) c.is })

-- so each call on one file, and each step, has one for any desk and record
pub file_served : {lent : Type 0} (D : Desks) (d : ℕ) (file : List ℕ) (c : Settings) (b : Bounds) → Dec lent → ServedBy lent D d (single file c) b tt
file_served D d file c b l = let y = answered {lent = Unit {0}} file c (allowed D d b) (yes tt) in serves D d b tt l (record { answer = y.is; state = tt; is = y.answers })

pub step_served : {lent : Type 0} (D : Desks) (d : ℕ) (X : Report) (s : Step) (b : Bounds) → Dec lent → ServedBy lent D d (step X s) b X
step_served D d X s b l = let y = stepped {lent = Unit {0}} X (allowed D d b) (yes tt) s in serves D d b X l (record { answer = y.is; state = y.after; is = y.answers })

-- ---- a call on one file, with at most so much work

module _ {file : List ℕ} {c : Settings} {b : Bounds} {p : Rendered} {k : Counts} (n : ℕ) where
  met_file : {a : Answer} → Answers (Unit {0}) file c b a → a ≡ paged p k → k.work_items ≤ n → Answers (Unit {0}) file c (at_most n b) (paged p k)
  met_file (out_of_order x) e h = let z : ◌≡◌ {A = ℕ} 0 1 = cc in absurd (omega arith)
  met_file (wrong_file i o m) e h = let z : ◌≡◌ {A = ℕ} 0 1 = cc in absurd (omega arith)
  met_file (laid_out o m) e h = subst (λ (a : Answer). Answers (Unit {0}) file c (at_most n b) a) (work_met (rules_of c) (document_of file) b p k e n h) (laid_out o m)

  missed_file : {a z : Answer} → Answers (Unit {0}) file c b a → a ≡ paged p k → n < k.work_items → Answers (Unit {0}) file c (at_most n b) z → SpentAt n z
  missed_file (out_of_order x) e h q = let z : ◌≡◌ {A = ℕ} 0 1 = cc in absurd (omega arith)
  missed_file (wrong_file i o m) e h q = let z : ◌≡◌ {A = ℕ} 0 1 = cc in absurd (omega arith)
  missed_file (laid_out o m) e h q = subst (λ (a : Answer). SpentAt n a) (answers_one (laid_out o m) q) (work_missed (rules_of c) (document_of file) b p k e n h)

-- just met: the same page with the same counts
pub just_met : {file : List ℕ} {c : Settings} {b : Bounds} {p : Rendered} {k : Counts} (n : ℕ) → single file c b (paged p k) tt → k.work_items ≤ n → single file c (at_most n b) (paged p k) tt
just_met n a h = met_file n a refl h

-- just missed: 12, with one less of work where it lacks one, and so on
pub just_missed : {file : List ℕ} {c : Settings} {b : Bounds} {p : Rendered} {k : Counts} {z : Answer} (n : ℕ) → single file c b (paged p k) tt → n < k.work_items → single file c (at_most n b) z tt → SpentAt n z
just_missed n a h q = missed_file n a refl h q

-- ---- a step, likewise: its work is that of its row

tests_at : (n : ℕ) {X Y Z : Report} {b : Bounds} {j : Counts} {a : Answer} → Tested X b j Y a Z → Tested X (at_most n b) j Y a Z
tests_at n (too_dear m) = too_dear m
tests_at n (no_bytes c o) = no_bytes c o
tests_at n (no_spans c o p) = no_spans c o p
tests_at n (fits c o p) = fits c o p

solved_at : (n : ℕ) {X Y : Report} {b : Bounds} {s : Step} {j : Counts} → Solved X b s j Y → j.work_items ≤ n → Solved X (at_most n b) s j Y
solved_at n (inserted p) h = inserted (just_met n p h)
solved_at n removed h = removed

pub step_met : {X Z : Report} {s : Step} {b : Bounds} {p : Rendered} {k : Counts} (n : ℕ) → step X s b (paged p k) Z → k.work_items ≤ n → step X s (at_most n b) (paged p k) Z
step_met n a h = let z = came a in tested z.admitted (solved_at n z.solved (omega (arith, h, tested_spends z.tests))) (tests_at n z.tests)

-- 12, and the report stays
pub record StepSpentAt (n : ℕ) (X : Report) (z : Answer) (Y : Report) : Type 0 where
  pub by : SpentAt n z
  pub kept : Y ≡ X

pub step_missed : {X Y Z : Report} {s : Step} {b : Bounds} {p : Rendered} {k : Counts} {z : Answer} (n : ℕ) → step X s b (paged p k) Z → n < k.work_items → step X s (at_most n b) z Y → StepSpentAt n X z Y
step_missed {X} {Y} {Z} {s} {b} {p} {k} {z} n a h q = let w = came a in go w.solved (omega (arith, h, tested_spends w.tests)) w.admitted q
  where
    go : {j : Counts} {U : Report} {t : Step} → Solved X b t j U → n < j.work_items → Admitted (Unit {0}) X t → StepAnswers (Unit {0}) X (at_most n b) t z Y → StepSpentAt n X z Y
    go {t = t} (inserted {f = f} {r = r} {k = j} m) l d v =
        let y = answered {lent = Unit {0}} f X.settings (at_most n b) (yes tt) in
        let e = just_missed n m l y.answers in
        let one = step_one v (row_refused d (subst (λ (c : Answer). Answers (Unit {0}) f X.settings (at_most n b) c) e.is y.answers)) in
        let i : z ≡ refused 12 0 e.counts = ap (λ (c : Both). c.answer) one in
        record { by = record { counts = e.counts; is = i; work_is = e.work_is }; kept = ap (λ (c : Both). c.after) one }
    go removed l d v = absurd (omega (arith, l))
