-- Each call has exactly one answer.
use Rattle.std.specs.Prelude.{◌≡◌, refl, List, ℕ, zero, suc, ◌≤◌}
use Rattle.std.proofs.Common.{ap, arith}
use Rattle.std.proofs.Math.Logic.{by_cases}
use Rattle.std.proofs.Math.Decide.{ℕ_discrete}
use Rattle.file_form.specs.declared.fill.Counts.{Counts}
use Rattle.file_form.specs.Form.{form_fault, tables_of, counts_of}
use Rattle.file_form.specs.Faults.{form_faults}
use Rattle.refusals.specs.declared.Refusal.{Refusal}
use Rattle.refusals.specs.declared.Refusal.TheVariants.{Short, Form, Limit, Surplus, Reference, Text, Space, Circle, List as AList}
use Rattle.refusals.specs.Numbers.{number_of}
use Rattle.file_checks.specs.Judged.{Judged, reference, text, space, circle, list, accepted}
use Rattle.file_checks.proofs.Exactly.{verdict}
use Rattle.std.specs.Prelude.{Ok, Err}
use Rattle.prepare.specs.File.{Means, ill, wrong, right}
use Rattle.prepare.specs.Laws.{means_one}
use Rattle.machine.specs.Events.{Bounds, no_counts}
use Rattle.machine.specs.Answer.{Answer, refused}
use Rattle.answer.specs.Answer.{Settings, Answers, out_of_order, wrong_file, laid_out}

-- ---- what a byte string means

pub data Meaning (s : List ℕ) : Type 0 where
  refused_by : (p : Refusal) → Means s (Err p) → Meaning s
  accepted_as : Means s (Ok (counts_of s)) → Meaning s

pub meaning : (s : List ℕ) → Meaning s
meaning s = by_cases (ℕ_discrete (form_fault s) 0) (λ f. let v = verdict (tables_of s) in judged f v.judged) (λ ne. ill_formed (form_fault s) refl (form_faults s ne))
  where
    ill_formed : (n : ℕ) → form_fault s ≡ n → (2 ≤ n) × (n ≤ 5) → Meaning s
    ill_formed zero e h = absurd (omega (arith, h.0))
    ill_formed (suc zero) e h = absurd (omega (arith, h.0))
    ill_formed (suc (suc zero)) e h = refused_by Short (ill Short e)
    ill_formed (suc (suc (suc zero))) e h = refused_by Form (ill Form e)
    ill_formed (suc (suc (suc (suc zero)))) e h = refused_by Limit (ill Limit e)
    ill_formed (suc (suc (suc (suc (suc zero))))) e h = refused_by Surplus (ill Surplus e)
    ill_formed (suc (suc (suc (suc (suc (suc n)))))) e h = absurd (omega (arith, h.1))

    judged : form_fault s ≡ 0 → {n : ℕ} → Judged (tables_of s) n → Meaning s
    judged f (reference a) = refused_by Reference (wrong Reference f (reference a))
    judged f (text a b) = refused_by Text (wrong Text f (text a b))
    judged f (space a b c) = refused_by Space (wrong Space f (space a b c))
    judged f (circle a b c d) = refused_by Circle (wrong Circle f (circle a b c d))
    judged f (list a b c d e) = refused_by AList (wrong AList f (list a b c d e))
    judged f (accepted a) = accepted_as (right f (accepted a))

-- ---- what a call answers

refused_one : {s : List ℕ} {p q : Refusal} → Means s (Err p) → Means s (Err q) → p ≡ q
refused_one a e = let z = means_one a e in cc

not_both : {s : List ℕ} {p : Refusal} {k : Counts} → Means s (Err p) → Means s (Ok k) → ⊥
not_both a e = let z = means_one a e in cc

module _ {lent : Type 0} {file : List ℕ} {c : Settings} {b : Bounds} where
  pub answers_one : {x y : Answer} → Answers lent file c b x → Answers lent file c b y → x ≡ y
  answers_one (out_of_order n) (out_of_order m) = refl
  answers_one (out_of_order n) (wrong_file m o w) = absurd (n o)
  answers_one (out_of_order n) (laid_out o w) = absurd (n o)
  answers_one (wrong_file n o v) (out_of_order m) = absurd (m o)
  answers_one (wrong_file n o v) (wrong_file m p w) = ap (λ (i : Refusal). refused (number_of i) 0 no_counts) (refused_one v w)
  answers_one (wrong_file n o v) (laid_out p w) = absurd (not_both v w)
  answers_one (laid_out o v) (out_of_order m) = absurd (m o)
  answers_one (laid_out o v) (wrong_file m p w) = absurd (not_both w v)
  answers_one (laid_out o v) (laid_out p w) = refl

-- an answer, and that it is right
pub record Answered (lent : Type 0) (file : List ℕ) (c : Settings) (b : Bounds) : Type 0 where
  pub is : Answer
  pub answers : Answers lent file c b is
