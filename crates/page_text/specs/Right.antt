-- There is exactly one text for each input, and it is right: a page in it is the rule's page, and any other text is a refusal by one of the numbers of documents 01 and 02.
use Rattle.std.specs.Prelude.{◌≡◌, refl, Bool, true, false, List, ℕ, ◌+◌, ◌≤◌, ltb, leb, eqb, length}
use Rattle.std.proofs.Common.{ap, get_or-drop}
use Rattle.std.proofs.Math.Logic.{by_cases}
use native.Mathlib.Omega.{arith}
use Rattle.std.proofs.Math.Decide.{ℕ_discrete, dec_lt}
use borrow.Author.Tests.{ltb-true, leb-true}
use Rattle.file_fields.specs.declared.Step.{Step}
use Rattle.file_fields.specs.Fields.{pick, got, byte_at, word_at, nonzero, field_at, formed}
use Rattle.page_setting.specs.Setting.{setting_at, s_map, s_width, s_newline_cost}
use Rattle.page_lines.specs.Lines.{refused_line}
use Rattle.file_encode.specs.Fields.{Bytes}
use Rattle.machine.specs.Numbers.{listed}
use Rattle.machine.specs.Answer.{Answer}
use Rattle.answer.specs.Page.{Promised, right_page, right_refusal}
use Rattle.answer.specs.Exactly.{answers_one}
use Rattle.answer.proofs.Exactly.{answered as some_answer}
use Rattle.answer.proofs.Demand.{promised}
use Rattle.page_text.specs.Printed.{page_bounds, settings_in, setting_fault, file_in, text_of, Printed, too_long, wrong_setting, answered, Right, page, refusal}

-- ---- the setting ends within the input, and is refused by 2 or 3

record Kept (s : List ℕ) (p : Step) : Type 0 where
  inside : p.at ≤ length s
  small : p.fault ≤ 3

kept_pick : (s : List ℕ) (b : Bool) {x y : Step} → (b ≡ true → Kept s x) → Kept s y → Kept s (pick b x y)
kept_pick s true f g = f refl
kept_pick s false f g = g

module _ (s : List ℕ) where
  kept_byte : (p : Step) → Kept s p → Kept s (byte_at s p)
  unfolding byte_at
  kept_byte p k =
      kept_pick s (eqb p.fault 0)
      (λ e. kept_pick s (ltb p.at (length s)) (λ l. record { inside = omega (arith, ltb-true p.at (length s) l); small = omega arith }) (record { inside = k.inside; small = omega arith }))
      k

  kept_formed : (high : ℕ) (p : Step) → Kept s p → Kept s (formed high p)
  unfolding formed
  kept_formed high p k = kept_pick s (eqb p.fault 0) (λ e. kept_pick s (leb p.value high) (λ l. k) (record { inside = k.inside; small = omega arith })) k

  kept_word : (at : ℕ) → at ≤ length s → Kept s (word_at s at)
  unfolding word_at
  kept_word at h = kept_pick s (leb (at + 4) (length s)) (λ l. record { inside = leb-true (at + 4) (length s) l; small = omega arith }) (record { inside = h; small = omega arith })

  kept_nonzero : (p : Step) → Kept s p → Kept s (nonzero p)
  unfolding nonzero
  kept_nonzero p k = kept_pick s (eqb p.fault 0) (λ e. kept_pick s (eqb p.value 0) (λ l. record { inside = k.inside; small = omega arith }) k) k

  kept_field : (on : Bool) (p : Step) → Kept s p → Kept s (field_at s on p)
  unfolding field_at
  kept_field on p k =
      kept_pick s (eqb p.fault 0) (λ e. kept_pick s on (λ l. kept_nonzero (word_at s p.at) (kept_word p.at k.inside)) (record { inside = k.inside; small = omega arith })) k

  kept_setting : Kept s (setting_at s).next
  unfolding setting_at s_map s_width s_newline_cost
  kept_setting = kept_field _ _ (kept_field _ _ (kept_formed _ _ (kept_byte (got 0 0) (record { inside = omega arith; small = omega arith }))))

  pub setting_inside : (setting_at s).next.at ≤ length s
  setting_inside = kept_setting.inside

-- ---- exactly one text

module _ {input : List ℕ} where
  pub printed_one : {s t : List ℕ} → Printed input s → Printed input t → s ≡ t
  printed_one (too_long l) (too_long m) = refl
  printed_one (too_long l) (wrong_setting h f) = absurd (omega arith)
  printed_one (too_long l) (answered h f a p) = absurd (omega arith)
  printed_one (wrong_setting h f) (too_long l) = absurd (omega arith)
  printed_one (wrong_setting h f) (wrong_setting k g) = refl
  printed_one (wrong_setting h f) (answered k g a p) = absurd (f g)
  printed_one (answered h f a p) (too_long l) = absurd (omega arith)
  printed_one (answered h f a p) (wrong_setting k g) = absurd (g f)
  printed_one (answered h f a p) (answered k g b q) = ap text_of (answers_one p q)

-- an input's text, and that it is right
pub record Text (input : List ℕ) : Type 0 where
  pub is : List ℕ
  pub printed : Printed input is

pub some_text : (input : List ℕ) → Text input
some_text input =
    by_cases (dec_lt 32768 (length input)) (λ l. record { is = _; printed = too_long l })
    (λ l. by_cases (ℕ_discrete (setting_fault input) 0)
    (λ f. let a = some_answer (file_in input) (settings_in input) page_bounds (yes tt) in record { is = _; printed = answered (omega (arith, l)) f a.is a.answers })
    (λ f. record { is = _; printed = wrong_setting (omega (arith, l)) f }))

-- ---- the rule's page

-- the text of an answer that is as promised is right
pub right_answer : {input : List ℕ} {a : Answer} → Promised (file_in input) (settings_in input) a → Right input (text_of a)
right_answer (right_page {r = r} {k = k} q) = page r k q
right_answer (right_refusal {n = n} h) = refusal n h

pub right_fault : (input : List ℕ) → (setting_fault input ≡ 0 → ⊥) → Right input (refused_line (setting_fault input))
right_fault input f = refusal (setting_fault input) (listed (least (setting_fault input) f) (omega (arith, (kept_setting input).small)))
  where
    least : (n : ℕ) → (n ≡ 0 → ⊥) → 1 ≤ n
    least n f = omega (arith, f)

pub right_long : (input : List ℕ) → Right input (refused_line 4)
right_long input = refusal 4 (listed (omega arith) (omega arith))

-- every such text is right, whoever wrote it
pub printed_right : (input : List ℕ) → Bytes input → {s : List ℕ} → Printed input s → Right input s
printed_right input z (too_long l) = right_long input
printed_right input z (wrong_setting h f) = right_fault input f
printed_right input z (answered h f a p) = right_answer (promised (dropped input z) p)
  where
    dropped : (s : List ℕ) → Bytes s → Bytes (file_in s)
    dropped s z = record { byte = λ i. rw get_or-drop (z.byte ((setting_at s).next.at + i)) }
