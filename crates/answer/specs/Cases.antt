-- Worked cases through the whole definition, from bytes to the answer: document 01's own example under the sizes of `page`, the same with too little work,
-- a text past the width under both cost rules, a file whose space text has another width, and files with texts that are not UTF-8. Its starred cases are in Starred.
use Rattle.std.specs.Prelude.{◌≡◌, refl, true, false, List, [], ◌∷◌, ℕ, ◌<◌, length}
use Rattle.std.proofs.Common.{sym, ◌∙◌, subst, arith}
use Rattle.std.proofs.lemmas.Bool.{false≢true}
use Rattle.file_tables.specs.Tables.{Tables, tables}
use Rattle.file_utf8.specs.Bytewise.{more, low, high, rest, well}
use Rattle.file_utf8.proofs.Rows.{utf8_well}
use Rattle.file_checks.specs.Texts.{text_bytes, TextsOk}
use Rattle.file_checks.specs.Judged.{Judged, text, space}
use Rattle.refusals.specs.declared.Refusal.TheVariants.{Text, Space}
use Rattle.prepare.specs.File.{wrong}
use Rattle.machine.specs.Events.{Bounds, no_counts}
use Rattle.machine.specs.Answer.{Answer, paged, refused}
use Rattle.answer.specs.Answer.{Settings, Answers, out_of_order, wrong_file}
use Rattle.answer.specs.Worked.{bytes_of, sound, texted, counted, needing, file_read, references_right, texts_right}

abbrev pub at_80 : Settings
at_80 = record { width = 80; newline_cost = 0; policy = 0; rule = 1 }

-- ---- the example: one Text, `ab`, at W 80

abbrev pub ab_file : List ℕ
ab_file = 69 ∷ 1 ∷ 0 ∷ 0 ∷ 0 ∷ 2 ∷ 0 ∷ 0 ∷ 0 ∷ 1 ∷ 0 ∷ 0 ∷ 0 ∷ 0 ∷ 1 ∷ 3 ∷ 2 ∷ 0 ∷ 0 ∷ 0 ∷ 2 ∷ 0 ∷ 0 ∷ 0 ∷ 97 ∷ 98 ∷ 3 ∷ 1 ∷ 0 ∷ 0 ∷ 0 ∷ 1 ∷ 0 ∷ 0 ∷ 0 ∷ 32 ∷ []

abbrev pub ab_tables : Tables
ab_tables = tables ((1 ∷ 0 ∷ 0 ∷ 0 ∷ 0 ∷ 0 ∷ 0 ∷ 0 ∷ []) ∷ []) [] [] ((2 ∷ 2 ∷ 0 ∷ []) ∷ (1 ∷ 1 ∷ 2 ∷ []) ∷ []) (97 ∷ 98 ∷ 32 ∷ []) 0 0 1

-- ---- one Text, `abc`, at W 1: rule 1 charges 4, rule 2 charges 2; another rule is 1, whatever the file

abbrev pub abc_file : List ℕ
abc_file = 69 ∷ 1 ∷ 0 ∷ 0 ∷ 0 ∷ 2 ∷ 0 ∷ 0 ∷ 0 ∷ 1 ∷ 0 ∷ 0 ∷ 0 ∷ 0 ∷ 1 ∷ 3 ∷ 3 ∷ 0 ∷ 0 ∷ 0 ∷ 3 ∷ 0 ∷ 0 ∷ 0 ∷ 97 ∷ 98 ∷ 99 ∷ 3 ∷ 1 ∷ 0 ∷ 0 ∷ 0 ∷ 1 ∷ 0 ∷ 0 ∷ 0 ∷ 32 ∷ []

abbrev pub abc_tables : Tables
abc_tables = tables ((1 ∷ 0 ∷ 0 ∷ 0 ∷ 0 ∷ 0 ∷ 0 ∷ 0 ∷ []) ∷ []) [] [] ((3 ∷ 3 ∷ 0 ∷ []) ∷ (1 ∷ 1 ∷ 3 ∷ []) ∷ []) (97 ∷ 98 ∷ 99 ∷ 32 ∷ []) 0 0 1

abbrev pub at_1_under : ℕ → Settings
at_1_under r = record { width = 1; newline_cost = 0; policy = 0; rule = r }

abbrev pub abc_page : ℕ → Answer
abc_page o = paged (record { bytes = 97 ∷ 98 ∷ 99 ∷ []; spans = []; cost = record { overflow = o; burden = 0 } }) (needing (counted 2 0 1 1 0 1 1 1 1) 1 1 1 1 1 1 0 3 0)

pub rule_0 : (file : List ℕ) (b : Bounds) → Answers (Unit {0}) file (at_1_under 0) b (refused 1 0 no_counts)
rule_0 file b = out_of_order (λ o. omega (arith, o.rule_known.0))

pub rule_3 : (file : List ℕ) (b : Bounds) → Answers (Unit {0}) file (at_1_under 3) b (refused 1 0 no_counts)
rule_3 file b = out_of_order (λ o. omega (arith, o.rule_known.1))

-- ---- one Empty, and a space text of width 2: 8

abbrev wide_file : List ℕ
wide_file = 5 ∷ 1 ∷ 0 ∷ 0 ∷ 0 ∷ 1 ∷ 0 ∷ 0 ∷ 0 ∷ 0 ∷ 0 ∷ 3 ∷ 2 ∷ 0 ∷ 0 ∷ 0 ∷ 1 ∷ 0 ∷ 0 ∷ 0 ∷ 32 ∷ []

abbrev wide_tables : Tables
wide_tables = tables ((0 ∷ 0 ∷ 0 ∷ 0 ∷ 0 ∷ 0 ∷ 0 ∷ 0 ∷ []) ∷ []) [] [] ((2 ∷ 1 ∷ 0 ∷ []) ∷ []) (32 ∷ []) 0 0 0

pub wide_space : (b : Bounds) → Answers (Unit {0}) wide_file at_80 b (refused 8 0 no_counts)
unfolding bytes_of sound texted
wide_space b =
    let r = file_read wide_tables wide_file refl refl in
    wrong_file Space (record { wide = omega arith; policy_known = omega arith; rule_known = (omega arith, omega arith); lent_enough = tt })
    (wrong Space r.0 (subst (λ (t : Tables). Judged t 8) (sym r.1) (space (references_right wide_tables refl) (texts_right wide_tables refl) (λ s. let e = s.wide in omega arith))))

-- ---- texts that are not UTF-8: 7

-- of tables that are neither 3, 4 nor 6, and one of whose texts the grammar does not allow
ill_text :
    (t : Tables) (file : List ℕ) (i : ℕ) → bytes_of t ≡ file → sound t ≡ true → i < length t.texts → well (text_bytes t.texts t.bytes i) ≡ false
    → (b : Bounds) → Answers (Unit {0}) file at_80 b (refused 7 0 no_counts)
ill_text t file i e s h w b =
    let r = file_read t file e s in
    let n : TextsOk t.texts t.bytes → ⊥ = λ z. false≢true (sym w ∙ (utf8_well (text_bytes t.texts t.bytes i)).0 (z.each i h).well_formed) in
    wrong_file Text (record { wide = omega arith; policy_known = omega arith; rule_known = (omega arith, omega arith); lent_enough = tt })
    (wrong Text r.0 (subst (λ (x : Tables). Judged x 7) (sym r.1) (text (references_right t s) n)))

-- one Empty, and a space text that is the byte 128: 7 comes before 8
abbrev ill_space_file : List ℕ
ill_space_file = 5 ∷ 1 ∷ 0 ∷ 0 ∷ 0 ∷ 1 ∷ 0 ∷ 0 ∷ 0 ∷ 0 ∷ 0 ∷ 3 ∷ 1 ∷ 0 ∷ 0 ∷ 0 ∷ 1 ∷ 0 ∷ 0 ∷ 0 ∷ 128 ∷ []

abbrev ill_space_tables : Tables
ill_space_tables = tables ((0 ∷ 0 ∷ 0 ∷ 0 ∷ 0 ∷ 0 ∷ 0 ∷ 0 ∷ []) ∷ []) [] [] ((1 ∷ 1 ∷ 0 ∷ []) ∷ []) (128 ∷ []) 0 0 0

pub ill_space : (b : Bounds) → Answers (Unit {0}) ill_space_file at_80 b (refused 7 0 no_counts)
unfolding bytes_of sound more low high rest
ill_space = ill_text ill_space_tables ill_space_file 0 refl refl (omega arith) refl

-- one Empty, and beside the space two texts, C3 and A9, whose bytes joined are one character: each text is tested by itself
abbrev halves_file : List ℕ
halves_file = 5 ∷ 1 ∷ 0 ∷ 0 ∷ 0 ∷ 3 ∷ 0 ∷ 0 ∷ 0 ∷ 0 ∷ 0 ∷ 3 ∷ 1 ∷ 0 ∷ 0 ∷ 0 ∷ 1 ∷ 0 ∷ 0 ∷ 0 ∷ 32 ∷ 2 ∷ 1 ∷ 0 ∷ 0 ∷ 0 ∷ 195 ∷ 2 ∷ 1 ∷ 0 ∷ 0 ∷ 0 ∷ 169 ∷ []

abbrev halves_tables : Tables
halves_tables = tables ((0 ∷ 0 ∷ 0 ∷ 0 ∷ 0 ∷ 0 ∷ 0 ∷ 0 ∷ []) ∷ []) [] [] ((1 ∷ 1 ∷ 0 ∷ []) ∷ (0 ∷ 1 ∷ 1 ∷ []) ∷ (0 ∷ 1 ∷ 2 ∷ []) ∷ []) (32 ∷ 195 ∷ 169 ∷ []) 0 0 0

pub halves : (b : Bounds) → Answers (Unit {0}) halves_file at_80 b (refused 7 0 no_counts)
unfolding bytes_of sound more low high rest
halves = ill_text halves_tables halves_file 1 refl refl (omega arith) refl

-- one Text of display width 1, the same character whole
abbrev pub whole_file : List ℕ
whole_file = 69 ∷ 1 ∷ 0 ∷ 0 ∷ 0 ∷ 2 ∷ 0 ∷ 0 ∷ 0 ∷ 1 ∷ 0 ∷ 0 ∷ 0 ∷ 0 ∷ 1 ∷ 3 ∷ 1 ∷ 0 ∷ 0 ∷ 0 ∷ 2 ∷ 0 ∷ 0 ∷ 0 ∷ 195 ∷ 169 ∷ 3 ∷ 1 ∷ 0 ∷ 0 ∷ 0 ∷ 1 ∷ 0 ∷ 0 ∷ 0 ∷ 32 ∷ []

abbrev pub whole_tables : Tables
whole_tables = tables ((1 ∷ 0 ∷ 0 ∷ 0 ∷ 0 ∷ 0 ∷ 0 ∷ 0 ∷ []) ∷ []) [] [] ((1 ∷ 2 ∷ 0 ∷ []) ∷ (1 ∷ 1 ∷ 2 ∷ []) ∷ []) (195 ∷ 169 ∷ 32 ∷ []) 0 0 1
