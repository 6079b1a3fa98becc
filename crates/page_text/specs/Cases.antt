-- Document 01's example of the program: what it reads and what it writes, by computation.
use Rattle.std.specs.Prelude.{refl, List, [], ◌∷◌, ℕ}
use Rattle.std.proofs.Common.{arith}
use Rattle.file_fields.specs.Fields.{byte_at, word_at, nonzero, field_at, formed}
use Rattle.page_setting.specs.Setting.{setting_at, s_map, s_width, s_newline_cost}
use Rattle.page_numerals.specs.Digits.{digit, digits, width}
use Rattle.page_lines.specs.Lines.{page_line, page_text}
use Rattle.answer.proofs.Cases.{example}
use Rattle.page_text.specs.Printed.{Printed, answered}

-- W 80, and the file with the one Text `ab`
abbrev example_input : List ℕ
example_input = 1 ∷ 80 ∷ 0 ∷ 0 ∷ 0 ∷ 69 ∷ 1 ∷ 0 ∷ 0 ∷ 0 ∷ 2 ∷ 0 ∷ 0 ∷ 0 ∷ 1 ∷ 0 ∷ 0 ∷ 0 ∷ 0 ∷ 1 ∷ 3 ∷ 2 ∷ 0 ∷ 0 ∷ 0 ∷ 2 ∷ 0 ∷ 0 ∷ 0 ∷ 97 ∷ 98 ∷ 3 ∷ 1 ∷ 0 ∷ 0 ∷ 0 ∷ 1 ∷ 0 ∷ 0 ∷ 0 ∷ 32 ∷ []

-- "page 2 00000000000000000000000000000000 0 0", and "ab" on the next line
abbrev example_text : List ℕ
example_text = 112 ∷ 97 ∷ 103 ∷ 101 ∷ 32 ∷ 50 ∷ 32 ∷ 48 ∷ 48 ∷ 48 ∷ 48 ∷ 48 ∷ 48 ∷ 48 ∷ 48 ∷ 48 ∷ 48 ∷ 48 ∷ 48 ∷ 48 ∷ 48 ∷ 48 ∷ 48 ∷ 48 ∷ 48 ∷ 48 ∷ 48 ∷ 48 ∷ 48 ∷ 48 ∷ 48 ∷ 48 ∷ 48 ∷ 48 ∷ 48 ∷ 48 ∷ 48 ∷ 48 ∷ 48 ∷ 32 ∷ 48 ∷ 32 ∷ 48 ∷ 10 ∷ 97 ∷ 98 ∷ 10 ∷ []

pub example_printed : Printed example_input example_text
unfolding byte_at word_at nonzero field_at formed setting_at s_map s_width s_newline_cost digit digits width page_line page_text
example_printed = answered (omega arith) refl _ example
