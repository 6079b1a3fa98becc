-- A live report's head in five words.
use Rattle.std.specs.Prelude.{Result, Ok, Err, List, [], ◌∷◌, ℕ, get_or}
use Rattle.report_gate.specs.declared.Head.{Head}

-- number of rows, width, newline cost, policy, rule
abbrev pub head_at : List ℕ → Head
head_at w = record { rows = get_or w 0 0; width = get_or w 1 0; newline_cost = get_or w 2 0; policy = get_or w 3 0; rule = get_or w 4 0 }

abbrev pub head_words : Head → List ℕ
head_words h = h.rows ∷ h.width ∷ h.newline_cost ∷ h.policy ∷ h.rule ∷ []

abbrev pub opened_number : Result Head ℕ → ℕ
opened_number (Ok h) = 0
opened_number (Err n) = n

abbrev pub opened_words : Result Head ℕ → List ℕ → List ℕ
opened_words (Ok h) was = head_words h
opened_words (Err n) was = was
