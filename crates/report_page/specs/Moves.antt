-- What a row puts before its page, and its spans' words on the whole page.
use Rattle.std.specs.Prelude.{List, [], ◌∷◌, ℕ, zero, suc, ◌+◌, get_or}
use Rattle.report.specs.Memory.{Words}

-- before row k: byte 10, but for the first
abbrev pub lead : ℕ → List ℕ
lead zero = []
lead (suc k) = 10 ∷ []

-- a parent's word, with n spans before the row: 0 is no parent and stays
abbrev pub moved_parent : ℕ → ℕ → ℕ
moved_parent n zero = 0
moved_parent n (suc p) = suc p + n

-- the words of a row's span, where the row's page starts at a position and n spans are before it
abbrev pub moved_words : ℕ → ℕ → Words → Words
moved_words at n r = get_or r 0 0 ∷ (get_or r 1 0 + at) ∷ (get_or r 2 0 + at) ∷ moved_parent n (get_or r 3 0) ∷ []
