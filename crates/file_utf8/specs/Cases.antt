-- Strings at the boundaries of the grammar's rows, on either side, and characters cut short.
use Rattle.std.specs.Prelude.{Bool, true, false, cond, not, List, [], ◌∷◌, ℕ}
use Rattle.file_utf8.specs.Bytewise.{more, low, high, rest, well}

pub data Each (P : List ℕ → Type 0) : List (List ℕ) → Type 0 where
  none : Each P []
  also : {s : List ℕ} {ss : List (List ℕ)} → P s → Each P ss → Each P (s ∷ ss)

-- of every string of a list the test says b
unfoldable pub tested : Bool → List (List ℕ) → Bool
unfolding more low high rest
tested b [] = true
tested b (s ∷ ss) = cond (cond b (well s) (not (well s))) (tested b ss) false
