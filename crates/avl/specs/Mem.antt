-- The words of the frontier, as slots of fourteen fields: 0 overflow high, 1 overflow low, 2 burden, 3 last column, 4 precedence, 5 to 7 the pending plan,
-- 8 previous and 9 next in order of presentation, 10 next free slot, 11 left, 12 right, 13 height.
use Rattle.std.specs.Prelude.{List, ℕ, ◌+◌, ◌*◌, ◌≤◌, length, get_or, set}

-- field k of slot s
unfoldable pub word : List ℕ → ℕ → ℕ → ℕ
word m s k = get_or m (s * 14 + k) 0

-- the words with x at field k of slot s
unfoldable pub put : List ℕ → ℕ → ℕ → ℕ → List ℕ
put m s k x = set m (s * 14 + k) x

-- s is a slot of m
pub record At (m : List ℕ) (s : ℕ) : Type 0 where
  pub room : s * 14 + 14 ≤ length m
