-- A report keeps its spans as marks: the four words of a span row (layout, SpanWords), 32 bits each.
use Rattle.std.specs.Prelude.{List, [], ◌∷◌, ℕ, ◌<◌, ◌^◌, get_or}

abbrev pub words : List ℕ → List ℕ
words r = get_or r 0 0 ∷ get_or r 1 0 ∷ get_or r 2 0 ∷ get_or r 3 0 ∷ []

-- each has a place in 32 bits
pub record Narrow (r : List ℕ) : Type 0 where
  pub annotation : get_or r 0 0 < 2 ^ 32
  pub start : get_or r 1 0 < 2 ^ 32
  pub end : get_or r 2 0 < 2 ^ 32
  pub parent : get_or r 3 0 < 2 ^ 32

-- of each of the first n rows
pub record Small (n : ℕ) (rows : List (List ℕ)) : Type 0 where
  pub row : (k : ℕ) → k < n → Narrow (get_or rows k [])
