-- The grammar allows just what RFC 3629, section 3, spells: whole characters by their numbers, each in its one form. So the grammar's rows
-- are document 02's words: no overlong forms, no surrogates, nothing above 10FFFF hexadecimal.
use Rattle.std.specs.Prelude.{List, [], ◌∷◌, ℕ, ◌+◌, ◌*◌}
use Rattle.file_utf8.specs.Utf8.{Between}

-- six bits
abbrev pub Six : ℕ → Type 0
Six y = Between 0 63 y

-- the numbers of the surrogates
abbrev pub Surrogate : ℕ → Type 0
Surrogate c = Between 55296 57343 c

-- A character's number is in the range of its row, so the form is not overlong; x are the bits of the first byte.
pub data Spelled : List ℕ → Type 0 where
  nothing : Spelled []
  -- 0000 0000-0000 007F | 0xxxxxxx
  one : {x : ℕ} {s : List ℕ} → Between 0 127 x → Spelled s → Spelled (x ∷ s)
  -- 0000 0080-0000 07FF | 110xxxxx 10xxxxxx
  two : (x y : ℕ) {s : List ℕ} → Six y → Between 128 2047 (64 * x + y) → Spelled s → Spelled ((192 + x) ∷ (128 + y) ∷ s)
  -- 0000 0800-0000 FFFF | 1110xxxx 10xxxxxx 10xxxxxx, and none of D800 to DFFF
  three :
      (x y z : ℕ) {s : List ℕ}
      → Six y
      → Six z
      → Between 2048 65535 (4096 * x + 64 * y + z)
      → (Surrogate (4096 * x + 64 * y + z) → ⊥)
      → Spelled s
      → Spelled ((224 + x) ∷ (128 + y) ∷ (128 + z) ∷ s)
  -- 0001 0000-0010 FFFF | 11110xxx 10xxxxxx 10xxxxxx 10xxxxxx
  four :
      (x y z w : ℕ) {s : List ℕ}
      → Six y
      → Six z
      → Six w
      → Between 65536 1114111 (262144 * x + 4096 * y + 64 * z + w)
      → Spelled s
      → Spelled ((240 + x) ∷ (128 + y) ∷ (128 + z) ∷ (128 + w) ∷ s)
