-- The lines that the program `page` writes (document 01, "Calls"), as ASCII bytes.
use Rattle.std.specs.Prelude.{List, [], ◌∷◌, ◌++◌, ℕ}
use Rattle.page_numerals.specs.Digits.{decimal, hexadecimal}

-- "refused "
abbrev pub refused : List ℕ
refused = 114 ∷ 101 ∷ 102 ∷ 117 ∷ 115 ∷ 101 ∷ 100 ∷ 32 ∷ []

-- "page"
abbrev pub page : List ℕ
page = 112 ∷ 97 ∷ 103 ∷ 101 ∷ []

-- with a space in front
abbrev pub spaced : List ℕ → List ℕ
spaced text = (32 ∷ []) ++ text

-- the byte that closes a line
abbrev pub closing : List ℕ
closing = 10 ∷ []

-- `refused N`
unfoldable pub refused_line : ℕ → List ℕ
refused_line number = refused ++ decimal number ++ closing

-- `page`, work, overflow in 32 hexadecimal digits, burden, the number of spans
unfoldable pub page_line : ℕ → ℕ → ℕ → ℕ → List ℕ
page_line work overflow burden spans = page ++ spaced (decimal work) ++ spaced (hexadecimal overflow) ++ spaced (decimal burden) ++ spaced (decimal spans) ++ closing

-- a page after its line, closed by one more byte 10
unfoldable pub page_text : ℕ → ℕ → ℕ → ℕ → List ℕ → List ℕ
page_text work overflow burden spans bytes = page_line work overflow burden spans ++ bytes ++ closing
