-- Numbers as text: decimal without leading zeros, and lower-case hexadecimal of a fixed number of digits. Bytes are ASCII.
use Rattle.std.specs.Prelude.{Bool, true, false, List, [], ◌∷◌, ◌++◌, ℕ, zero, suc, ◌+◌, ◌/◌, ◌%◌, ltb}

abbrev pub pick : Bool → ℕ → ℕ → ℕ
pick true a b = a
pick false a b = b

-- the byte of a digit: 0 to 9, then a to f
unfoldable pub digit : ℕ → ℕ
digit d = pick (ltb d 10) (48 + d) (87 + d)

-- the last k digits of n in a base, zeros in front where n has fewer
unfoldable pub digits : ℕ → ℕ → ℕ → List ℕ
digits base zero n = []
digits base (suc k) n = digits base k (n / base) ++ (digit (n % base) ∷ [])

-- how many digits n has in decimal, if it has at most k + 1
unfoldable pub width : ℕ → ℕ → ℕ
width zero n = 1
width (suc k) n = pick (ltb n 10) 1 (width k (n / 10) + 1)

-- a number below 2^64, which has at most 20 digits
abbrev pub decimal : ℕ → List ℕ
decimal n = digits 10 (width 19 n) n

-- a number below 2^128
abbrev pub hexadecimal : ℕ → List ℕ
hexadecimal n = digits 16 32 n
