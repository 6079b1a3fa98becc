-- The fields of a prepared file (document 01, "Prepared file"), each read at a position.
-- A step is the number that was read, the position after it, and the refusal so far (0: none). After a refusal every later step is that refusal,
-- so the refusal of a whole file is its first in file order; within a field short comes before form, and form before limit.
use Rattle.std.specs.Prelude.{ℕ, ◌+◌, ◌*◌, ◌/◌, ◌%◌, List, Bool, true, false, length, get_or, ltb, leb, eqb}
use Rattle.file_fields.specs.declared.Step.{Step}

abbrev pub pick : Bool → Step → Step → Step
pick true a b = a
pick false a b = b

abbrev pub got : ℕ → ℕ → Step
got v at = record { value = v; at = at; fault = 0 }

abbrev pub refused : ℕ → ℕ → Step
refused n at = record { value = 0; at = at; fault = n }

-- a step after p: what p refused stays refused
abbrev pub after : Step → Step → Step
after p q = pick (eqb p.fault 0) q p

-- the number whose four bytes stand at a position, low byte first
abbrev pub u32 : List ℕ → ℕ → ℕ
u32 s at = get_or s at 0 + get_or s (at + 1) 0 * 256 + get_or s (at + 2) 0 * 65536 + get_or s (at + 3) 0 * 16777216

-- whether the bit of weight k stands in a map
abbrev pub bit : ℕ → ℕ → Bool
bit m k = eqb (m / k % 2) 1

-- one byte, or short (2)
unfoldable pub byte_at : List ℕ → Step → Step
byte_at s p = after p (pick (ltb p.at (length s)) (got (get_or s p.at 0) (p.at + 1)) (refused 2 p.at))

-- four bytes, or short (2)
unfoldable pub word_at : List ℕ → ℕ → Step
word_at s at = pick (leb (at + 4) (length s)) (got (u32 s at) (at + 4)) (refused 2 at)

-- a number that is not 0, or form (3)
unfoldable pub nonzero : Step → Step
nonzero w = after w (pick (eqb w.value 0) (refused 3 w.at) w)

-- a field: absent it is 0, present it is not 0
unfoldable pub field_at : List ℕ → Bool → Step → Step
field_at s on p = after p (pick on (nonzero (word_at s p.at)) (got 0 p.at))

-- a number that may be 0 where it is present: the flat node, an edge
unfoldable pub number_at : List ℕ → Bool → Step → Step
number_at s on p = after p (pick on (word_at s p.at) (got 0 p.at))

-- a number from low to high, or limit (4); after a refusal 0
unfoldable pub limited : ℕ → ℕ → Step → Step
limited low high f =
    pick (eqb f.fault 0) (pick (leb low f.value) (pick (leb f.value high) f (refused 4 f.at)) (refused 4 f.at)) (refused f.fault f.at)

-- a count: present or absent, it is from low to high
unfoldable pub count_at : List ℕ → Bool → ℕ → ℕ → Step → Step
count_at s on low high p = limited low high (field_at s on p)

-- a map byte of at most high, or form (3)
unfoldable pub formed : ℕ → Step → Step
formed high f = after f (pick (leb f.value high) f (refused 3 f.at))
