-- Which fields a node of each kind may carry (document 01, "Prepared file", Node and Kinds), as tests of its map byte and its kind byte.
use Rattle.std.specs.Prelude.{ℕ, List, [], ◌∷◌, Bool, true, false, not, get_or, ltb, leb, eqb}
use Rattle.file_fields.specs.Fields.{bit}

-- how many of first and second each kind names, from kind 0 on: Empty 0, Text 1 (text), Break 0, HardLine 0, Seq 2 (edge start, length), Group 1 (child),
-- Fill 2 (edge start, length), Nest 2 (indent, child), Align 1 (child), Choice 2 (preferred, alternative), Annotate 2 (annotation, child), Penalty 2 (amount, child)
unfoldable pub named : List ℕ
named = 0 ∷ 1 ∷ 0 ∷ 0 ∷ 2 ∷ 1 ∷ 2 ∷ 2 ∷ 1 ∷ 2 ∷ 2 ∷ 2 ∷ []

-- whether a kind names a first, a second
unfoldable pub has_first : ℕ → Bool
has_first k = leb 1 (get_or named k 0)

unfoldable pub has_second : ℕ → Bool
has_second k = leb 2 (get_or named k 0)

-- both hold
abbrev pub both : Bool → Bool → Bool
both true y = y
both false y = false

-- x holds only where y does
abbrev pub only : Bool → Bool → Bool
only x true = true
only x false = not x

-- a node's map byte by itself: no bit above 5; bits 3 (choice start) and 5 (skipped) only beside bit 4 (choice length)
unfoldable pub map_right : ℕ → Bool
map_right m = both (leb m 63) (both (only (bit m 8) (bit m 16)) (only (bit m 32) (bit m 16)))

-- map byte and kind byte together: a kind from 0 to 11; bits 0 and 1 only where the kind names a first, a second; bit 4 only in kind 9. Bit 2 (flat node) may stand in any kind
unfoldable pub pair_right : ℕ → ℕ → Bool
pair_right m k = both (ltb k 12) (both (only (bit m 1) (has_first k)) (both (only (bit m 2) (has_second k)) (only (bit m 16) (eqb k 9))))
