-- The same byte by byte, as a test that goes through a string once: for the code, and to compute cases. Rows has that it is the same.
use Rattle.std.specs.Prelude.{Bool, true, false, cond, List, [], ◌∷◌, ℕ, zero, suc, ltb, eqb}

-- how many bytes follow a first byte (0: none may), and between which the first of them is
unfoldable pub more : ℕ → ℕ
more a = cond (ltb a 194) 0 (cond (ltb a 224) 1 (cond (ltb a 240) 2 (cond (ltb a 245) 3 0)))

unfoldable pub low : ℕ → ℕ
low a = cond (eqb a 224) 160 (cond (eqb a 240) 144 128)

unfoldable pub high : ℕ → ℕ
high a = cond (eqb a 237) 159 (cond (eqb a 244) 143 191)

-- n more bytes of a character, the next from l to h, and then whole characters
unfoldable pub rest : ℕ → ℕ → ℕ → List ℕ → Bool
rest zero l h [] = true
rest (suc n) l h [] = false
rest zero l h (a ∷ s) = cond (ltb a 128) (rest zero 128 191 s) (cond (eqb (more a) 0) false (rest (more a) (low a) (high a) s))
rest (suc n) l h (b ∷ s) = cond (ltb b l) false (cond (ltb h b) false (rest n 128 191 s))

-- whole characters
abbrev pub well : List ℕ → Bool
well s = rest zero 128 191 s
