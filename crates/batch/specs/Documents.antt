-- The documents of a batch, as they are lent (document 02, change 9): their bytes one behind the other, and how many bytes each has.
use Rattle.std.specs.Prelude.{List, [], ◌∷◌, ℕ, ◌+◌, get_or, take, drop}

abbrev pub cut : List ℕ → List ℕ → List (List ℕ)
cut files [] = []
cut files (n ∷ ns) = take n files ∷ cut (drop n files) ns

-- how many bytes they have together
abbrev pub total : List ℕ → ℕ
total [] = 0
total (n ∷ ns) = n + total ns

-- the one with a number stands behind those before it (`document_at`)
abbrev pub document : List ℕ → List ℕ → ℕ → List ℕ
document files lengths i = take (get_or lengths i 0) (drop (total (take i lengths)) files)

-- "up to 64 documents"
abbrev pub most_documents : ℕ
most_documents = 64
