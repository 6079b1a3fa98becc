-- Document 01, refusal 10 (list): a choice list is right if it comes from [preferred, alternative] by replacing a Choice in the list,
-- anywhere in it, by its two, exactly `skipped` times.
use Rattle.std.specs.Prelude.{ℕ, zero, suc, ◌<◌, ◌≡◌, List, [], ◌∷◌, length, get_or, take, drop}
use Rattle.file_tables.specs.Tables.{kind, first, second, choice_start, choice_length, skipped}

-- one Choice of a list is replaced by its two
pub data Replaced (nodes : List (List ℕ)) : List ℕ → List ℕ → Type 0 where
  here :
      {y : ℕ} {ys : List ℕ}
      → kind (get_or nodes y []) ≡ 9
      → Replaced nodes (y ∷ ys) (first (get_or nodes y []) ∷ second (get_or nodes y []) ∷ ys)
  later : {y : ℕ} {ys zs : List ℕ} → Replaced nodes ys zs → Replaced nodes (y ∷ ys) (y ∷ zs)

-- the second list comes from the first by k such steps
pub data Comes (nodes : List (List ℕ)) : ℕ → List ℕ → List ℕ → Type 0 where
  as_it_is : {ys : List ℕ} → Comes nodes zero ys ys
  step : {k : ℕ} {ys zs xs : List ℕ} → Replaced nodes ys zs → Comes nodes k zs xs → Comes nodes (suc k) ys xs

-- the two of a Choice
abbrev pub two : List ℕ → List ℕ
two row = first row ∷ second row ∷ []

-- the choice list of a node
abbrev pub choice_list : List ℕ → List ℕ → List ℕ
choice_list choices row = take (choice_length row) (drop (choice_start row) choices)

-- every node with a choice list, that is, whose choice length stands, has a right one
pub record ListsRight (nodes : List (List ℕ)) (choices : List ℕ) : Type 0 where
  pub each :
      (i : ℕ)
      → i < length nodes
      → (choice_length (get_or nodes i []) ≡ 0 → ⊥)
      → Comes nodes (skipped (get_or nodes i [])) (two (get_or nodes i [])) (choice_list choices (get_or nodes i []))
