-- Definitions that only the contracts of inner functions cite: how the searches for a circle and along a choice list go.
use Rattle.std.specs.Prelude.{ℕ, zero, suc, ◌+◌, ◌-◌, ◌≤◌, ◌<◌, ◌≡◌, List, [], ◌∷◌, Bool, true, false, length, get_or, drop, leb, eqb, Option, Some, None}
use Rattle.file_tables.specs.Tables.{kind, first, second, flat_mark, flat_word, choice_start, choice_length, skipped}
use Rattle.file_checks.specs.Circle.{Refers, Circle}
use Rattle.file_checks.specs.Descent.{Ends}
use Rattle.file_checks.specs.Choice.{two, choice_list, ListsRight}

abbrev pub pick : Bool → ℕ → ℕ → ℕ
pick true a b = a
pick false a b = b

-- how many nodes a node refers to; `child` is its first's row
unfoldable pub degree_of : List ℕ → List ℕ → ℕ
degree_of row child =
    pick (eqb (kind row) 4) (second row)
    (pick (eqb (kind row) 6) (second row)
    (pick (eqb (kind row) 5) (pick (eqb (flat_mark child) 1) 2 1)
    (pick (eqb (kind row) 9) 2
    (pick (leb (kind row) 6) 0
    (pick (leb (kind row) 11) 1 0)))))

-- the k-th of them
unfoldable pub target_of : List ℕ → List ℕ → List ℕ → ℕ → ℕ
target_of edges row child k =
    pick (eqb (kind row) 4) (get_or edges (first row + k) 0)
    (pick (eqb (kind row) 6) (get_or edges (first row + k) 0)
    (pick (eqb (kind row) 5) (pick (eqb k 0) (first row) (flat_word child))
    (pick (eqb (kind row) 9) (pick (eqb k 0) (first row) (second row))
    (pick (eqb (kind row) 8) (first row) (second row)))))

abbrev pub degree : List (List ℕ) → ℕ → ℕ
degree nodes i = degree_of (get_or nodes i []) (get_or nodes (first (get_or nodes i [])) [])

abbrev pub target : List (List ℕ) → List ℕ → ℕ → ℕ → ℕ
target nodes edges i k = target_of edges (get_or nodes i []) (get_or nodes (first (get_or nodes i [])) []) k

-- ---- the search for a circle. Its colours: 0 not seen, 1 on the way, 2 done

-- how many are not seen
unfoldable pub white : List ℕ → ℕ
white [] = 0
white (c ∷ cs) = pick (eqb c 0) (suc (white cs)) (white cs)

-- the way is a list of rows, the last node first: a node, and how many of its references are done
abbrev pub node : List ℕ → ℕ
node row = get_or row 0 0

abbrev pub taken : List ℕ → ℕ
taken row = get_or row 1 0

-- what a row says: so many references of its node come to an end
pub record Row (nodes : List (List ℕ)) (edges : List ℕ) (row : List ℕ) : Type 0 where
  pub inside : node row < length nodes
  pub past : (m : ℕ) → m < taken row → Ends nodes edges (target nodes edges (node row) m)

-- the node of each row is one that the next row's refers to
pub data Way (nodes : List (List ℕ)) (edges : List ℕ) : List (List ℕ) → Type 0 where
  none : Way nodes edges []
  start : {row : List ℕ} → Row nodes edges row → Way nodes edges (row ∷ [])
  onward :
      {row before : List ℕ} {rows : List (List ℕ)}
      → Row nodes edges row
      → Refers nodes edges (node before) (node row)
      → Way nodes edges (before ∷ rows)
      → Way nodes edges (row ∷ before ∷ rows)

-- node x stands in one of the rows
pub data Stands (x : ℕ) : List (List ℕ) → Type 0 where
  here : {row : List ℕ} {rows : List (List ℕ)} → x ≡ node row → Stands x (row ∷ rows)
  later : {row : List ℕ} {rows : List (List ℕ)} → Stands x rows → Stands x (row ∷ rows)

-- between two turns of the search, and with no rows between two ways: each node has a colour, what is done comes to an end, what is on
-- the way stands there, and there is room on it for all that is not seen
pub record Walking (nodes : List (List ℕ)) (edges : List ℕ) (cs : List ℕ) (rows : List (List ℕ)) : Type 0 where
  pub enough : length nodes ≤ length cs
  pub done : (x : ℕ) → 1 < get_or cs x 0 → Ends nodes edges x
  pub way : Way nodes edges rows
  pub grey : (x : ℕ) → get_or cs x 0 ≡ 1 → Stands x rows
  pub room : length rows + white cs ≤ length cs

-- how many turns are left at most: for a node that is not seen its references and two, for a row the references that are not done and one
unfoldable pub unseen : List (List ℕ) → ℕ → List ℕ → ℕ
unseen nodes n [] = 0
unseen nodes n (c ∷ cs) = pick (eqb c 0) (degree nodes n + 2) 0 + unseen nodes (suc n) cs

unfoldable pub unfinished : List (List ℕ) → List (List ℕ) → ℕ
unfinished nodes [] = 0
unfinished nodes (row ∷ rows) = (degree nodes (node row) - taken row) + 1 + unfinished nodes rows

abbrev pub turns : List (List ℕ) → List ℕ → List (List ℕ) → ℕ
turns nodes cs rows = unseen nodes 0 cs + unfinished nodes rows

-- the search went on: the colours cs became ds, the rows became others
pub record Went (nodes : List (List ℕ)) (edges cs : List ℕ) (rows : List (List ℕ)) (ds : List ℕ) (others : List (List ℕ)) : Type 0 where
  pub walking : Walking nodes edges ds others
  pub seen : (x : ℕ) → get_or ds x 0 ≡ 0 → get_or cs x 0 ≡ 0
  pub fewer : turns nodes ds others < turns nodes cs rows

-- what a turn comes to. The rows stand in `way` from `top` on, afterwards in `on` from the place that is told
abbrev pub TurnCase : List (List ℕ) → List ℕ → List ℕ → List (List ℕ) → ℕ → List ℕ → List (List ℕ) → Option ℕ → Type 0
TurnCase nodes edges cs way top ds on None = Circle nodes edges
TurnCase nodes edges cs way top ds on (Some place) = (place ≤ length on) × Went nodes edges cs (drop top way) ds (drop place on)

pub record Turned (nodes : List (List ℕ)) (edges cs : List ℕ) (way : List (List ℕ)) (top : ℕ) (ds : List ℕ) (on : List (List ℕ)) (turn : Option ℕ) : Type 0 where
  pub case : TurnCase nodes edges cs way top ds on turn

-- what a search from a node finds: a circle, or no way is left and the node is seen
pub record Searched (nodes : List (List ℕ)) (edges cs ds : List ℕ) (i : ℕ) (found : Bool) : Type 0 where
  pub circle : found ≡ true → Circle nodes edges
  pub over : found ≡ false → Walking nodes edges ds []
  pub seen : found ≡ false → (x : ℕ) → get_or ds x 0 ≡ 0 → (get_or cs x 0 ≡ 0) × (x ≡ i → ⊥)

-- ---- the search along a choice list

-- the list xs comes from ys by k replacements, made from left to right
pub data Cut (nodes : List (List ℕ)) : List ℕ → List ℕ → ℕ → Type 0 where
  done : Cut nodes [] [] zero
  keep : {y k : ℕ} {ys xs : List ℕ} → Cut nodes ys xs k → Cut nodes (y ∷ ys) (y ∷ xs) k
  split :
      {y k : ℕ} {ys xs : List ℕ}
      → kind (get_or nodes y []) ≡ 9
      → Cut nodes (first (get_or nodes y []) ∷ second (get_or nodes y []) ∷ ys) xs k
      → Cut nodes (y ∷ ys) xs (suc k)

-- x is reached from y by going to the preferred of a Choice, once or more
pub data Down (nodes : List (List ℕ)) : ℕ → ℕ → Type 0 where
  once : {y : ℕ} → kind (get_or nodes y []) ≡ 9 → Down nodes y (first (get_or nodes y []))
  again : {y x : ℕ} → kind (get_or nodes y []) ≡ 9 → Down nodes (first (get_or nodes y [])) x → Down nodes y x

-- the choice list of a row, where its length stands, is right
pub record RowRight (nodes : List (List ℕ)) (choices row : List ℕ) : Type 0 where
  pub right : (choice_length row ≡ 0 → ⊥) → Cut nodes (two row) (choice_list choices row) (skipped row)

-- every choice list stands within the choice edges
pub record ListsInside (nodes : List (List ℕ)) (choices : List ℕ) : Type 0 where
  pub inside :
      (i : ℕ)
      → i < length nodes
      → (choice_length (get_or nodes i []) ≡ 0 → ⊥)
      → choice_start (get_or nodes i []) + choice_length (get_or nodes i []) ≤ length choices

-- ---- 9 and 10 alone

pub data GraphJudged (nodes : List (List ℕ)) (edges choices : List ℕ) : ℕ → Type 0 where
  circle : Circle nodes edges → GraphJudged nodes edges choices 9
  list : (Circle nodes edges → ⊥) → (ListsRight nodes choices → ⊥) → GraphJudged nodes edges choices 10
  right : (Circle nodes edges → ⊥) → ListsRight nodes choices → GraphJudged nodes edges choices 0
