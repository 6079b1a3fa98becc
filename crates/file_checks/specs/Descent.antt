-- What the solver needs of tables without a circle.
use Rattle.std.specs.Prelude.{ℕ, ◌<◌, List, length}
use Rattle.file_checks.specs.Circle.{Refers}

-- every node refers to nodes of the table
pub record Closed (nodes : List (List ℕ)) (edges : List ℕ) : Type 0 where
  pub within : (i j : ℕ) → i < length nodes → Refers nodes edges i j → j < length nodes

-- all that a node leads to comes to an end
pub data Ends (nodes : List (List ℕ)) (edges : List ℕ) : ℕ → Type 0 where
  ends : {i : ℕ} → ((j : ℕ) → Refers nodes edges i j → Ends nodes edges j) → Ends nodes edges i

-- every reference goes down in rank, and ranks are below the number of nodes
pub record Ranked (nodes : List (List ℕ)) (edges : List ℕ) : Type 0 where
  pub rank : ℕ → ℕ
  pub descends : (i j : ℕ) → i < length nodes → Refers nodes edges i j → rank j < rank i
  pub bounded : (i : ℕ) → i < length nodes → rank i < length nodes
