-- Document 01, refusal 9 (circle): some node leads back to itself.
use Rattle.std.specs.Prelude.{ℕ, ◌+◌, ◌<◌, ◌≡◌, List, [], length, get_or}
use Rattle.std.proofs.Math.Option.{some}
use Rattle.file_tables.specs.Tables.{kind, first, second, flat}
use Rattle.file_checks.specs.References.{Child, Ranged}

-- node i refers to its children, its edges and, if a Group, its child's flat node
pub data Refers (nodes : List (List ℕ)) (edges : List ℕ) (i : ℕ) : ℕ → Type 0 where
  child : {j : ℕ} → Child (get_or nodes i []) j → Refers nodes edges i j
  edge :
      (k : ℕ)
      → Ranged (get_or nodes i [])
      → k < second (get_or nodes i [])
      → Refers nodes edges i (get_or edges (first (get_or nodes i []) + k) 0)
  flat_of_child :
      {j : ℕ}
      → kind (get_or nodes i []) ≡ 5
      → flat (get_or nodes (first (get_or nodes i [])) []) ≡ some j
      → Refers nodes edges i j

-- i leads to j, by one reference or more
pub data Leads (nodes : List (List ℕ)) (edges : List ℕ) : ℕ → ℕ → Type 0 where
  one : {i j : ℕ} → Refers nodes edges i j → Leads nodes edges i j
  more : {i j k : ℕ} → Leads nodes edges i j → Refers nodes edges j k → Leads nodes edges i k

pub record Circle (nodes : List (List ℕ)) (edges : List ℕ) : Type 0 where
  pub node : ℕ
  pub inside : node < length nodes
  pub back : Leads nodes edges node node
