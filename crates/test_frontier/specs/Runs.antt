-- What the run keeps.
use Rattle.std.specs.Prelude.{◌≡◌, ℕ, ◌≤◌, List, Option}
use Rattle.layout.specs.Frontier.{Cand}
use Rattle.frontier.specs.Candidates.{Pending, Going}
use Rattle.frontier.specs.Kept.{Frontier}
use Rattle.test_frontier.specs.declared.State.{State}

pub record Ready (m : List ℕ) (s : State) : Type 0 where
  pub frontier : Frontier m 6 s.builder
  pub few : s.count ≤ 6

pub record Kept (s r : State) : Type 0 where
  pub builder_is : r.builder ≡ s.builder
  pub few : r.count ≤ 6

pub record Renewed (s r : State) : Type 0 where
  pub ready : (m : List ℕ) → Ready m s → Ready m r

-- somewhere on the walk along the survivors
pub record Somewhere (m : List ℕ) (c : Option ℕ) : Type 0 where
  pub xs : List (Cand Pending)
  pub going : Going m c xs
