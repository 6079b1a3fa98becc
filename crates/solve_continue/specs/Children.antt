-- The children of a sequence in the tables.
use Rattle.std.specs.Prelude.{◌≡◌, ℕ, ◌<◌, length, get_or}
use Rattle.file_tables.specs.Tables.{Tables}
use Rattle.machine.specs.Model.{children}
use Rattle.solve_workspace.specs.Reading.{prepared}

-- child x of node n is node k
pub record ChildNumber (t : Tables) (n x k : ℕ) : Type 0 where
  pub there : x < length (children ((prepared t).table.node n))
  pub is : get_or (children ((prepared t).table.node n)) x 0 ≡ k
