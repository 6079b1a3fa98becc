-- What an accepted file's tables are: no node leads back to itself, choice lists are right, and the space text is a space of width 1.
use Rattle.std.specs.Prelude.{◌≡◌, ℕ, ◌<◌}
use Rattle.std.proofs.Math.Option.{some}
use Rattle.layout.specs.Table.{Choice}
use Rattle.layout.specs.References.{Ranked, RightList}
use Rattle.machine.specs.Model.{Prepared, ExactChoice}

pub record Ready (P : Prepared) : Type 0 where
  pub ranked : Ranked P.table
  pub deep : (n : ℕ) → ranked.rank n < P.depth
  pub lists : (n a b : ℕ) (l : ExactChoice) → P.table.node n ≡ Choice a b → P.choices n ≡ some l → RightList P.table a b l.skipped l.alternatives
  pub space_is : P.table.texts P.space_text ≡ P.table.space
  pub space_wide : P.table.space.width ≡ 1
