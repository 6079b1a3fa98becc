-- Document 01, "Calls": each of the refusals 6 to 10 over the whole file, in this order.
use Rattle.std.specs.Prelude.{ℕ, ◌≤◌, length}
use Rattle.file_tables.specs.Tables.{Tables}
pub use Rattle.file_tables.specs.Tables.{tables}
use Rattle.file_checks.specs.References.{References}
use Rattle.file_checks.specs.Texts.{Inside, TextsOk, SpaceOk}
use Rattle.file_checks.specs.Circle.{Circle}
use Rattle.file_checks.specs.Choice.{ListsRight}

-- what is known of the tables where 6 to 10 are tested: 1 to 5 have been
pub record Formed (t : Tables) : Type 0 where
  pub nodes : length t.nodes ≤ 4096
  pub texts : Inside t.texts t.bytes

-- all that 6 to 10 ask
pub record Accepted (t : Tables) : Type 0 where
  pub references : References t
  pub texts : TextsOk t.texts t.bytes
  pub space : SpaceOk t.texts t.bytes t.space
  pub no_circle : Circle t.nodes t.edges → ⊥
  pub lists : ListsRight t.nodes t.choices

-- the first refusal of 6 to 10 that holds, or 0
pub data Judged (t : Tables) : ℕ → Type 0 where
  reference : (References t → ⊥) → Judged t 6
  text : References t → (TextsOk t.texts t.bytes → ⊥) → Judged t 7
  space :
      References t
      → TextsOk t.texts t.bytes
      → (SpaceOk t.texts t.bytes t.space → ⊥)
      → Judged t 8
  circle :
      References t
      → TextsOk t.texts t.bytes
      → SpaceOk t.texts t.bytes t.space
      → Circle t.nodes t.edges
      → Judged t 9
  list :
      References t
      → TextsOk t.texts t.bytes
      → SpaceOk t.texts t.bytes t.space
      → (Circle t.nodes t.edges → ⊥)
      → (ListsRight t.nodes t.choices → ⊥)
      → Judged t 10
  accepted : Accepted t → Judged t 0
