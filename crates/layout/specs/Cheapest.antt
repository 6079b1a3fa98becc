-- What is cheapest: a layout of a document, and the one of a node table that is the rule's.
use Rattle.std.specs.Prelude.{◌≡◌, ℕ, ◌≤◌}
use Rattle.std.proofs.Math.Option.{some}
use Rattle.layout.specs.Document.{Doc}
use Rattle.layout.specs.Rules.{Rules}
use Rattle.layout.specs.Layout.{Plan, Allows, overflow_of, burden_of}
use Rattle.layout.specs.Choice.{chosen}
use Rattle.layout.specs.Table.{Table, Reads}

-- the document allows p, and every layout it allows has at least as much overflow and, where exactly as much, at least as much burden
pub record Cheapest (R : Rules) (d : Doc) (p : Plan) : Type 0 where
  pub allowed : Allows R d 0 0 p
  pub least_overflow : (q : Plan) → Allows R d 0 0 q → overflow_of R p ≤ overflow_of R q
  pub least_burden : (q : Plan) → Allows R d 0 0 q → overflow_of R p ≡ overflow_of R q → burden_of R p ≤ burden_of R q

-- p is the first of the cheapest layouts of the root's document in choice order
pub record FirstCheapest (R : Rules) (T : Table) (root : ℕ) (p : Plan) : Type 0 where
  pub document : ℕ → Doc
  pub reads : Reads T document
  pub first : chosen R (document root) ≡ some p
  pub cheapest : Cheapest R (document root) p
