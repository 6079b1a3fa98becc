-- A link as an answer.
use Rattle.std.specs.Prelude.{Bool, true, false, ℕ, eqb, Option, Some, None}
use Rattle.avl.specs.Holds.{nil}

abbrev pub or_nothing : Bool → ℕ → Option ℕ
or_nothing true x = None
or_nothing false x = Some x

-- the link that a word stores
unfoldable pub link_of : ℕ → Option ℕ
link_of x = or_nothing (eqb x nil) x
