-- Bytes that are put into lent bytes from a position on. A byte that has no place is not put, so that a file is measured by putting it nowhere.
use Rattle.std.specs.Prelude.{ℕ, ◌+◌, ◌≡◌, List, length}
use Rattle.std.proofs.lemmas.List.Edits.{sets}

-- the bytes e were put into o from the position at on, and r is the position after them
pub record Put (o o' : List ℕ) (at r : ℕ) (e : List ℕ) : Type 0 where
  pub bytes : o' ≡ sets o at e
  pub next : r ≡ at + length e
