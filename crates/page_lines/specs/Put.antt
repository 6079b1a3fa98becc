-- Bytes put into a lent slice one piece after the other.
use Rattle.std.specs.Prelude.{◌≡◌, List, ◌++◌, ℕ, ◌+◌, ◌≤◌, length, take}

-- from `at` on, the piece was put, and the next place is r; what stands before is as it was
pub record Put (entry : List ℕ) (at : ℕ) (piece exit : List ℕ) (r : ℕ) : Type 0 where
  pub next : r ≡ at + length piece
  pub front : take r exit ≡ take at entry ++ piece

-- the first r bytes are the text, all of it
pub record Front (text out : List ℕ) (r : ℕ) : Type 0 where
  pub within : r ≤ length out
  pub is : take r out ≡ text
