-- The text of a text number, and the layout of a plan number, over tables and plan records as they stand in memory.
use Rattle.std.specs.Prelude.{List, [], ℕ, ◌+◌, ◌≤◌, ◌<◌, ◌^◌, length, get_or}
use Rattle.file_tables.specs.Tables.{byte_length, byte_start}
use Rattle.layout.specs.Document.{Word}
use Rattle.layout.specs.Layout.{Plan}
use Rattle.plan.specs.Arena.{arena}
use Rattle.plan.specs.Layouts.{layout_at, Ranked}
use Rattle.machine_input.specs.Reading.{word_of_row}
use Rattle.materialize.specs.Rows.{Row}

abbrev pub text_row : List Row → ℕ → Row
text_row texts t = get_or texts t []

-- the text t: its width, and its part of the bytes of all texts
abbrev pub text_at : List Row → List ℕ → ℕ → Word
text_at texts bytes t = word_of_row bytes (text_row texts t)

-- the layout of plan i, among the first n plan records
abbrev pub layout : List Row → ℕ → List Row → List ℕ → ℕ → Plan
layout plans n texts bytes i = layout_at (text_at texts bytes) (arena plans n) i

-- each text lies among the bytes
pub record InBytes (texts : List Row) (bytes : List ℕ) : Type 0 where
  pub within : (t : ℕ) → t < length texts → byte_start (text_row texts t) + byte_length (text_row texts t) ≤ length bytes

-- the first n records name earlier records, and texts that are there; the root is one of them
pub record Planned (plans : List Row) (n : ℕ) (texts : List Row) (root : ℕ) : Type 0 where
  pub lent : n ≤ length plans
  pub few : n < 2 ^ 32
  pub ranked : Ranked (length texts) (arena plans n)
  pub rooted : root < n
