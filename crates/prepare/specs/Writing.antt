-- What `write` promises (document 01, "Prepared file": the writer).
use Rattle.std.specs.Prelude.{ℕ, ◌≤◌, ◌<◌, ◌≡◌, List, ◌++◌, length, take, drop, Result, Ok, Err}
use Rattle.file_tables.specs.Tables.{Tables, tables}
use Rattle.file_form.specs.declared.fill.Counts.{Counts}
use Rattle.file_encode.specs.Encode.{encode, lengths, Sized}
use Rattle.file_encode.specs.Faults.{tables_fault}
use Rattle.file_checks.specs.Judged.{Judged}
use Rattle.prepare.specs.declared.write.FileCounts.{FileCounts}
use Rattle.prepare.specs.declared.write.Unwritten.{Unwritten}
use Rattle.refusals.specs.declared.Refusal.{Refusal}
use Rattle.refusals.specs.declared.Refusal.TheVariants.{Order, Output}
use Rattle.refusals.specs.Numbers.{number_of}

-- what `write` answers: how many bytes were written, or the refusal
abbrev pub Outcome : Type 0
Outcome = Result ℕ Unwritten

abbrev pub refusing : Refusal → ℕ → Unwritten
refusing r k = record { refusal = r; needed = k }

abbrev pub unwritten : Refusal → ℕ → Outcome
unwritten r k = Err (refusing r k)

-- the counts that a file has are those that were read, but for the number of its text bytes, which is the sum of the lengths
abbrev pub file_counts : Counts → FileCounts
file_counts n = record {
  nodes = n.nodes;
  edges = n.edges;
  choices = n.choices;
  texts = n.texts;
  annotations = n.annotations;
  root = n.root;
  space = n.space;
}

-- the tables that lent memory holds up to their counts, and as many bytes as the texts have together
abbrev pub lent_tables : FileCounts → List (List ℕ) → List ℕ → List ℕ → List (List ℕ) → List ℕ → Tables
lent_tables n nodes edges choices texts bytes =
    tables (take n.nodes nodes) (take n.edges edges) (take n.choices choices) (take n.texts texts) (take (lengths (take n.texts texts)) bytes)
    n.annotations n.root.0 n.space.0

-- each table is lent at its count
pub record LentAt (n : FileCounts) (nodes : List (List ℕ)) (edges choices : List ℕ) (texts : List (List ℕ)) (bytes : List ℕ) : Type 0 where
  pub nodes_lent : n.nodes ≤ length nodes
  pub edges_lent : n.edges ≤ length edges
  pub choices_lent : n.choices ≤ length choices
  pub texts_lent : n.texts ≤ length texts
  pub bytes_lent : lengths (take n.texts texts) ≤ length bytes

-- tables that are cut at their counts
pub record Cut (n : FileCounts) (nodes : List (List ℕ)) (edges choices : List ℕ) (texts : List (List ℕ)) : Type 0 where
  pub nodes_cut : length nodes ≡ n.nodes
  pub edges_cut : length edges ≡ n.edges
  pub choices_cut : length choices ≡ n.choices
  pub texts_cut : length texts ≡ n.texts
  pub texts_few : n.texts < 4294967296

-- the outcome for tables t, and the lent bytes before and after: 1 where a table is lent shorter than its count; then 3 and 4, then 6 to 10,
-- as the reader refuses their file; then 20 with the file's length where the lent bytes are too few. A refusal alters no byte.
-- Otherwise t is as tables stand in memory, and the bytes begin with the file of t and are unaltered past it
pub data Writes (t : Tables) (lent : Type 0) (out out' : List ℕ) : Outcome → Type 0 where
  order : (lent → ⊥) → out' ≡ out → Writes t lent out out' (unwritten Order 0)
  ill : (r : Refusal) → lent → tables_fault t ≡ number_of r → out' ≡ out → Writes t lent out out' (unwritten r 0)
  wrong : (r : Refusal) → lent → tables_fault t ≡ 0 → Judged t (number_of r) → out' ≡ out → Writes t lent out out' (unwritten r 0)
  room :
      lent
      → tables_fault t ≡ 0
      → Judged t 0
      → length out < length (encode t)
      → out' ≡ out
      → Writes t lent out out' (unwritten Output (length (encode t)))
  written :
      lent
      → Sized t
      → tables_fault t ≡ 0
      → Judged t 0
      → length (encode t) ≤ length out
      → out' ≡ encode t ++ drop (length (encode t)) out
      → Writes t lent out out' (Ok (length (encode t)))
