-- What a byte string is, and what `read` promises (document 01, "Prepared file", "Calls").
use Rattle.std.specs.Prelude.{ℕ, ◌≤◌, ◌≡◌, List, Result, Ok, Err}
use Rattle.file_form.specs.Form.{form_fault, tables_of, counts_of, Holds}
use Rattle.file_checks.specs.Judged.{Judged}
use Rattle.file_form.specs.declared.fill.Counts.{Counts}
use Rattle.refusals.specs.declared.Refusal.{Refusal}
use Rattle.refusals.specs.declared.Refusal.TheVariants.{Order}
use Rattle.refusals.specs.Numbers.{number_of}

-- what `read` answers: the counts of a file that is accepted, or its refusal
abbrev pub Answer : Type 0
Answer = Result Counts Refusal

-- a byte string is ill-formed (2 to 5, the first in order), or its tables are refused by the first of 6 to 10, or it is accepted
pub data Means (s : List ℕ) : Answer → Type 0 where
  ill : (r : Refusal) → form_fault s ≡ number_of r → Means s (Err r)
  wrong : (r : Refusal) → form_fault s ≡ 0 → Judged (tables_of s) (number_of r) → Means s (Err r)
  right : form_fault s ≡ 0 → Judged (tables_of s) 0 → Means s (Ok (counts_of s))

-- each table is lent at its limit
pub record TablesLent (nodes edges choices texts bytes : ℕ) : Type 0 where
  pub nodes_lent : 4096 ≤ nodes
  pub edges_lent : 16384 ≤ edges
  pub choices_lent : 16384 ≤ choices
  pub texts_lent : 4096 ≤ texts
  pub bytes_lent : 65536 ≤ bytes

-- the answer to a file s, with lent tables of these lengths, and the tables at exit: a table lent shorter than its limit is 1, before everything;
-- else the answer is what s means; after an acceptance the tables hold exactly those of s up to the counts, after a refusal anything
pub data Reads (s : List ℕ) (lent : Type 0) (nodes : List (List ℕ)) (edges choices : List ℕ) (texts : List (List ℕ)) (bytes : List ℕ) : Answer → Type 0 where
  order : (lent → ⊥) → Reads s lent nodes edges choices texts bytes (Err Order)
  refused : (r : Refusal) → lent → Means s (Err r) → Reads s lent nodes edges choices texts bytes (Err r)
  accepted :
      lent
      → Means s (Ok (counts_of s))
      → Holds (tables_of s) (counts_of s) nodes edges choices texts bytes
      → Reads s lent nodes edges choices texts bytes (Ok (counts_of s))
