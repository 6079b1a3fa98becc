-- The tables that a prepared file means (document 01, "Prepared file"), as they stand in lent memory: lists of rows and of numbers.
use Rattle.std.specs.Prelude.{◌≡◌, Bool, true, false, List, [], ℕ, eqb, get_or}
use Rattle.std.proofs.Math.Option.{Option, none, some}

pub record Tables : Type 0 where
  -- a row for each node: kind, first, second, flat mark (1 where the flat node is present), flat node, choice start, choice length, skipped
  pub nodes : List (List ℕ)
  pub edges : List ℕ
  -- choice edges
  pub choices : List ℕ
  -- a row for each text: display width, byte length, and where its bytes start among the bytes of all texts
  pub texts : List (List ℕ)
  -- the bytes of all texts, one after the other
  pub bytes : List ℕ
  -- how many annotations there are
  pub annotations : ℕ
  pub root : ℕ
  -- the space text
  pub space : ℕ

-- tables by their parts
abbrev pub tables : List (List ℕ) → List ℕ → List ℕ → List (List ℕ) → List ℕ → ℕ → ℕ → ℕ → Tables
tables nodes edges choices texts bytes annotations root space =
    record {
      nodes = nodes;
      edges = edges;
      choices = choices;
      texts = texts;
      bytes = bytes;
      annotations = annotations;
      root = root;
      space = space;
    }

-- the fields of a node's row
abbrev pub kind : List ℕ → ℕ
kind row = get_or row 0 0

abbrev pub first : List ℕ → ℕ
first row = get_or row 1 0

abbrev pub second : List ℕ → ℕ
second row = get_or row 2 0

abbrev pub flat_mark : List ℕ → ℕ
flat_mark row = get_or row 3 0

abbrev pub flat_word : List ℕ → ℕ
flat_word row = get_or row 4 0

abbrev pub if_marked : Bool → ℕ → Option ℕ
if_marked true n = some n
if_marked false n = none

-- the flat node, where it is present
abbrev pub flat : List ℕ → Option ℕ
flat row = if_marked (eqb (flat_mark row) 1) (flat_word row)

abbrev pub choice_start : List ℕ → ℕ
choice_start row = get_or row 5 0

abbrev pub choice_length : List ℕ → ℕ
choice_length row = get_or row 6 0

abbrev pub skipped : List ℕ → ℕ
skipped row = get_or row 7 0

-- the fields of a text's row
abbrev pub width : List ℕ → ℕ
width row = get_or row 0 0

abbrev pub byte_length : List ℕ → ℕ
byte_length row = get_or row 1 0

abbrev pub byte_start : List ℕ → ℕ
byte_start row = get_or row 2 0

-- a row with the words of another, read past its end as zeros
pub record RowIs (r row : List ℕ) : Type 0 where
  pub is : (j : ℕ) → get_or r j 0 ≡ get_or row j 0

-- the row of a node, of a text
abbrev pub node_row : Tables → ℕ → List ℕ
node_row t n = get_or t.nodes n []

abbrev pub text_row : Tables → ℕ → List ℕ
text_row t n = get_or t.texts n []
