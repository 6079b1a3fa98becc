-- A whole file, field by field (document 01, "Prepared file"): header, nodes, edges, choice edges, texts, and no byte more.
-- For every byte string: the tables that it means, and the first refusal of 2, 3 and 4 in file order, then 5 (0: none).
use Rattle.std.specs.Prelude.{ℕ, ◌≡◌, List, take}
use Rattle.file_fields.specs.declared.Step.{Step}
use Rattle.file_fields.specs.Header.{header_at}
use Rattle.file_tables.specs.Tables.{Tables, tables}
use Rattle.file_form.specs.declared.texts.Run.{Run}
use Rattle.file_form.specs.declared.fill.Counts.{Counts}
use Rattle.file_form.specs.declared.fill.Filled.{Filled}
use Rattle.file_form.specs.Nodes.{after_nodes, read_node_rows}
use Rattle.file_form.specs.Numbers.{after_numbers, numbers, surplus}
use Rattle.file_form.specs.Texts.{after_texts, read_text_rows, text_bytes}

module _ (s : List ℕ) where
  unfoldable pub f_nodes : Step
  f_nodes = after_nodes s (header_at s).next (header_at s).nodes

  unfoldable pub f_edges : Step
  f_edges = after_numbers s f_nodes (header_at s).edges

  unfoldable pub f_choices : Step
  f_choices = after_numbers s f_edges (header_at s).choices

  unfoldable pub f_texts : Run
  f_texts = after_texts s f_choices (header_at s).texts

  unfoldable pub f_end : Step
  f_end = surplus s f_texts.next

  -- the first refusal of 2 to 5, or 0
  unfoldable pub form_fault : ℕ
  form_fault = f_end.fault

  -- the tables that the file means
  unfoldable pub tables_of : Tables
  tables_of = record {
    nodes = read_node_rows s (header_at s).next (header_at s).nodes;
    edges = numbers s f_nodes (header_at s).edges;
    choices = numbers s f_edges (header_at s).choices;
    texts = read_text_rows s f_choices (header_at s).texts;
    bytes = text_bytes s f_choices (header_at s).texts;
    annotations = (header_at s).annotations;
    root = (header_at s).root;
    space = (header_at s).space;
  }

  -- how many of each there are, and the root and the space text
  unfoldable pub counts_of : Counts
  counts_of = record {
    nodes = (header_at s).nodes;
    edges = (header_at s).edges;
    choices = (header_at s).choices;
    texts = (header_at s).texts;
    bytes = f_texts.total;
    annotations = (header_at s).annotations;
    root = record { 0 = (header_at s).root };
    space = record { 0 = (header_at s).space };
  }

-- the tables in lent memory that may be longer: the first rows of each, as many as are counted, and the first `total` bytes
abbrev pub first_tables : Counts → ℕ → List (List ℕ) → List ℕ → List ℕ → List (List ℕ) → List ℕ → Tables
first_tables n total nodes edges choices texts bytes =
    tables (take n.nodes nodes) (take n.edges edges) (take n.choices choices) (take n.texts texts) (take total bytes) n.annotations n.root.0 n.space.0

-- the tables that lent memory holds up to the counts
abbrev pub tables_held : Counts → List (List ℕ) → List ℕ → List ℕ → List (List ℕ) → List ℕ → Tables
tables_held n nodes edges choices texts bytes = first_tables n n.bytes nodes edges choices texts bytes

-- lent memory holds the tables t: up to the counts exactly t, anything past them
pub record Holds (t : Tables) (n : Counts) (nodes : List (List ℕ)) (edges choices : List ℕ) (texts : List (List ℕ)) (bytes : List ℕ) : Type 0 where
  pub node_rows : take n.nodes nodes ≡ t.nodes
  pub edge_list : take n.edges edges ≡ t.edges
  pub choice_list : take n.choices choices ≡ t.choices
  pub text_rows : take n.texts texts ≡ t.texts
  pub byte_list : take n.bytes bytes ≡ t.bytes

-- the file s was read field by field into lent memory
pub record Filling (s : List ℕ) (r : Filled) (nodes : List (List ℕ)) (edges choices : List ℕ) (texts : List (List ℕ)) (bytes : List ℕ) : Type 0 where
  pub counts : r.counts ≡ counts_of s
  pub fault : r.fault ≡ form_fault s
  pub held : Holds (tables_of s) (counts_of s) nodes edges choices texts bytes
