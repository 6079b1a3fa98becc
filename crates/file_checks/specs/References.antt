-- Document 01, refusal 6 (reference): a number names nothing, or a range, an empty one too, starts or ends past its table's end.
-- Every node counts, reached or not, and every entry of the edges and the choice edges, used or not. An absent field is the number 0,
-- which must name something too.
use Rattle.std.specs.Prelude.{ℕ, ◌+◌, ◌≤◌, ◌<◌, ◌≡◌, List, [], length, get_or}
use Rattle.std.proofs.Math.Option.{some}
use Rattle.file_tables.specs.Tables.{Tables, kind, first, second, flat, choice_start, choice_length}
use Rattle.file_checks.specs.declared.Lengths.{Lengths}

-- how many there are of each
abbrev pub lengths_of : Tables → Lengths
lengths_of t =
    record {
      nodes = length t.nodes;
      edges = length t.edges;
      choices = length t.choices;
      texts = length t.texts;
      annotations = t.annotations;
    }

-- the children of a node, by its kind
pub data Child (row : List ℕ) : ℕ → Type 0 where
  of_group : kind row ≡ 5 → Child row (first row)
  of_nest : kind row ≡ 7 → Child row (second row)
  of_align : kind row ≡ 8 → Child row (first row)
  preferred : kind row ≡ 9 → Child row (first row)
  alternative : kind row ≡ 9 → Child row (second row)
  of_annotate : kind row ≡ 10 → Child row (second row)
  of_penalty : kind row ≡ 11 → Child row (second row)

-- a Seq or a Fill, whose first and second are the start and the length of its edges
pub data Ranged (row : List ℕ) : Type 0 where
  seq : kind row ≡ 4 → Ranged row
  fill : kind row ≡ 6 → Ranged row

-- what a node's first and second name by its kind
pub record KindNamed (n : Lengths) (row : List ℕ) : Type 0 where
  pub text : kind row ≡ 1 → first row < n.texts
  pub annotation : kind row ≡ 10 → first row < n.annotations
  pub child : (j : ℕ) → Child row j → j < n.nodes
  -- a range that ends within its table starts there too
  pub edge_range : Ranged row → first row + second row ≤ n.edges

-- and its flat node, where it is present, and its choice list, where its length stands
pub record Named (n : Lengths) (row : List ℕ) : Type 0 where
  pub by_kind : KindNamed n row
  pub flat_node : (j : ℕ) → flat row ≡ some j → j < n.nodes
  pub choice_range : (choice_length row ≡ 0 → ⊥) → choice_start row + choice_length row ≤ n.choices

pub record RowsNamed (n : Lengths) (nodes : List (List ℕ)) : Type 0 where
  pub each : (i : ℕ) → i < length nodes → Named n (get_or nodes i [])

-- every number of a list names a node
pub record Numbers (n : ℕ) (numbers : List ℕ) : Type 0 where
  pub below : (k : ℕ) → k < length numbers → get_or numbers k 0 < n

-- all that stands in the tables names something
pub record References (t : Tables) : Type 0 where
  pub root : t.root < length t.nodes
  pub space : t.space < length t.texts
  pub edges : Numbers (length t.nodes) t.edges
  pub choices : Numbers (length t.nodes) t.choices
  pub nodes : RowsNamed (lengths_of t) t.nodes
