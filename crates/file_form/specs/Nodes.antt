-- The node records (document 01, "Prepared file"): a map byte, a kind byte, then the fields whose bits stand.
use Rattle.std.specs.Prelude.{ℕ, zero, suc, ◌/◌, ◌%◌, List, [], ◌∷◌, ◌++◌, Bool}
use Rattle.file_fields.specs.declared.Step.{Step}
use Rattle.file_fields.specs.Fields.{pick, after, refused, bit, byte_at, field_at, number_at}
use Rattle.file_form.specs.declared.nodes.Node.{Node}
use Rattle.file_form.specs.Kinds.{map_right, pair_right}

-- a byte that is right, or form (3)
unfoldable pub checked : Bool → Step → Step
checked ok f = after f (pick ok f (refused 3 f.at))

unfoldable pub map_at : List ℕ → Step → Step
map_at s p = checked (map_right (byte_at s p).value) (byte_at s p)

unfoldable pub kind_at : List ℕ → ℕ → Step → Step
kind_at s m p = checked (pair_right m (byte_at s p).value) (byte_at s p)

module _ (s : List ℕ) (p : Step) where
  unfoldable pub n_map : Step
  n_map = map_at s p

  unfoldable pub n_kind : Step
  n_kind = kind_at s n_map.value n_map

  unfoldable pub n_first : Step
  n_first = field_at s (bit n_map.value 1) n_kind

  unfoldable pub n_second : Step
  n_second = field_at s (bit n_map.value 2) n_first

  unfoldable pub n_flat : Step
  n_flat = number_at s (bit n_map.value 4) n_second

  unfoldable pub n_start : Step
  n_start = field_at s (bit n_map.value 8) n_flat

  unfoldable pub n_length : Step
  n_length = field_at s (bit n_map.value 16) n_start

  unfoldable pub n_skipped : Step
  n_skipped = field_at s (bit n_map.value 32) n_length

  -- the node's row, and the step after its record
  unfoldable pub node_at : Node
  node_at = record {
    row =
        n_kind.value ∷ n_first.value ∷ n_second.value ∷ n_map.value / 4 % 2 ∷ n_flat.value ∷ n_start.value ∷ n_length.value ∷ n_skipped.value ∷ [];
    next = n_skipped;
  }

-- the step after the first k node records from the step p
unfoldable pub after_nodes : List ℕ → Step → ℕ → Step
after_nodes s p zero = p
after_nodes s p (suc k) = (node_at s (after_nodes s p k)).next

-- the rows of the first k nodes
unfoldable pub read_node_rows : List ℕ → Step → ℕ → List (List ℕ)
read_node_rows s p zero = []
read_node_rows s p (suc k) = read_node_rows s p k ++ ((node_at s (after_nodes s p k)).row ∷ [])
