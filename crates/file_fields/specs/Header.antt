-- The header (document 01, "Prepared file"): a map byte of seven bits, then nodes, edges, texts, annotations, choice edges, root and space text.
-- Each count is tested at its place, an absent one too: nodes and texts are at least 1.
use Rattle.std.specs.Prelude.{List, ℕ}
use Rattle.file_fields.specs.declared.Step.{Step}
use Rattle.file_fields.specs.declared.header.Header.{Header}
use Rattle.file_fields.specs.Fields.{got, byte_at, field_at, count_at, formed, bit}

module _ (s : List ℕ) where
  unfoldable pub h_map : Step
  h_map = formed 127 (byte_at s (got 0 0))

  unfoldable pub h_nodes : Step
  h_nodes = count_at s (bit h_map.value 1) 1 4096 h_map

  unfoldable pub h_edges : Step
  h_edges = count_at s (bit h_map.value 2) 0 16384 h_nodes

  unfoldable pub h_texts : Step
  h_texts = count_at s (bit h_map.value 4) 1 4096 h_edges

  unfoldable pub h_annotations : Step
  h_annotations = count_at s (bit h_map.value 8) 0 4096 h_texts

  unfoldable pub h_choices : Step
  h_choices = count_at s (bit h_map.value 16) 0 16384 h_annotations

  unfoldable pub h_root : Step
  h_root = field_at s (bit h_map.value 32) h_choices

  unfoldable pub h_space : Step
  h_space = field_at s (bit h_map.value 64) h_root

  unfoldable pub header_at : Header
  header_at = record {
    nodes = h_nodes.value;
    edges = h_edges.value;
    texts = h_texts.value;
    annotations = h_annotations.value;
    choices = h_choices.value;
    root = h_root.value;
    space = h_space.value;
    next = h_space;
  }
