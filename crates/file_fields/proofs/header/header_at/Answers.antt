use Rattle.file_fields.specs.Header.{header_at, h_map, h_nodes, h_edges, h_texts, h_annotations, h_choices, h_root, h_space}
use Rattle.file_fields.proofs.header.header_at.Goals as goal

pub returns : goal.returns
unfolding header_at h_map h_nodes h_edges h_texts h_annotations h_choices h_root h_space
returns c = rw (c.field_at-space.ensures, c.field_at-root.ensures, c.count_at-choices.ensures, c.count_at-annotations.ensures, c.count_at-texts.ensures, c.count_at-edges.ensures, c.count_at-nodes.ensures, c.formed-map.ensures, c.byte_at.ensures)
