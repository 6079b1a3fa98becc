use Rattle.file_form.specs.Nodes.{node_at, n_map, n_kind, n_first, n_second, n_flat, n_start, n_length, n_skipped}
use Rattle.file_form.proofs.nodes.node_at.Goals as goal

pub returns : goal.returns
unfolding node_at n_map n_kind n_first n_second n_flat n_start n_length n_skipped
returns c = rw (c.field_at-skipped.ensures, c.field_at-len.ensures, c.field_at-start.ensures, c.number_at-flat.ensures, c.field_at-second.ensures, c.field_at-first.ensures, c.kind_at-kind.ensures, c.map_at-map.ensures)
