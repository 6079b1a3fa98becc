use native.Mathlib.Omega.{arith}
use Rattle.file_encode.specs.Trips.{tables_right}
use Rattle.file_put.proofs.Laws.{tables_put}
use Rattle.file_put.proofs.put_tables.Goals as goal

pub overflow_cast-n : goal.overflow_cast-n
overflow_cast-n c =
    let g = tables_right _ c.requires.space_value in
    omega (arith, g.within.nodes_high)

pub overflow_cast-e : goal.overflow_cast-e
overflow_cast-e c =
    let g = tables_right _ c.requires.space_value in
    omega (arith, g.within.edges_high)

pub overflow_cast-x : goal.overflow_cast-x
overflow_cast-x c =
    let g = tables_right _ c.requires.space_value in
    omega (arith, g.within.texts_high)

pub overflow_cast-c : goal.overflow_cast-c
overflow_cast-c c =
    let g = tables_right _ c.requires.space_value in
    omega (arith, g.within.choices_high)

pub put_nodes-q-requires : goal.put_nodes-q-requires
put_nodes-q-requires c =
    let g = tables_right _ c.requires.space_value in
    (omega (arith, c.put_header-p.ensures.1), (g.within.nodes_high, g.nodes))

pub put_numbers-r-requires : goal.put_numbers-r-requires
put_numbers-r-requires c =
    let g = tables_right _ c.requires.space_value in
    (omega (arith, c.put_header-p.ensures.1, c.put_nodes-q.ensures.1, g.within.nodes_high), g.within.edges_high)

pub put_numbers-s-requires : goal.put_numbers-s-requires
put_numbers-s-requires c =
    let g = tables_right _ c.requires.space_value in
    (omega (arith, c.put_header-p.ensures.1, c.put_nodes-q.ensures.1, c.put_numbers-r.ensures.1, g.within.nodes_high, g.within.edges_high), g.within.choices_high)

pub put_texts-requires : goal.put_texts-requires
put_texts-requires c =
    let g = tables_right _ c.requires.space_value in
    (omega (arith, c.put_header-p.ensures.1, c.put_nodes-q.ensures.1, c.put_numbers-r.ensures.1, c.put_numbers-s.ensures.1, g.within.nodes_high, g.within.edges_high, g.within.choices_high), (g.within.texts_high, (g.texts, c.requires.bytes_len)))

pub returns : goal.returns
returns c =
    let a = c.args in
    let g = tables_right _ c.requires.space_value in
    tables_put a.nodes.now a.edges.now a.choices.now a.texts.now a.bytes.now a.annotations a.root a.space c.put_header-p.ensures c.put_nodes-q.ensures c.put_numbers-r.ensures c.put_numbers-s.ensures c.put_texts.ensures g c.requires.bytes_len
