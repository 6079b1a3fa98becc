use native.Mathlib.Omega.{arith}
use Rattle.file_form.proofs.Whole.{limits, run_le, filling}
use Rattle.file_form.proofs.fill.fill.Goals as goal

pub nodes_at-q-requires : goal.nodes_at-q-requires
nodes_at-q-requires c = let l = limits c.args.s.now c.header_at-h.result c.header_at-h.ensures in omega (arith, l.nodes, c.requires.in_bounds)

pub numbers_at-r-requires : goal.numbers_at-r-requires
numbers_at-r-requires c = let l = limits c.args.s.now c.header_at-h.result c.header_at-h.ensures in omega (arith, l.edges, c.requires.in_bounds_2)

pub numbers_at-u-requires : goal.numbers_at-u-requires
numbers_at-u-requires c = let l = limits c.args.s.now c.header_at-h.result c.header_at-h.ensures in omega (arith, l.choices, c.requires.in_bounds_3)

pub texts_at-v-requires : goal.texts_at-v-requires
texts_at-v-requires c = let l = limits c.args.s.now c.header_at-h.result c.header_at-h.ensures in (omega (arith, l.texts, c.requires.in_bounds_4), c.requires.in_bounds_5)

pub overflow_cast-result : goal.overflow_cast-result
overflow_cast-result c = omega (arith, run_le c.args.s.now _ _ c.texts_at-v.result c.texts_at-v.ensures.0)

pub returns : goal.returns
returns c = filling c.args.s.now c.header_at-h.result c.nodes_at-q.result c.numbers_at-r.result c.numbers_at-u.result c.texts_at-v.result c.surplus-w.result _ _ _ _ _
    c.header_at-h.ensures c.nodes_at-q.ensures c.numbers_at-r.ensures c.numbers_at-u.ensures c.texts_at-v.ensures c.surplus-w.ensures
