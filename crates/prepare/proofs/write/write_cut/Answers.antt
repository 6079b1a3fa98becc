use mathlib.Core.Path.{refl, sym, ◌∙◌}
use native.Mathlib.Omega.{arith}
use lib.Seq.{length-take-le}
use Rattle.prepare.specs.Writing.{order}
use Rattle.prepare.proofs.Written.{cut_is}
use Rattle.prepare.proofs.write.write_cut.Goals as goal

pub returns-then-bytes-total : goal.returns-then-bytes-total
returns-then-bytes-total c = rw c.into.ensures (order (λ l. omega (arith, l, c.if-bytes-total.true, c.text_total-total.ensures)) refl)

pub slice_bounds-write_tables-end : goal.slice_bounds-write_tables-end
slice_bounds-write_tables-end c = sym (length-take-le c.text_total-total.result c.args.bytes.now c.if-bytes-total.false)

pub write_tables-requires : goal.write_tables-requires
write_tables-requires c = record { cut = c.requires; bytes_len = length-take-le c.text_total-total.result c.args.bytes.now c.if-bytes-total.false ∙ c.text_total-total.ensures }

pub returns : goal.returns
returns c = cut_is _ _ _ _ c.args.bytes.now _ _ _ c.text_total-total.result _ _ _ c.text_total-total.ensures c.if-bytes-total.false c.write_tables.ensures
