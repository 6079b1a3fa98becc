use mathlib.Core.Path.{refl}
use Rattle.gannozhi.proofs.Shifted.{shifted}
use Rattle.gannozhi.proofs.shift.gannozhi_file_all.Goals as goal

pub returns : goal.returns
returns c = shifted c.args.desk c.args.desks.now c.args.counts.now _ _ _ _ _ _ _ _ _ c.file_all-r.result c.options_of-o.ensures c.bounds_of-b.ensures c.desks_of-d.ensures c.counts_of-k.ensures c.file_all-r.ensures c.desk_words.ensures c.counts_words.ensures refl
