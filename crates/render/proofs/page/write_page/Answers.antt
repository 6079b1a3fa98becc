use mathlib.Core.Path.{refl}
use Rattle.render.proofs.Halves.{drawn_passes}
use Rattle.render.proofs.Pages.{lent_at, passes_at}
use Rattle.render.proofs.page.write_page.Goals as goal

pub write-requires : goal.write-requires
write-requires c =
    let pre = c.requires in
    (lent_at c.args.b c.capacity_of.result c.capacity_of.ensures.0 pre.1, pre.0.planned, pre.0.inside, passes_at c.args.b c.capacity_of.result c.capacity_of.ensures.0 (drawn_passes pre.0))

pub returns : goal.returns
returns c = (rw c.with_visits.ensures refl, c.write.ensures)
