use mathlib.Core.Path.{refl}
use Rattle.render.proofs.Renders.{writable}
use Rattle.render.proofs.call.render_core.Goals as goal

pub write_drafted-requires : goal.write_drafted-requires
write_drafted-requires c = writable c.render_plan-r.result c.render_plan-r.ensures c.visit-1.given refl refl refl

pub returns : goal.returns
returns c = c.write_drafted.ensures _ _ _ c.render_plan-r.ensures.half
