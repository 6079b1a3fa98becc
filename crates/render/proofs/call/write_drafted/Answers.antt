use Rattle.render.proofs.Answered.{err_is}
use Rattle.render.proofs.Renders.{refused_rendering, written_rendering}
use Rattle.render.proofs.call.write_drafted.Goals as goal

pub write_page-requires : goal.write_page-requires
write_page-requires c = (c.requires.drawn _ c.in_ok-d.was, c.requires.lent _ c.in_ok-d.was)

pub returns-in_err-d : goal.returns-in_err-d
returns-in_err-d c = λ file o l h. refused_rendering c.args.r h c.in_err-d.was _ _ c.from_residual.result (err_is c.from_residual.ensures.1)

-- must-fail/byte_on_refusal.edit answers what its own line asks in these two lines,
-- so that what fails is that output is unaltered.

pub returns : goal.returns
returns c = λ file o l h. written_rendering c.args.r h c.in_ok-d.was _ _ _ _ c.write_page.auto.output c.write_page.auto.spans c.write_page.result c.write_page.ensures.0 c.write_page.ensures.1
