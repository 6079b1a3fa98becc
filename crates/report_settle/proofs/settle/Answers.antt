use Rattle.report_settle.proofs.Altering.{settling_in, settled_refused, settled_paged}
use Rattle.report_settle.proofs.settle.Goals as goal

pub returns-in-Err : goal.returns-in-Err
returns-in-Err c = settled_refused c.requires c.in-Err.refusal c.in-Err.is c.refused_step.result c.refused_step.ensures

pub settle_page-requires : goal.settle_page-requires
settle_page-requires c = settling_in c.requires c.in-Ok.page c.in-Ok.is

pub returns-in-Ok : goal.returns-in-Ok
returns-in-Ok c = settled_paged c.requires c.in-Ok.page c.in-Ok.is c.settle_page.ensures
