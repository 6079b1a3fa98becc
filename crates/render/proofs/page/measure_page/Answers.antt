use Rattle.render.proofs.Pages.{visit_at, planned, page_half}
use Rattle.render.proofs.page.measure_page.Goals as goal

pub measure-m-requires : goal.measure-m-requires
measure-m-requires c =
    let pre = c.requires in
    (visit_at c.args.b c.capacity_of.result c.capacity_of.ensures.0 pre.0, c.capacity_of.ensures.1, planned c.args.b c.args.core c.args.plans.now c.args.texts.now c.args.bytes.now pre.1 pre.2 pre.3)

pub returns : goal.returns
returns c =
    let pre = c.requires in
    page_half c.args.b c.args.core c.args.plans.now c.args.texts.now c.args.bytes.now pre.1 pre.2 pre.3 c.capacity_of.result c.capacity_of.ensures.0 c.capacity_of.ensures.1 c.measure-m.result c.measure-m.ensures c.draft_of.result c.draft_of.ensures
