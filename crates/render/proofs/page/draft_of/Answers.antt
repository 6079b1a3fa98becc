use Rattle.render.proofs.Answered.{draft_page, draft_refused}
use Rattle.render.proofs.page.draft_of.Goals as goal

pub returns-in-Ok : goal.returns-in-Ok
returns-in-Ok c = draft_page c.args.core c.args.texts c.args.bytes c.in-Ok.is c.with_visits.ensures c.page_needs.ensures

pub returns-in-Err : goal.returns-in-Err
returns-in-Err c = draft_refused c.args.core c.args.texts c.args.bytes c.in-Err.is c.with_visits-in-Err.ensures c.page_number.ensures
