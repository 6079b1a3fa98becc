use Rattle.page_text.proofs.Laws.{shown}
use Rattle.page_text.proofs.print_file.Goals as goal

pub returns : goal.returns
returns c = shown c.render_sized-r.ensures.rendering c.page_bounds-b.ensures c.render_sized-r.ensures.sized c.render_sized-r.auto.spans c.print_answer.ensures
