use Rattle.render.proofs.page.page_needs.Goals as goal

pub returns : goal.returns
returns c = rw (c.narrow.ensures, c.narrow-2.ensures, c.narrow-3.ensures, c.narrow-4.ensures)
