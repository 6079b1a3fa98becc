use native.Mathlib.Omega.{arith}
use Rattle.page_lines.proofs.Laws.{and_then, from_start}
use Rattle.page_lines.specs.Lines.{page_text}
use Rattle.page_lines.proofs.page_text.Goals as goal

pub returns : goal.returns
unfolding page_text
returns c = from_start (omega arith) (and_then (and_then c.page_line-lined.ensures.0 c.put_text-paged.ensures) c.put_text.ensures)
