use native.Mathlib.Omega.{arith}
use Rattle.page_lines.proofs.Laws.{and_then, from_start}
use Rattle.page_lines.specs.Lines.{refused_line}
use Rattle.page_lines.proofs.refused_line.Goals as goal

pub returns : goal.returns
unfolding refused_line
returns c = from_start (omega arith) (and_then (and_then c.put_text-named.ensures c.put_number-numbered.ensures.0) c.put_text.ensures)
