use native.Mathlib.Omega.{arith}
use Rattle.page_lines.proofs.Laws.{and_then}
use Rattle.page_lines.specs.Lines.{page_line}
use Rattle.page_lines.proofs.page_line.Goals as goal

pub returns : goal.returns
unfolding page_line
returns c = (and_then (and_then (and_then (and_then (and_then c.put_text-named.ensures c.put_spaced-worked.ensures.0) c.put_spaced_halves-charged.ensures.0) c.put_spaced-burdened.ensures.0) c.put_spaced-counted.ensures.0) c.put_text.ensures, omega arith)
