use native.Mathlib.Omega.{arith}
use Rattle.file_utf8.proofs.Laws.{begin_ascii, begin_ill, begin_first}
use Rattle.file_utf8.proofs.begin.Goals as goal

pub returns-then-a-lt128 : goal.returns-then-a-lt128
returns-then-a-lt128 c = begin_ascii _ (omega arith)

pub returns-then-left-eq0 : goal.returns-then-left-eq0
returns-then-left-eq0 c = begin_ill _ _ (omega arith) c.more-left.ensures c.if-left-eq0.true

pub returns : goal.returns
returns c = begin_first _ _ _ _ (omega arith) c.more-left.ensures c.if-left-eq0.false c.low.ensures c.high.ensures
