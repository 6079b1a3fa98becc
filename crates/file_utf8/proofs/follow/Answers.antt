use native.Mathlib.Omega.{arith}
use Rattle.file_utf8.proofs.Laws.{begun, next_low, next_high, next_in}
use Rattle.file_utf8.proofs.follow.Goals as goal
use Rattle.file_utf8.proofs.follow.Goals.{then-b-w-via-then-b-w, then-b-w-via-else-b-w+then-w-b}

pub returns-then-w-eq0 : goal.returns-then-w-eq0
returns-then-w-eq0 c = begun _ _ _ c.if-w-eq0.true c.begin.ensures

pub returns-then-b-w : goal.returns-then-b-w
returns-then-b-w c =
    elim c.then-b-w.branch [
      | then-b-w-via-then-b-w w ↦ next_low _ _ c.if-w-eq0.false (omega arith)
      | then-b-w-via-else-b-w+then-w-b w ↦ next_high _ _ c.if-w-eq0.false (omega arith) (omega arith)
    ]

pub returns : goal.returns
returns c = next_in _ _ c.if-w-eq0.false (omega arith) (omega arith)
