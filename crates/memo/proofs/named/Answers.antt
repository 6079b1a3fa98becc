use Rattle.std.proofs.Common.{refl, arith}
use Rattle.memo.specs.Entries.{word}
use Rattle.memo.proofs.named.Goals as goal
use Rattle.memo.proofs.named.Goals.{else-k-count-via-then-k-count+else-entries-k, else-k-count-via-else-k-count}

pub returns-then-entries-k : goal.returns-then-entries-k
unfolding word
returns-then-entries-k c = record { live = record { number = c.if-k-count.true; back = c.if-entries-k.true }; same = refl }

pub returns-else-k-count : goal.returns-else-k-count
unfolding word
returns-else-k-count c =
    λ l. elim c.else-k-count.branch [
      | else-k-count-via-then-k-count+else-entries-k w ↦ w.if-entries-k.false l.back
      | else-k-count-via-else-k-count w ↦ omega (arith, l.number)
    ]
