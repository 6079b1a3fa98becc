use Rattle.std.proofs.Common.{ℕ, ◌<◌, length}
use Rattle.memo.specs.Hash.{hash_of}
use Rattle.memo.specs.Index.{place, Passed}
use Rattle.memo.proofs.find.Given as goal

abbrev pub invariant-loop-t : goal.invariant-loop-t
invariant-loop-t l = (j : ℕ) → j < l.t → Passed l.index l.entries l.count l.key (place (hash_of l.key) j (length l.index))
