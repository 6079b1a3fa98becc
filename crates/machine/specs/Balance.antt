-- At every stop and at the end, work = hits + misses + generated (proofs/Balance).
use Rattle.std.specs.Prelude.{◌≡◌, ◌+◌}
use Rattle.machine.specs.Events.{Counts, Out, done, stop}
use Rattle.machine.specs.Answer.{Answer, paged, refused}

pub record Balanced (k : Counts) : Type 0 where
  pub sum : k.work_items ≡ k.memo_hits + k.memo_misses + k.candidates_generated

abbrev pub counts_of : {A : Type 0} → Out A → Counts
counts_of (done k a) = k
counts_of (stop w n k) = k

abbrev pub counts_in : Answer → Counts
counts_in (paged p k) = k
counts_in (refused n m k) = k
