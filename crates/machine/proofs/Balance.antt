-- At every stop and at the end, work = hits + misses + generated: that it is so.
use Rattle.std.specs.Prelude.{refl, Bool, true, false, cond}
use Rattle.std.proofs.Common.{arith}
use Rattle.layout.specs.Rules.{Rules}
use Rattle.machine.specs.Events.{Bounds, Counts, no_counts, passes, counted, bare, why, needed, Prog, ret, emit, Out, done, stop, run}
use Rattle.machine.specs.Events.{Event, Need, Within, Hit, Miss, Generated, Visit, Pruned, Peak, Entries, PlanNodes, Never}
use Rattle.machine.specs.Model.{Prepared}
use Rattle.machine.specs.Materializer.{Rendered, render}
use Rattle.machine.specs.Answer.{answer, answer_of}
use Rattle.machine.specs.Balance.{Balanced, counts_of, counts_in}

balanced_event : (k : Counts) (e : Event) → Balanced k → Balanced (counted k e)
balanced_event k (Need x n) h = record { sum = h.sum }
balanced_event k (Within r n) h = h
balanced_event k Hit h = record { sum = omega (arith, h.sum) }
balanced_event k Miss h = record { sum = omega (arith, h.sum) }
balanced_event k Generated h = record { sum = omega (arith, h.sum) }
balanced_event k Visit h = record { sum = h.sum }
balanced_event k (Pruned n) h = record { sum = h.sum }
balanced_event k (Peak n) h = record { sum = h.sum }
balanced_event k (Entries n) h = record { sum = h.sum }
balanced_event k (PlanNodes n) h = record { sum = h.sum }
balanced_event k Never h = h

pub balanced_run : {A : Type 0} (b : Bounds) (k : Counts) (m : Prog A) → Balanced k → Balanced (counts_of (run b k m))
balanced_run b k (ret a) h = h
balanced_run b k (emit e p) h = go (passes b k e) (balanced_run b (counted k e) p (balanced_event k e h))
  where
    go : (t : Bool) → Balanced (counts_of (run b (counted k e) p)) → Balanced (counts_of (cond t (run b (counted k e) p) (stop (why e) (needed e) (bare k))))
    go true q = q
    go false q = record { sum = h.sum }

pub balanced_answer : (R : Rules) (P : Prepared) (b : Bounds) → Balanced (counts_in (answer R P b))
unfolding answer
balanced_answer R P b = go (run b no_counts (render R P)) (balanced_run b no_counts (render R P) (record { sum = refl }))
  where
    go : (o : Out Rendered) → Balanced (counts_of o) → Balanced (counts_in (answer_of o))
    go (done k a) h = h
    go (stop w n k) h = h
