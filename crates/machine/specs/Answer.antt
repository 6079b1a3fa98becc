-- The answer of solver and materializer on an accepted file's tables: a page or a refusal, by document 01's numbers.
use Rattle.std.specs.Prelude.{ℕ}
use Rattle.layout.specs.Rules.{Rules}
use Rattle.machine.specs.Events.{Bounds, Counts, no_counts, number, Out, done, stop, run}
use Rattle.machine.specs.Model.{Prepared}
use Rattle.machine.specs.Materializer.{Rendered, render}

pub data Answer : Type 0 where
  paged : Rendered → Counts → Answer
  refused : ℕ → ℕ → Counts → Answer  -- number, needed size, counts

abbrev pub answer_of : Out Rendered → Answer
answer_of (done k page) = paged page k
answer_of (stop why needed k) = refused (number why) needed k

-- counts are from 0 at the start of a call
unfoldable pub answer : Rules → Prepared → Bounds → Answer
answer R P b = answer_of (run b no_counts (render R P))
