-- The same over what the code has: sizes and limits, an answer and the shared record as structs.
use Rattle.std.specs.Prelude.{ℕ, min}
use Rattle.stats.specs.declared.SolveStats.{SolveStats}
use Rattle.solve_workspace.specs.declared.Bounds.{Bounds}
use Rattle.render.specs.Rendered.{Rendered, counts_of}
use Rattle.desks.specs.declared.Desks.{Desks}
use Rattle.desks.specs.declared.DeskAnswer.{DeskAnswer}
use Rattle.desks.specs.declared.SharedRecord.{SharedRecord}
use Rattle.desks.specs.Desks.{remaining, charged}

abbrev pub within : Desks → ℕ → Bounds → Bounds
within D d b = record {
  stack = b.stack;
  memo = b.memo;
  kept = b.kept;
  frontier = b.frontier;
  plans = b.plans;
  visit = b.visit;
  depth = b.depth;
  output = b.output;
  spans = b.spans;
  work_limit = min b.work_limit (remaining D d);
  visit_limit = b.visit_limit;
}

abbrev pub work_in : Rendered → ℕ
work_in a = (counts_of a).work_items

abbrev pub charging : Rendered → ℕ → Desks → DeskAnswer
charging a d D = record { answer = a; desks = charged D d (work_in a) }

abbrev pub settled : SharedRecord → ℕ → SolveStats → SharedRecord
settled r d k = record { stats = k; desks = charged r.desks d k.work_items }
