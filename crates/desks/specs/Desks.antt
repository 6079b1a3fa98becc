-- Work counted by desk (document 02, change 8): what a desk may still do, and what it has done.
use Rattle.std.specs.Prelude.{Bool, true, false, cond, ℕ, ◌+◌, ◌-◌, min, ltb, get_or, set}
use Rattle.machine.specs.Events.{Bounds}
use Rattle.machine.specs.Answer.{Answer}
use Rattle.machine.specs.Balance.{counts_in}
use Rattle.desks.specs.declared.Desks.{Desks}

-- the desks are 0 to 7
abbrev pub last_desk : ℕ
last_desk = 7

-- "the desk's remaining allowance": none where more is spent than allowed
abbrev pub remaining : Desks → ℕ → ℕ
remaining D d = get_or D.allowance d 0 - get_or D.spent d 0

-- the same sizes and limits, with at most so much work
abbrev pub at_most : ℕ → Bounds → Bounds
at_most n b = record {
  stack = b.stack;
  memo = b.memo;
  kept = b.kept;
  frontier = b.frontier;
  plans = b.plans;
  visit = b.visit;
  depth = b.depth;
  output = b.output;
  spans = b.spans;
  work_limit = min b.work_limit n;
  visit_limit = b.visit_limit;
}

-- "the lesser of the desk's remaining allowance and that limit"
abbrev pub allowed : Desks → ℕ → Bounds → Bounds
allowed D d b = at_most (remaining D d) b

-- "a call adds its work .. to its own desk's count and to no other"; no allowance is altered
abbrev pub charged : Desks → ℕ → ℕ → Desks
charged D d w = record { allowance = D.allowance; spent = set D.spent d (get_or D.spent d 0 + w) }

-- the work of an answer, on refusals too
abbrev pub work : Answer → ℕ
work a = (counts_in a).work_items

-- 1 (order) comes first, then 28: a desk above 7; 0 is that a call may go on
abbrev pub gate_number : Bool → ℕ → ℕ
gate_number false d = 1
gate_number true d = cond (ltb last_desk d) 28 0
