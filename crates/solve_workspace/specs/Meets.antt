-- What the solver's code promises of where it has come to: it is what a program of the machine comes to under the bounds.
use Rattle.std.specs.Prelude.{◌≡◌, ◌+◌, ◌≤◌, ◌<◌, ◌^◌, max}
use Rattle.stats.specs.declared.SolveStats.{SolveStats}
use Rattle.machine.specs.Events.{Bounds as Limits, Counts, no_needs, with_needs, Event, Prog, ret, emit, Out, done, stop, run, Why as Reasons, domain, work_spent, too_small, stack, memo, kept, frontier, plans}
use Rattle.machine.specs.Events.{Needs as Needed}
use Rattle.solve_workspace.specs.declared.Bounds.{Bounds}
use Rattle.solve_workspace.specs.declared.Needs.{Needs}
use Rattle.solve_workspace.specs.declared.Registers.{Registers}
use Rattle.solve_workspace.specs.declared.Why.{Why}
use Rattle.solve_workspace.specs.declared.Why.TheVariants.{Domain, Work, Stack, Memo, Kept, Frontier, Plans}
use Rattle.solve_workspace.specs.declared.Reached.{Reached}
use Rattle.solve_workspace.specs.declared.Reached.TheVariants.{Go, Stop}

-- the machine's bounds
abbrev pub limits : Bounds → Limits
limits b = record {
  stack = b.stack;
  memo = b.memo;
  kept = b.kept;
  frontier = b.frontier;
  plans = b.plans;
  visit = b.visit;
  depth = b.depth;
  output = b.output;
  spans = b.spans;
  work_limit = b.work_limit;
  visit_limit = b.visit_limit;
}

-- the machine's counts: all but the fit checks, which stay 0; without needs
abbrev pub tally : SolveStats → Counts
tally t = record {
  work_items = t.work_items;
  memo_hits = t.memo_hits;
  memo_misses = t.memo_misses;
  candidates_generated = t.candidates_generated;
  candidates_pruned = t.candidates_pruned;
  peak_frontier = t.peak_frontier;
  memo_entries = t.memo_entries;
  plan_nodes = t.plan_nodes;
  visits = t.visits;
  needs = no_needs;
}

-- the machine's needs
abbrev pub needs_told : Needs → Needed
needs_told q = record {
  stack = q.stack;
  memo = q.memo;
  kept = q.kept;
  frontier = q.frontier;
  plans = q.plans;
  visit = q.visit;
  depth = q.depth;
  output = q.output;
  spans = q.spans;
}

-- what the solver has needed so far; the other kinds are the materializer's. The frontier at work has used as many slots as it held at most
abbrev pub needs_in : Registers → Needed
needs_in s = record {
  stack = s.peaks.stack;
  memo = s.peaks.memo;
  kept = s.kept;
  frontier = max s.peaks.frontier s.builder.used;
  plans = s.plans;
  visit = 0;
  depth = 0;
  output = 0;
  spans = 0;
}

abbrev pub counts : Registers → Counts
counts s = with_needs (tally s.stats) (needs_in s)

-- the machine's reasons
abbrev pub reason : Why → Reasons
reason (Domain r) = domain r
reason Work = work_spent
reason Stack = too_small stack
reason Memo = too_small memo
reason Kept = too_small kept
reason Frontier = too_small frontier
reason Plans = too_small plans

-- what the code has reached, as the machine's outcome; f reads the result out of the registers that it leaves. A stop tells no needs
abbrev pub out : {A : Type 0} → Reached → (Registers → A) → Out A
out (Go s) f = done (counts s) (f s)
out (Stop why needed s) f = stop (reason why) needed (tally s.stats)

-- what holds of the registers between the operations
pub record Sound (b : Bounds) (s : Registers) : Type 0 where
  pub hits : s.stats.memo_hits ≤ s.stats.work_items
  pub misses : s.stats.memo_misses ≤ s.stats.work_items
  pub generated : s.stats.candidates_generated ≤ s.stats.work_items
  pub pruned : s.stats.candidates_pruned + s.builder.live ≤ s.stats.candidates_generated
  pub work : s.stats.work_items ≤ b.work_limit
  pub tasks : s.tasks ≤ b.stack
  pub results : s.results ≤ b.stack
  pub pending : s.pending ≤ b.stack
  pub memo : s.memo ≤ b.memo
  pub kept : s.kept ≤ b.kept
  pub plans : s.plans ≤ b.plans
  pub stack : b.stack < 2 ^ 32

abbrev pub SoundAt : Bounds → Reached → Type 0
SoundAt b (Go s) = Sound b s
SoundAt b (Stop why needed s) = Unit {0}

-- the code has reached a, and that is what the program p comes to from the counts k on
pub record Meets {A : Type 0} (b : Bounds) (k : Counts) (p : Prog A) (a : Reached) (f : Registers → A) : Type 0 where
  pub is : run (limits b) k p ≡ out a f
  pub sound : SoundAt b a

-- from the counts k with the program p to do, the code has come to the counts j with q to do
pub record Leads {A : Type 0} (b : Bounds) (k : Counts) (p : Prog A) (j : Counts) (q : Prog A) : Type 0 where
  pub same : run (limits b) k p ≡ run (limits b) j q

-- one event that leaves the state as it is
abbrev pub ticked : {A : Type 0} → Event → A → Prog A
ticked e x = emit e (ret x)
