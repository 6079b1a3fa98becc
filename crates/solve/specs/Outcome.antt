-- What the answer of `solve` says, as the end of a run of the machine.
use Rattle.std.specs.Prelude.{Result, Ok, Err, List, [], ◌∷◌, map, ℕ, ◌≤◌, ◌<◌, ◌^◌, length}
use Rattle.cost.specs.Value.{value}
use Rattle.stats.specs.declared.SolveStats.{SolveStats}
use Rattle.plan.specs.Arena.{arena}
use Rattle.plan.specs.Layouts.{Ranked}
use Rattle.machine.specs.Events.{Needs, with_needs, Out, done, stop}
use Rattle.machine.specs.Model.{Candidate, no_candidate}
use Rattle.machine.specs.Solve.{Solved, least_key}
use Rattle.solve_workspace.specs.declared.Registers.{Registers}
use Rattle.solve_workspace.specs.Meets.{tally, needs_in, reason}
use Rattle.solve_workspace.specs.Rows.{Row, low, node_of}
use Rattle.solve.specs.declared.SolverNeeds.{SolverNeeds}
use Rattle.solve.specs.declared.SolvedCore.{SolvedCore}
use Rattle.solve.specs.declared.Unsolved.{Unsolved}

-- what is found, or why not
abbrev pub Solution : Type 0
Solution = Result SolvedCore Unsolved

-- the plan that is chosen, its cost, and the plans in the rows
abbrev pub core : SolvedCore → List Row → Solved
core c plans = record { root = c.root.0; cost = value c.cost; plans = map node_of (arena plans c.plans) }

-- the machine's needs then
abbrev pub solver_needs : SolverNeeds → Needs
solver_needs q = record { stack = q.stack; memo = q.memo; kept = q.kept; frontier = q.frontier; plans = q.plans; visit = 0; depth = 0; output = 0; spans = 0 }

abbrev pub outcome : Solution → List Row → Out Solved
outcome (Ok c) plans = done (with_needs (tally c.stats) (solver_needs c.needs)) (core c plans)
outcome (Err u) plans = stop (reason u.halt.why) u.halt.needed (tally u.stats)

-- the counts with so many plans
abbrev pub with_nodes : SolveStats → ℕ → SolveStats
with_nodes t n = record {
  work_items = t.work_items;
  fit_checks = t.fit_checks;
  memo_hits = t.memo_hits;
  memo_misses = t.memo_misses;
  candidates_generated = t.candidates_generated;
  candidates_pruned = t.candidates_pruned;
  peak_frontier = t.peak_frontier;
  memo_entries = t.memo_entries;
  plan_nodes = n;
  visits = t.visits;
}

-- the counts without fit checks, which are not the solver's
abbrev pub unfitted : SolveStats → SolveStats
unfitted t = record {
  work_items = t.work_items;
  fit_checks = 0;
  memo_hits = t.memo_hits;
  memo_misses = t.memo_misses;
  candidates_generated = t.candidates_generated;
  candidates_pruned = t.candidates_pruned;
  peak_frontier = t.peak_frontier;
  memo_entries = t.memo_entries;
  plan_nodes = t.plan_nodes;
  visits = t.visits;
}

-- the counts that it tells
abbrev pub stats_in : Solution → SolveStats
stats_in (Ok c) = c.stats
stats_in (Err u) = u.stats

-- what the solver needed, in 32 bits each
abbrev pub needs_low : Registers → SolverNeeds
needs_low s = record { stack = low (needs_in s).stack; memo = low (needs_in s).memo; kept = low (needs_in s).kept; frontier = low (needs_in s).frontier; plans = low (needs_in s).plans }

-- the first least of candidates by cost and precedence
abbrev pub least_of : List Candidate → Candidate
least_of [] = no_candidate
least_of (c ∷ cs) = least_key c cs

-- the plans in the rows: each names earlier ones, and texts below t; and the chosen one is one of them
pub record Arranged (t : ℕ) (c : SolvedCore) (plans : List Row) : Type 0 where
  pub lent : c.plans ≤ length plans
  pub few : c.plans < 2 ^ 32
  pub ranked : Ranked t (arena plans c.plans)
  pub rooted : c.root.0 < c.plans

abbrev pub ArrangedAt : ℕ → Solution → List Row → Type 0
ArrangedAt t (Ok c) plans = Arranged t c plans
ArrangedAt t (Err u) plans = Unit {0}

pub record Plans (t : ℕ) (a : Solution) (plans : List Row) : Type 0 where
  pub by : ArrangedAt t a plans
