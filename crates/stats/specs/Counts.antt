-- Document 01, "Calls": the counts are those of SolveStats, plus visits. What a counter counts in a record, and the record once it has counted one more.
use Rattle.std.specs.Prelude.{ℕ, ◌+◌}
use Rattle.stats.specs.declared.SolveStats.{SolveStats}
use Rattle.stats.specs.declared.SolveCounter.{SolveCounter}
use Rattle.stats.specs.declared.SolveCounter.TheVariants.{WorkItems, MemoHits, MemoMisses, CandidatesGenerated, CandidatesPruned, Visits}

unfoldable pub counted : SolveStats → SolveCounter → ℕ
counted s WorkItems = s.work_items
counted s MemoHits = s.memo_hits
counted s MemoMisses = s.memo_misses
counted s CandidatesGenerated = s.candidates_generated
counted s CandidatesPruned = s.candidates_pruned
counted s Visits = s.visits

-- a record by its counts, in the order of the struct
abbrev pub counts : ℕ → ℕ → ℕ → ℕ → ℕ → ℕ → ℕ → ℕ → ℕ → ℕ → SolveStats
counts work fit hits misses generated pruned peak entries plans visits =
    record { work_items = work; fit_checks = fit; memo_hits = hits; memo_misses = misses; candidates_generated = generated; candidates_pruned = pruned; peak_frontier = peak; memo_entries = entries; plan_nodes = plans; visits = visits }

-- no counts yet
abbrev pub none_counted : SolveStats
none_counted = counts 0 0 0 0 0 0 0 0 0 0

-- the same record with one more in the counter
unfoldable pub bumped : SolveStats → SolveCounter → SolveStats
bumped s WorkItems = counts (s.work_items + 1) s.fit_checks s.memo_hits s.memo_misses s.candidates_generated s.candidates_pruned s.peak_frontier s.memo_entries s.plan_nodes s.visits
bumped s MemoHits = counts s.work_items s.fit_checks (s.memo_hits + 1) s.memo_misses s.candidates_generated s.candidates_pruned s.peak_frontier s.memo_entries s.plan_nodes s.visits
bumped s MemoMisses = counts s.work_items s.fit_checks s.memo_hits (s.memo_misses + 1) s.candidates_generated s.candidates_pruned s.peak_frontier s.memo_entries s.plan_nodes s.visits
bumped s CandidatesGenerated = counts s.work_items s.fit_checks s.memo_hits s.memo_misses (s.candidates_generated + 1) s.candidates_pruned s.peak_frontier s.memo_entries s.plan_nodes s.visits
bumped s CandidatesPruned = counts s.work_items s.fit_checks s.memo_hits s.memo_misses s.candidates_generated (s.candidates_pruned + 1) s.peak_frontier s.memo_entries s.plan_nodes s.visits
bumped s Visits = counts s.work_items s.fit_checks s.memo_hits s.memo_misses s.candidates_generated s.candidates_pruned s.peak_frontier s.memo_entries s.plan_nodes (s.visits + 1)
