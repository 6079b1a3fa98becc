-- Which word is what in a call's answer, in its settings and in its sizes.
use Rattle.std.specs.Prelude.{Ok, Err, List, [], ◌∷◌, ℕ, get_or}
use Rattle.stats.specs.declared.SolveStats.{SolveStats}
use Rattle.solve_workspace.specs.declared.Bounds.{Bounds}
use Rattle.solve_workspace.specs.declared.Needs.{Needs}
use Rattle.solve_workspace.specs.declared.RenderOptions.{RenderOptions}
use Rattle.render.specs.Rendered.{Rendered}

-- work, fit checks, memo hits and misses, candidates generated and pruned, peak frontier, memo entries, plan nodes, visits; then the rest
abbrev pub count_words : SolveStats → List ℕ → List ℕ
count_words k rest =
    k.work_items ∷ k.fit_checks ∷ k.memo_hits ∷ k.memo_misses ∷ k.candidates_generated ∷ k.candidates_pruned ∷ k.peak_frontier
    ∷ k.memo_entries ∷ k.plan_nodes ∷ k.visits ∷ rest

-- stack, memo, kept, frontier, plans, visit, depth, output, spans; a refusal has none
abbrev pub need_words : Needs → List ℕ
need_words q = q.stack ∷ q.memo ∷ q.kept ∷ q.frontier ∷ q.plans ∷ q.visit ∷ q.depth ∷ q.output ∷ q.spans ∷ []

abbrev pub no_words : List ℕ
no_words = 0 ∷ 0 ∷ 0 ∷ 0 ∷ 0 ∷ 0 ∷ 0 ∷ 0 ∷ 0 ∷ []

-- 0: the refusal's number, or 0 where there is a page; 1: the needed size; 2: the page's bytes; 3: its spans; 4 to 6: its cost, that is the
-- high and the low half of the overflow, and the burden; 7 to 16: the counts; 17 to 25: a page's needs, in the order of 13 to 21
abbrev pub words : Rendered → List ℕ
words (Ok p) = 0 ∷ 0 ∷ p.length ∷ p.spans ∷ p.cost.overflow_high ∷ p.cost.overflow_low ∷ p.cost.burden ∷ count_words p.stats (need_words p.needs)
words (Err e) = e.number ∷ e.needed ∷ 0 ∷ 0 ∷ 0 ∷ 0 ∷ 0 ∷ count_words e.stats no_words

abbrev pub options : ℕ → ℕ → ℕ → ℕ → RenderOptions
options width newline_cost policy rule = record { width = width; newline_cost = newline_cost; policy = policy; rule = rule }

-- nine sizes in the order of 13 to 21, and the two limits
abbrev pub bounds : List ℕ → ℕ → ℕ → Bounds
bounds s work visits = record {
  stack = get_or s 0 0;
  memo = get_or s 1 0;
  kept = get_or s 2 0;
  frontier = get_or s 3 0;
  plans = get_or s 4 0;
  visit = get_or s 5 0;
  depth = get_or s 6 0;
  output = get_or s 7 0;
  spans = get_or s 8 0;
  work_limit = work;
  visit_limit = visits;
}
