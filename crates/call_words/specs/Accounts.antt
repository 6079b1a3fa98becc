-- The shared record in words. Allowances and spent counts are sixteen: the allowances of desks 0 to 7, then their spent counts.
use Rattle.std.specs.Prelude.{List, [], ◌∷◌, ℕ, ◌+◌, get_or}
use Rattle.stats.specs.declared.SolveStats.{SolveStats}
use Rattle.desks.specs.declared.Desks.{Desks}

abbrev pub eight : (ℕ → ℕ) → List ℕ → List ℕ
eight f rest = f 0 ∷ f 1 ∷ f 2 ∷ f 3 ∷ f 4 ∷ f 5 ∷ f 6 ∷ f 7 ∷ rest

abbrev pub desks_at : List ℕ → Desks
desks_at w = record { allowance = eight (λ i. get_or w i 0) []; spent = eight (λ i. get_or w (8 + i) 0) [] }

abbrev pub desk_words : Desks → List ℕ
desk_words d = eight (λ i. get_or d.allowance i 0) (eight (λ i. get_or d.spent i 0) [])

-- ten counts, in the order of `count_words`, from a word on
abbrev pub counts_from : ℕ → List ℕ → SolveStats
counts_from i w = record {
  work_items = get_or w i 0;
  fit_checks = get_or w (i + 1) 0;
  memo_hits = get_or w (i + 2) 0;
  memo_misses = get_or w (i + 3) 0;
  candidates_generated = get_or w (i + 4) 0;
  candidates_pruned = get_or w (i + 5) 0;
  peak_frontier = get_or w (i + 6) 0;
  memo_entries = get_or w (i + 7) 0;
  plan_nodes = get_or w (i + 8) 0;
  visits = get_or w (i + 9) 0;
}
