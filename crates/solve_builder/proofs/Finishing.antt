-- Laws of `finish_builder`: the size tests of plans and kept candidates, and the survivors kept.
use mathlib.Core.Path.{◌≡◌, ◌∙◌}
use mathlib.Core.List.{List, map}
use Prim.Native.Nat.{ℕ, ◌+◌, ◌≤◌, ◌<◌, max}
use native.Mathlib.Omega.{arith}
use lib.ListN.{length, length-map}
use borrow.Author.Tests.{le-leb, lt-leb}
use Rattle.stats.specs.declared.SolveStats.{SolveStats}
use Rattle.plan.specs.Arena.{arena}
use Rattle.plan.specs.Uses.{arena_length}
use Rattle.frontier.specs.Candidates.{survivors}
use Rattle.frontier.specs.Walk.{survive_length}
use Rattle.machine.specs.Model.{Got, got, range}
use Rattle.machine.specs.Solver.{additional_plans, finish_builder}
use Rattle.solve_workspace.specs.declared.Bounds.{Bounds}
use Rattle.solve_workspace.specs.declared.Registers.{Registers}
use Rattle.solve_workspace.specs.declared.Why.TheVariants.{Plans, Kept}
use Rattle.solve_workspace.specs.declared.Reached.TheVariants.{Go, Stop}
use Rattle.solve_workspace.specs.Meets.{counts, Sound, Meets}
use Rattle.solve_workspace.specs.Rows.{Row, abs, survivor, candidate_of, node_of}
use Rattle.solve_workspace.specs.Stacks.{row_list_length}
use Rattle.solve_builder.specs.Building.{Building}
use Rattle.solve_builder.specs.Committing.{Commits}

pub plans_length : (ns : List Row) (n : ℕ) → length (map node_of (arena ns n)) ≡ n
plans_length ns n = length-map (arena ns n) node_of ∙ arena_length ns n

pub builder_length : {b : Bounds} {s : Registers} {fs : List ℕ} → Building b s fs → length (map survivor (survivors fs s.builder)) ≡ s.builder.live
builder_length {s = s} {fs = fs} h = length-map (survivors fs s.builder) survivor ∙ survive_length h.frontier.sound.kept

-- the survivors' plans
abbrev pub new_plans : List ℕ → Registers → ℕ
new_plans fs s = length (additional_plans (map survivor (survivors fs s.builder)))

abbrev pub with_peak : SolveStats → ℕ → SolveStats
with_peak t n = record {
  work_items = t.work_items;
  fit_checks = t.fit_checks;
  memo_hits = t.memo_hits;
  memo_misses = t.memo_misses;
  candidates_generated = t.candidates_generated;
  candidates_pruned = t.candidates_pruned;
  peak_frontier = n;
  memo_entries = t.memo_entries;
  plan_nodes = t.plan_nodes;
  visits = t.visits;
}

abbrev pub finished : Registers → ℕ → ℕ → ℕ → ℕ → ℕ → Registers
finished s kept plans start len peak = record { tasks = s.tasks; results = s.results; pending = s.pending; memo = s.memo; kept = kept; plans = plans; start = start; len = len; builder = s.builder; stats = with_peak s.stats peak; peaks = s.peaks }

module _ (b : Bounds) (s : Registers) (ts rs ps es ks : List Row) (fs : List ℕ) (ns : List Row) where
  pub finish_full : (n : ℕ) (f : Registers → Got) → n ≡ s.plans + new_plans fs s → b.plans < s.plans + new_plans fs s
      → Meets b (counts s) (finish_builder (abs s ts rs ps es ks fs ns)) (Stop Plans n s) f
  unfolding finish_builder abs
  finish_full n f e h = record { is = rw (plans_length ns s.plans, lt-leb (s.plans + new_plans fs s) b.plans h, e); sound = tt }

  pub finish_stop : (n : ℕ) (f : Registers → Got) → Building b s fs → s.kept ≤ length ks → s.plans + new_plans fs s ≤ b.plans → n ≡ s.kept + s.builder.live → b.kept < n
      → Meets b (counts s) (finish_builder (abs s ts rs ps es ks fs ns)) (Stop Kept n s) f
  unfolding finish_builder abs
  finish_stop n f at l h e i =
      record {
        is = rw (plans_length ns s.plans, le-leb (s.plans + new_plans fs s) b.plans h, row_list_length candidate_of ks s.kept l, builder_length at, ← e, lt-leb n b.kept i);
        sound = tt;
      }

  pub finish_go : (ks' ns' : List Row) (kept plans peak : ℕ) → Building b s fs → Sound b s → s.kept ≤ length ks → s.plans + new_plans fs s ≤ b.plans → kept ≡ s.kept + s.builder.live → kept ≤ b.kept
      → Commits (map survivor (survivors fs s.builder)) ks ns ks' ns' s.kept s.plans kept plans → peak ≡ max s.stats.peak_frontier s.builder.live
      → Meets b (counts s) (finish_builder (abs s ts rs ps es ks fs ns)) (Go (finished s kept plans s.kept s.builder.live peak))
      (λ z. got (range z.start z.len) (abs z ts rs ps es ks' fs ns'))
  unfolding finish_builder abs
  finish_go ks' ns' kept plans peak at snd l h e i c p =
      let all_kept : max s.kept kept ≡ kept = omega (arith, e) in
      let all_plans : max s.plans (s.plans + new_plans fs s) ≡ plans = omega (arith, c.count) in
      record {
        is = rw (plans_length ns s.plans, le-leb (s.plans + new_plans fs s) b.plans h, row_list_length candidate_of ks s.kept l, builder_length at, ← e, le-leb kept b.kept i, ← c.kept, ← c.plans, p, all_kept, all_plans);
        sound = record {
          hits = snd.hits;
          misses = snd.misses;
          generated = snd.generated;
          pruned = snd.pruned;
          work = snd.work;
          tasks = snd.tasks;
          results = snd.results;
          pending = snd.pending;
          memo = snd.memo;
          kept = i;
          plans = omega (arith, c.count);
          stack = snd.stack;
        };
      }
