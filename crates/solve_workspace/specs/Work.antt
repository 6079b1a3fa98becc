-- Laws of the work ticks, and of what a popped result leaves.
use Rattle.std.specs.Prelude.{◌≡◌, List, ℕ, ◌≤◌, ◌<◌}
use Rattle.std.proofs.Common.{arith, lt-ltb, le-ltb}
use Rattle.stats.specs.declared.SolveStats.{SolveStats}
use Rattle.stats.specs.declared.SolveCounter.TheVariants.{WorkItems, MemoHits, MemoMisses}
use Rattle.stats.specs.Counts.{bumped}
use Rattle.machine.specs.Events.{Prog, Hit, Miss}
use Rattle.solve_workspace.specs.declared.Bounds.{Bounds}
use Rattle.solve_workspace.specs.declared.Registers.{Registers}
use Rattle.solve_workspace.specs.declared.Why.TheVariants.{Work}
use Rattle.solve_workspace.specs.declared.Reached.{Reached}
use Rattle.solve_workspace.specs.declared.Reached.TheVariants.{Go, Stop}
use Rattle.solve_workspace.specs.Meets.{counts, ticked, Sound, Meets}
use Rattle.solve_workspace.specs.Rows.{Row, abs}
use Rattle.solve_workspace.specs.Frames.{Popped}

abbrev pub with_stats : Registers → SolveStats → Registers
with_stats s t = record { tasks = s.tasks; results = s.results; pending = s.pending; memo = s.memo; kept = s.kept; plans = s.plans; start = s.start; len = s.len; builder = s.builder; stats = t; peaks = s.peaks }

pub hit_go : (b : Bounds) (s : Registers) (t : SolveStats) → t ≡ bumped (bumped s.stats WorkItems) MemoHits → s.stats.work_items < b.work_limit → Sound b s
    → (ts rs ps es ks : List Row) (fs : List ℕ) (ns : List Row) → Meets b (counts s) (ticked Hit (abs s ts rs ps es ks fs ns)) (Go (with_stats s t)) (λ z. abs z ts rs ps es ks fs ns)
unfolding bumped abs
hit_go b s t e h snd ts rs ps es ks fs ns =
    record {
      is = rw (lt-ltb s.stats.work_items b.work_limit h, e);
      sound = rw e (record { hits = omega arith; misses = omega arith; generated = omega arith; pruned = snd.pruned; work = omega arith; tasks = snd.tasks; results = snd.results; pending = snd.pending; memo = snd.memo; kept = snd.kept; plans = snd.plans; stack = snd.stack });
    }

pub miss_go : (b : Bounds) (s : Registers) (t : SolveStats) → t ≡ bumped (bumped s.stats WorkItems) MemoMisses → s.stats.work_items < b.work_limit → Sound b s
    → (ts rs ps es ks : List Row) (fs : List ℕ) (ns : List Row) → Meets b (counts s) (ticked Miss (abs s ts rs ps es ks fs ns)) (Go (with_stats s t)) (λ z. abs z ts rs ps es ks fs ns)
unfolding bumped abs
miss_go b s t e h snd ts rs ps es ks fs ns =
    record {
      is = rw (lt-ltb s.stats.work_items b.work_limit h, e);
      sound = rw e (record { hits = omega arith; misses = omega arith; generated = omega arith; pruned = snd.pruned; work = omega arith; tasks = snd.tasks; results = snd.results; pending = snd.pending; memo = snd.memo; kept = snd.kept; plans = snd.plans; stack = snd.stack });
    }

pub hit_spent : {A : Type 0} (b : Bounds) (s : Registers) (x : A) (f : Registers → A) → b.work_limit ≤ s.stats.work_items → Meets b (counts s) (ticked Hit x) (Stop Work 0 s) f
hit_spent b s x f h = record { is = rw (le-ltb s.stats.work_items b.work_limit h); sound = tt }

pub miss_spent : {A : Type 0} (b : Bounds) (s : Registers) (x : A) (f : Registers → A) → b.work_limit ≤ s.stats.work_items → Meets b (counts s) (ticked Miss x) (Stop Work 0 s) f
miss_spent b s x f h = record { is = rw (le-ltb s.stats.work_items b.work_limit h); sound = tt }

-- a popped result leaves the numbers sound, and the counts as they were
pub popped_sound : {b : Bounds} {o s : Registers} → Popped o s → Sound b o → Sound b s
popped_sound {b = b} {o = o} {s = s} p h =
    record {
      hits = rw p.stats h.hits;
      misses = rw p.stats h.misses;
      generated = rw p.stats h.generated;
      pruned = rw (p.stats, p.builder) h.pruned;
      work = rw p.stats h.work;
      tasks = omega arith;
      results = omega arith;
      pending = omega arith;
      memo = omega arith;
      kept = omega arith;
      plans = omega arith;
      stack = h.stack;
    }

pub popped_from : {A : Type 0} {b : Bounds} {o s : Registers} {p : Prog A} {a : Reached} {f : Registers → A} → Popped o s → Meets b (counts s) p a f → Meets b (counts o) p a f
popped_from {b = b} {o = o} {p = p} {a = a} {f = f} q h = rw (← q.stats, ← q.peaks, ← q.kept, ← q.plans, ← q.builder) h
