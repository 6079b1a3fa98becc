-- Laws of results that are taken off, and of what is completed with them.
use mathlib.Core.Path.{◌≡◌, refl, sym, subst}
use mathlib.Core.List.{List}
use Prim.Native.Nat.{ℕ, zero, suc, ◌+◌, ◌-◌, ◌≤◌}
use native.Mathlib.Omega.{arith}
use lib.ListN.{length, drop}
use Rattle.layout.specs.Rules.{Rules}
use Rattle.memo.specs.declared.MemoKey.{MemoKey}
use Rattle.machine.specs.Events.{Counts, Prog, ret, ◌>>=◌}
use Rattle.machine.specs.Programs.{bind_assoc}
use Rattle.machine.specs.Model.{Prepared, State, with_results, Got}
use Rattle.machine.specs.Solver.{begin_builder, finish_builder, complete_node, complete_choice_set}
use Rattle.solve_workspace.specs.declared.Bounds.{Bounds}
use Rattle.solve_workspace.specs.declared.Registers.{Registers}
use Rattle.solve_workspace.specs.declared.Why.{Why}
use Rattle.solve_workspace.specs.declared.Reached.{Reached}
use Rattle.solve_workspace.specs.declared.Reached.TheVariants.{Go, Stop}
use Rattle.solve_workspace.specs.Meets.{Sound, Meets, counts}
use Rattle.solve_workspace.specs.Rows.{Row, abs, range_of, pile}
use Rattle.solve_workspace.specs.Stacks.{pile_length, with_results_to}
use Rattle.solve_workspace.specs.Frames.{Popped}
pub use Rattle.solve_workspace.specs.FrameLaws.{memory_stopped}
use Rattle.solve_workspace.specs.Work.{popped_from}
use Rattle.solve_workspace.specs.Runs.{seq, halt}
use Rattle.solve_ranges.specs.Wrapping.{results_from}
use Rattle.solve_complete.specs.Completing.{chosen}

-- what is done with the result on top, from the registers without it
pub popped_then : {A : Type 0} {b : Bounds} {o s : Registers} {p : Prog Got} {G : Got} {a : Reached} {f : Registers → A} (g : Got → Prog A) → Popped o s → p ≡ ret G → Meets b (counts s) (g G) a f → Meets b (counts o) (p >>= g) a f
popped_then {b = b} {o = o} {a = a} {f = f} g h e m = subst (λ (x : Prog Got). Meets b (counts o) (x >>= g) a f) (sym e) (popped_from h m)

-- ---- the choice set

pile_drop : {A : Type 0} (d : Row → A) (rows : List Row) (k m n : ℕ) → n ≡ k + m → drop k (pile d rows n) ≡ pile d rows m
pile_drop d rows zero m n e = let f : n ≡ m = omega arith in rw f
pile_drop d rows (suc k) m n e = let f : n ≡ suc (k + m) = omega arith in rw f (pile_drop d rows k m (k + m) refl)

abbrev above : ℕ → State → Got → State
above n S G = with_results (drop (length S.results - n) S.results) G.state

module _ (R : Rules) (P : Prepared) (q : MemoKey) (n : ℕ) where
  choice_is : (S : State) → (chosen R P n S >>= (λ G. complete_node q G.range (above n S G))) ≡ complete_choice_set R P q n S
  unfolding complete_choice_set
  choice_is S = bind_assoc (results_from R P n (begin_builder S)) finish_builder (λ G. complete_node q G.range (above n S G))

  pub choice_seq : {b : Bounds} {k : Counts} {s : Registers} {a c : Reached} {f : Registers → Got} {h : Registers → State} (S : State)
      → Meets b k (chosen R P n S) a f → a ≡ Go s → Meets b (counts s) (complete_node q (f s).range (above n S (f s))) c h → Meets b k (complete_choice_set R P q n S) c h
  choice_seq {b = b} {k = k} {c = c} {h = h} S m e r = subst (λ (p : Prog State). Meets b k p c h) (choice_is S) (seq (λ G. complete_node q G.range (above n S G)) m e r)

  pub choice_halt : {b : Bounds} {k : Counts} {z : Registers} {a : Reached} {f : Registers → Got} {h : Registers → State} {w : Why} {i : ℕ} (S : State)
      → Meets b k (chosen R P n S) a f → a ≡ Stop w i z → Meets b k (complete_choice_set R P q n S) a h
  choice_halt {b = b} {k = k} {a = a} {h = h} S m e = subst (λ (p : Prog State). Meets b k p a h) (choice_is S) (halt (λ G. complete_node q G.range (above n S G)) m e)

-- the registers with fewer results, in the machine's terms
fewer_is : (o s : Registers) (n : ℕ) (ts rs ps es ks ks' : List Row) (fs fs' : List ℕ) (ns ns' : List Row) → n ≤ o.results
    → abs (with_results_to s n) ts rs ps es ks' fs' ns' ≡ with_results (drop (length (abs o ts rs ps es ks fs ns).results - n) (abs o ts rs ps es ks fs ns).results) (abs s ts rs ps es ks' fs' ns')
unfolding abs
fewer_is o s n ts rs ps es ks ks' fs fs' ns ns' h = rw (pile_length range_of rs o.results, pile_drop range_of rs (o.results - n) n o.results (omega arith))

pub fewer_from : {b : Bounds} {a : Reached} {f : Registers → State} (g : State → Prog State) (o s : Registers) (n : ℕ) (ts rs ps es ks ks' : List Row) (fs fs' : List ℕ) (ns ns' : List Row) → n ≤ o.results
    → Meets b (counts s) (g (abs (with_results_to s n) ts rs ps es ks' fs' ns')) a f
    → Meets b (counts s) (g (with_results (drop (length (abs o ts rs ps es ks fs ns).results - n) (abs o ts rs ps es ks fs ns).results) (abs s ts rs ps es ks' fs' ns'))) a f
fewer_from {b = b} {a = a} {f = f} g o s n ts rs ps es ks ks' fs fs' ns ns' h m = subst (λ (z : State). Meets b (counts s) (g z) a f) (fewer_is o s n ts rs ps es ks ks' fs fs' ns ns' h) m

pub fewer_sound : {b : Bounds} (s : Registers) (n : ℕ) → n ≤ s.results → Sound b s → Sound b (with_results_to s n)
fewer_sound s n h k =
    record {
      hits = k.hits;
      misses = k.misses;
      generated = k.generated;
      pruned = k.pruned;
      work = k.work;
      stack = k.stack;
      tasks = k.tasks;
      results = omega (arith, k.results);
      pending = k.pending;
      memo = k.memo;
      kept = k.kept;
      plans = k.plans;
    }
