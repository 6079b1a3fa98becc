-- Laws of what is pending no more, once its frontier is built.
use mathlib.Core.Path.{◌≡◌, refl, ap, ◌∙◌, subst}
use mathlib.Core.List.{List, [], ◌∷◌, map}
use Prim.Native.Nat.{ℕ, zero, suc, ◌≤◌}
use native.Mathlib.Omega.{arith}
use lib.ListN.{take}
use lib.Seq.{take-take}
use Rattle.machine.specs.Events.{Prog}
use Rattle.machine.specs.Model.{State, Scratch, with_pending}
use Rattle.solve_workspace.specs.declared.Bounds.{Bounds}
use Rattle.solve_workspace.specs.declared.Registers.{Registers}
use Rattle.solve_workspace.specs.declared.Reached.{Reached}
use Rattle.solve_workspace.specs.Meets.{counts, Sound, Meets}
use Rattle.solve_workspace.specs.Rows.{Row, abs, scratch_of, row_list}
use Rattle.solve_workspace.specs.Stacks.{with_pending_to}
use Rattle.solve_workspace.specs.Frames.{Kept}
use Rattle.solve_builder.specs.Building.{Building}

take_map : (n : ℕ) (l : List Row) → take n (map scratch_of l) ≡ map scratch_of (take n l)
take_map zero l = refl
take_map (suc n) [] = refl
take_map (suc n) (x ∷ l) = ap (λ (z : List Scratch). scratch_of x ∷ z) (take_map n l)

taken_list : (n m : ℕ) (ps : List Row) → n ≤ m → take n (row_list scratch_of ps m) ≡ row_list scratch_of ps n
taken_list n m ps h = take_map n (take m ps) ∙ ap (λ (z : List Row). map scratch_of z) (take-take n m ps h)

taken_is : (s : Registers) (n : ℕ) (ts rs ps es ks : List Row) (fs : List ℕ) (ns : List Row) → n ≤ s.pending
    → abs (with_pending_to s n) ts rs ps es ks fs ns ≡ with_pending (take n (abs s ts rs ps es ks fs ns).pending) (abs s ts rs ps es ks fs ns)
unfolding abs
taken_is s n ts rs ps es ks fs ns h = rw (taken_list n s.pending ps h)

-- what is done with fewer pending is done with the machine's
pub taken_from : {A : Type 0} {b : Bounds} {a : Reached} {f : Registers → A} (g : State → Prog A) (s : Registers) (n : ℕ) (ts rs ps es ks : List Row) (fs : List ℕ) (ns : List Row) → n ≤ s.pending
    → Meets b (counts s) (g (abs (with_pending_to s n) ts rs ps es ks fs ns)) a f → Meets b (counts s) (g (with_pending (take n (abs s ts rs ps es ks fs ns).pending) (abs s ts rs ps es ks fs ns))) a f
taken_from {b = b} {a = a} {f = f} g s n ts rs ps es ks fs ns h m = subst (λ (z : State). Meets b (counts s) (g z) a f) (taken_is s n ts rs ps es ks fs ns h) m

pub taken_sound : {b : Bounds} (s : Registers) (n : ℕ) → n ≤ s.pending → Sound b s → Sound b (with_pending_to s n)
taken_sound s n h k =
    record {
      hits = k.hits;
      misses = k.misses;
      generated = k.generated;
      pruned = k.pruned;
      work = k.work;
      stack = k.stack;
      tasks = k.tasks;
      results = k.results;
      pending = omega (arith, k.pending);
      memo = k.memo;
      kept = k.kept;
      plans = k.plans;
    }

pub taken_building : {b : Bounds} {fs : List ℕ} (s : Registers) (n : ℕ) → Building b s fs → Building b (with_pending_to s n) fs
taken_building s n h = record { frontier = h.frontier }

-- memo and results are as they were
pub taken_kept : {o s : Registers} (n : ℕ) → Kept o s → n ≤ o.pending → Kept (with_pending_to o n) s
taken_kept n h l = record { memo = h.memo; results = h.results; pending = omega (arith, h.pending) }

pub taken_both : {o s : Registers} (n : ℕ) → Kept o s → Kept (with_pending_to o n) (with_pending_to s n)
taken_both n h = record { memo = h.memo; results = h.results; pending = omega arith }
