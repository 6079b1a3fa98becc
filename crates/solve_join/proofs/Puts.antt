-- What a pending candidate leaves of the registers.
use Rattle.std.proofs.Common.{◌≡◌, refl, ap, ℕ, ◌≤◌, Ok, arith}
use Rattle.solve_workspace.specs.declared.Bounds.{Bounds}
use Rattle.solve_workspace.specs.declared.Registers.{Registers}
use Rattle.solve_workspace.specs.declared.Reached.TheVariants.{Go}
use Rattle.solve_workspace.specs.Meets.{Sound}
use Rattle.solve_workspace.specs.Frames.{Kept}
use Rattle.solve_workspace.specs.Stacks.{with_pending_to, pending_pushed}
use Rattle.solve_workspace.specs.Turns.{Turn, reached}
use Rattle.solve_join.specs.Joined.{joined}

pub pending_sound : {b : Bounds} {s : Registers} (n : ℕ) → Sound b s → n ≤ b.stack → Sound b (with_pending_to s n)
pending_sound n z h = record {
  hits = z.hits;
  misses = z.misses;
  generated = z.generated;
  pruned = z.pruned;
  work = z.work;
  tasks = z.tasks;
  results = z.results;
  pending = h;
  memo = z.memo;
  kept = z.kept;
  plans = z.plans;
  stack = z.stack;
}

-- where it goes on, one more is pending
joined_is : (r : Turn) (u : Unit {0}) (o s : Registers) → reached r s ≡ joined o r → r ≡ Ok u → s ≡ pending_pushed o
joined_is r u o s h q = let a = ap (λ x. reached x s) q in let b = ap (joined o) q in let e : Go s ≡ Go (pending_pushed o) = cc in cc

pub joined_kept : {r : Turn} {u : Unit {0}} {o s : Registers} → reached r s ≡ joined o r → r ≡ Ok u → Kept o s
joined_kept {r = r} {u = u} {o = o} {s = s} h q = rw (joined_is r u o s h q) (record { memo = refl; results = refl; pending = omega arith })
