use Rattle.solve.specs.Outcome.{least_of}
use Rattle.machine.specs.Model.{part}
use Rattle.machine.specs.Solve.{least_key}
use Rattle.solve_workspace.specs.Rows.{candidate, candidate_of, row_list}
use Prim.Native.Nat.{◌+◌, ◌-◌}
use mathlib.Core.Path.{◌≡◌}
use Rattle.solve.proofs.least_candidate.Given as goal

abbrev pub invariant-loop-i : goal.invariant-loop-i
invariant-loop-i l = least_key (candidate l.best) (part (row_list candidate_of l.kept l.count) (l.start + l.i) (l.len - l.i)) ≡ least_of (part (row_list candidate_of l.kept l.count) l.start l.len)
