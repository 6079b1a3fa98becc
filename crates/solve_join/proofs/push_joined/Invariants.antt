use Rattle.std.proofs.Common.{List, ℕ, ◌+◌, ◌-◌}
use Rattle.machine.specs.Model.{part}
use Rattle.machine.specs.Solver.{push_joined}
use Rattle.solve_workspace.specs.Meets.{Leads, Sound, counts}
use Rattle.solve_workspace.specs.Frames.{Kept}
use Rattle.solve_workspace.specs.Rows.{Row, abs, candidate, candidate_of, row_list}
use Rattle.solve_join.proofs.push_joined.Given as goal

-- what is left of the range is left to join
abbrev pub invariant-loop-at : goal.invariant-loop-at
invariant-loop-at l = record {
  sound : Sound l.b l.g;
  kept : Kept l.initial.g l.g;
  leads : (ts rs es : List Row) (fs : List ℕ) (ns : List Row) → Leads l.b (counts l.initial.g) (push_joined (candidate l.left) (part (row_list candidate_of l.kept l.count) l.start l.len) (abs l.initial.g ts rs l.initial.pending es l.kept fs ns)) (counts l.g) (push_joined (candidate l.left) (part (row_list candidate_of l.kept l.count) l.at (l.start + l.len - l.at)) (abs l.g ts rs l.pending es l.kept fs ns));
}
