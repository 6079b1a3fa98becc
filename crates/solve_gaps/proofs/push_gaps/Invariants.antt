use Rattle.std.proofs.Common.{◌≡◌, List, ◌+◌, ◌-◌}
use Rattle.machine.specs.Model.{Prepared}
use Rattle.machine.specs.Solver.{push_gaps}
use Rattle.solve_workspace.specs.Meets.{Leads, Sound, counts}
use Rattle.solve_workspace.specs.Frames.{Kept}
use Rattle.solve_workspace.specs.Reading.{rules}
use Rattle.solve_workspace.specs.Rows.{Row, abs}
use Rattle.solve_gaps.proofs.push_gaps.Given as goal

-- what is left of the range is left to follow by a gap
abbrev pub invariant-loop-at : goal.invariant-loop-at
invariant-loop-at l = record {
  sound : Sound l.b l.g;
  kept_on : Kept l.initial.g l.g;
  leads : (P : Prepared) (ts rs es : List Row) → P.space_text ≡ l.space.0 → Leads l.b (counts l.initial.g) (push_gaps (rules l.options) P l.indent l.start l.len (abs l.initial.g ts rs l.initial.pending es l.initial.kept l.initial.frontier l.initial.plans)) (counts l.g) (push_gaps (rules l.options) P l.indent l.at (l.start + l.len - l.at) (abs l.g ts rs l.pending es l.kept l.frontier l.plans));
}
