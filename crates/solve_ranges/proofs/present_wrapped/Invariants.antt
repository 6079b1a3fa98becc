use Rattle.std.proofs.Common.{◌+◌, ◌-◌, List}
use Rattle.machine.specs.Model.{part}
use Rattle.machine.specs.Solver.{present_wrapped}
use Rattle.solve_workspace.specs.Meets.{counts, Leads}
use Rattle.solve_workspace.specs.Rows.{Row, abs, candidate_of, row_list}
use Rattle.solve_ranges.specs.Wrapping.{wrapping, charging}
use Rattle.solve_ranges.proofs.Loops.{Underway}
use Rattle.solve_ranges.proofs.present_wrapped.Given as goal

abbrev pub invariant-loop-i : goal.invariant-loop-i
invariant-loop-i l = record {
  underway : Underway l.b l.initial.g l.g l.frontier;
  leads : (ts rs ps es ns : List Row) → Leads l.b (counts l.initial.g) (present_wrapped (wrapping l.wrapper) (charging l.wrapper) (part (row_list candidate_of l.kept l.count) l.start l.len) (abs l.initial.g ts rs ps es l.kept l.initial.frontier ns))
      (counts l.g) (present_wrapped (wrapping l.wrapper) (charging l.wrapper) (part (row_list candidate_of l.kept l.count) l.i (l.start + l.len - l.i)) (abs l.g ts rs ps es l.kept l.frontier ns));
}
