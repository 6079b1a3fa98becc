use Rattle.std.proofs.Common.{List, drop}
use Rattle.machine.specs.Solver.{present_all}
use Rattle.solve_workspace.specs.Meets.{counts, Leads}
use Rattle.solve_workspace.specs.Rows.{Row, abs, scratch_of, row_list}
use Rattle.solve_ranges.proofs.Loops.{Underway}
use Rattle.solve_ranges.proofs.present_pending.Given as goal

abbrev pub invariant-loop-i : goal.invariant-loop-i
invariant-loop-i l = record {
  underway : Underway l.b l.initial.g l.g l.frontier;
  leads : (ts rs es ks ns : List Row) → Leads l.b (counts l.initial.g) (present_all (drop l.from (row_list scratch_of l.pending l.initial.g.pending)) (abs l.initial.g ts rs l.pending es ks l.initial.frontier ns))
      (counts l.g) (present_all (drop l.i (row_list scratch_of l.pending l.initial.g.pending)) (abs l.g ts rs l.pending es ks l.frontier ns));
}
