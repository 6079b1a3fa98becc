use Rattle.std.proofs.Common.{◌-◌, List, take}
use Rattle.layout.specs.Rules.{Rules}
use Rattle.machine.specs.Model.{Prepared}
use Rattle.machine.specs.Solver.{present_ranges}
use Rattle.solve_workspace.specs.declared.Reached.TheVariants.{Go}
use Rattle.solve_workspace.specs.Meets.{counts, Meets}
use Rattle.solve_workspace.specs.Rows.{Row, abs, range_of, pile}
use Rattle.solve_ranges.proofs.Loops.{Underway}
use Rattle.solve_ranges.proofs.present_results.Given as goal

abbrev pub invariant-loop-i : goal.invariant-loop-i
invariant-loop-i l = record {
  underway : Underway l.b l.initial.g l.g l.frontier;
  met : (R : Rules) (P : Prepared) (ts ps es ns : List Row) → Meets l.b (counts l.initial.g) (present_ranges R P (take (l.i - l.from) (pile range_of l.results l.i)) (abs l.initial.g ts l.results ps es l.kept l.initial.frontier ns)) (Go l.g) (λ z. abs z ts l.results ps es l.kept l.frontier ns);
}
