use Rattle.std.proofs.Common.{List, ℕ, ◌-◌}
use Rattle.layout.specs.Rules.{Rules}
use Rattle.machine.specs.Model.{Prepared}
use Rattle.solve_workspace.specs.Meets.{Leads, Sound, counts}
use Rattle.solve_workspace.specs.Frames.{Kept}
use Rattle.solve_workspace.specs.Rows.{Row, abs}
use Rattle.solve_node.specs.Begun.{skipping}
use Rattle.solve_node.proofs.skip_choices.Given as goal

-- what is left to skip
abbrev pub invariant-loop : goal.invariant-loop
invariant-loop l = record {
  sound : Sound l.b l.g;
  kept : Kept l.initial.g l.g;
  leads : (R : Rules) (P : Prepared) (ts rs ps es ks : List Row) (fs : List ℕ) (ns : List Row) → Leads l.b (counts l.initial.g) (skipping R P l.skipped (abs l.initial.g ts rs ps es ks fs ns)) (counts l.g) (skipping R P (l.skipped - l.counter) (abs l.g ts rs ps es ks fs ns));
}
