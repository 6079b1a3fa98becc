use Rattle.std.proofs.Common.{List, ℕ}
use Rattle.layout.specs.Rules.{Rules}
use Rattle.machine.specs.Model.{Prepared}
use Rattle.machine.specs.Solver.{push_alternatives}
use Rattle.solve_workspace.specs.Meets.{Leads, Sound, counts}
use Rattle.solve_workspace.specs.Frames.{Kept}
use Rattle.solve_workspace.specs.Rows.{Row, abs}
use Rattle.solve_node.proofs.push_alternatives.Given as goal

-- what the iterator has left is left to push
abbrev pub invariant-loop-node : goal.invariant-loop-node
invariant-loop-node l = record {
  sound : Sound l.b l.g;
  kept : Kept l.initial.g l.g;
  leads : (R : Rules) (P : Prepared) (rs ps es ks : List Row) (fs : List ℕ) (ns : List Row) → Leads l.b (counts l.initial.g) (push_alternatives R P l.alternatives l.key (abs l.initial.g l.initial.tasks rs ps es ks fs ns)) (counts l.g) (push_alternatives R P l.node-iterator.iter.rest.now l.key (abs l.g l.tasks rs ps es ks fs ns));
}
