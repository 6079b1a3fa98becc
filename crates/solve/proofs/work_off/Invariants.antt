use Rattle.solve.proofs.Turns.{Working}
use Rattle.machine_right.specs.Falls.{left}
use Rattle.solve_workspace.specs.Reading.{prepared, tables, rules}
use Rattle.solve_workspace.specs.Rows.{abs}
use mathlib.Core.List.{[]}
use Rattle.solve.proofs.work_off.Given as goal

abbrev pub invariant-loop-g : goal.invariant-loop-g
invariant-loop-g l = Working l.options l.b l.nodes l.edges l.choices l.texts l.space.0 l.initial.g l.initial.tasks l.initial.results l.initial.pending l.initial.index l.initial.entries l.initial.frontier l.initial.kept l.initial.plans l.g l.tasks l.results l.pending l.index l.entries l.frontier l.kept l.plans

abbrev pub decreases-loop-g : goal.decreases-loop-g
decreases-loop-g l = left (rules l.options) (prepared (tables l.nodes l.edges l.choices l.texts [] 0 0 l.space.0)) (abs l.g l.tasks l.results l.pending l.entries l.kept l.frontier l.plans)
