-- How a node is completed whose range is made from results.
use Rattle.std.specs.Prelude.{ℕ}
use Rattle.layout.specs.Rules.{Rules}
use Rattle.memo.specs.declared.MemoKey.{MemoKey}
use Rattle.machine.specs.Events.{Prog, ◌>>=◌}
use Rattle.machine.specs.Model.{Prepared, Got, State}
use Rattle.machine.specs.Solver.{begin_builder, finish_builder, complete_node}
use Rattle.solve_ranges.specs.Wrapping.{results_from}

-- the range that a program leaves goes into the memo, and onto the results
abbrev pub completed : MemoKey → Prog Got → Prog State
completed q p = p >>= (λ G. complete_node q G.range G.state)

-- the frontier of the results above the lowest `start`
abbrev pub chosen : Rules → Prepared → ℕ → State → Prog Got
chosen R P start S = results_from R P start (begin_builder S) >>= finish_builder
