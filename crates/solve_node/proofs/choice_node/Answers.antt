use Rattle.solve_node.proofs.Nodes.{choice_plain, choice_listed}
use native.Mathlib.Omega.{arith}
use Rattle.solve_node.proofs.choice_node.Goals as goal

pub returns-then-row-eq0 : goal.returns-then-row-eq0
returns-then-row-eq0 c = λ R es cs ts bs an root space. choice_plain R _ _ _ c.node_row-row.ensures (omega arith) es _ _

pub returns-else-row-eq0 : goal.returns-else-row-eq0
returns-else-row-eq0 c = λ R es cs ts bs an root space. choice_listed R _ _ _ c.node_row-row.ensures (λ e. omega arith) es _ _
