-- The parts of the machine's push-gaps.
use Rattle.std.specs.Prelude.{ℕ, ◌+◌}
use Rattle.layout.specs.Rules.{Rules}
use Rattle.machine.specs.Events.{Prog, ◌>>=◌}
use Rattle.machine.specs.Model.{Prepared, State, Scratch, Candidate, Got, Made, PlanText, scratch, within_range}
use Rattle.machine.specs.Solver.{checked_text, present, begin_builder, newline, finish_builder, push_joined}

module _ (R : Rules) (P : Prepared) where
  -- the frontier of a candidate and of a newline
  unfoldable pub spacing : Scratch → ℕ → State → Prog Got
  spacing c indent S = do
    S₁ ← present c (begin_builder S)
    S₂ ← present (newline R P indent) S₁
    finish_builder S₂

  -- what may stand in a gap after a candidate that ends at the column
  unfoldable pub bounding : ℕ → ℕ → State → Prog Got
  bounding column indent S = do
    space_cost ← checked_text R P column 1
    spacing (scratch space_cost (column + 1) (Made (PlanText P.space_text))) indent S

  -- a candidate followed by that
  unfoldable pub gap : Candidate → ℕ → State → Prog State
  gap left indent S = do
    G ← bounding left.column indent S
    push_joined left (within_range G.state.retained G.range) G.state
