use mathlib.Core.Path.{refl}
use mathlib.Core.List.{[]}
use native.Mathlib.Omega.{arith}
use Rattle.solve_workspace.specs.Rows.{abs}
use Rattle.solve_workspace.specs.Runs.{seq, halt, kept_by, kept_on}
use Rattle.solve_workspace.specs.TurnLaws.{went, halted, held_on, handed_on}
use Rattle.solve_gaps.specs.Gaps.{gap}
use Rattle.solve_gaps.proofs.Filling.{any_space}
use Rattle.solve_gaps.proofs.push_gap.Goals as goal

pub returns-in_err-boundary : goal.returns-in_err-boundary
unfolding gap
returns-in_err-boundary c = rw (handed_on c.in_err-boundary.was c.from_residual.ensures.1) (record { meets = λ P ts rs es e. halt _ (c.boundary.ensures.meets P ts rs _ es e) (halted _ c.in_err-boundary.was); keeps = c.boundary.ensures.keeps })

pub push_joined-requires : goal.push_joined-requires
push_joined-requires c = (c.requires.1.1.1.0, (omega arith, held_on (c.boundary.ensures.meets (any_space c.args.space.0) [] [] [] [] refl) c.in_ok-boundary.was))

pub returns : goal.returns
unfolding gap abs
returns c = record { meets = λ P ts rs es e. seq _ (c.boundary.ensures.meets P ts rs _ es e) (went _ c.in_ok-boundary.was) (c.push_joined.ensures.meets ts rs es _ _); keeps = kept_on _ (kept_by c.boundary.ensures.keeps (went _ c.in_ok-boundary.was)) c.push_joined.ensures.keeps }
