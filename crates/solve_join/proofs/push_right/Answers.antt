use mathlib.Core.Path.{ap}
use native.Mathlib.Omega.{arith}
use Rattle.machine.specs.Model.{Candidate}
use Rattle.solve_join.proofs.Joins.{right_is}
use Rattle.solve_join.proofs.push_right.Goals as goal

pub candidate_at-left-requires : goal.candidate_at-left-requires
candidate_at-left-requires c = omega (arith, c.requires.1.0, c.requires.1.1.kept)

pub returns : goal.returns
returns c = record { meets = λ R P rs ps es fs ns e. rw (right_is R P c.args.key _ _ _ _ _ c.args.g.now _ rs ps es _ fs ns _ _ e (ap (λ (x : Candidate). x.column) c.candidate_at-left.ensures)) (c.push_child.ensures.meets R P rs ps es _ fs ns); keeps = c.push_child.ensures.keeps }
