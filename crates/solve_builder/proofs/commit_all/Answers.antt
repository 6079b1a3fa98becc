use Rattle.std.proofs.Common.{arith}
use Rattle.frontier.specs.Walk.{begins, survive_length}
use Rattle.solve_builder.proofs.Passing.{passing_start, passing_stands, passing_one, passing_less, passing_next, passing_end}
use Rattle.solve_builder.proofs.commit_all.Goals as goal

pub loop-cursor-init : goal.loop-cursor-init
loop-cursor-init c = passing_start _ _ _ _ _ _ _ (begins c.requires.0.building.frontier c.first-cursor.ensures)

pub returns : goal.returns
returns c = passing_end c.loop-cursor.invariant _ c.in_default.is (omega (arith, survive_length c.requires.0.building.frontier.sound.kept))

pub candidate-requires : goal.candidate-requires
candidate-requires c = passing_stands c.loop-cursor.invariant _ c.in-Some.is

pub commit-n-requires : goal.commit-n-requires
commit-n-requires c = passing_one c.loop-cursor.invariant _ c.in-Some.is _ c.candidate.ensures (omega (arith, survive_length c.requires.0.building.frontier.sound.kept, c.requires.0.kept)) (omega (arith, c.requires.0.plans)) c.requires.0.small

pub overflow_add-k : goal.overflow_add-k
overflow_add-k c =
    let h = passing_less c.loop-cursor.invariant _ c.in-Some.is (omega (arith, survive_length c.requires.0.building.frontier.sound.kept, c.requires.0.kept)) in
    omega (arith, h)

pub following-cursor-requires : goal.following-cursor-requires
following-cursor-requires c = passing_stands c.loop-cursor.invariant _ c.in-Some.is

pub loop-cursor-smaller : goal.loop-cursor-smaller
loop-cursor-smaller c = omega (arith, passing_less c.loop-cursor.invariant _ c.in-Some.is (omega (arith, survive_length c.requires.0.building.frontier.sound.kept, c.requires.0.kept)))

pub loop-cursor-preserved : goal.loop-cursor-preserved
loop-cursor-preserved c = passing_next c.loop-cursor.invariant _ c.in-Some.is _ _ _ _ _ c.candidate.ensures c.following-cursor.ensures c.commit-n.ensures
