use Rattle.std.proofs.Common.{arith, sym}
use Rattle.frontier.specs.Walk.{begins, survive_length}
use Rattle.solve_builder.proofs.Passing.{adds_is, counting_start, counting_next, counting_fits, counting_stands, counting_end}
use Rattle.solve_builder.proofs.Plans.{additional_few}
use Rattle.solve_builder.proofs.additional_plans.Goals as goal

pub loop-cursor-init : goal.loop-cursor-init
loop-cursor-init c = counting_start _ _ _ _ (begins c.requires.0.frontier c.first-cursor.ensures) (sym (survive_length c.requires.0.frontier.sound.kept))

pub returns : goal.returns
returns c = let e = counting_end c.loop-cursor.invariant c.in_default.is in (e.0, omega (arith, e.1, survive_length c.requires.0.frontier.sound.kept))

pub candidate-requires : goal.candidate-requires
candidate-requires c = counting_stands c.loop-cursor.invariant _ c.in-Some.is

pub overflow_add-count : goal.overflow_add-count
overflow_add-count c = omega (arith, counting_fits c.loop-cursor.invariant _ c.in-Some.is, c.additional_plans-count.ensures, additional_few c.pending_of.result, survive_length c.requires.0.frontier.sound.kept)

pub following-cursor-requires : goal.following-cursor-requires
following-cursor-requires c = counting_stands c.loop-cursor.invariant _ c.in-Some.is

pub loop-cursor-preserved : goal.loop-cursor-preserved
loop-cursor-preserved c = counting_next c.loop-cursor.invariant _ c.in-Some.is _ _ c.following-cursor.ensures (adds_is c.pending_of.result _ _ _ c.additional_plans-count.ensures c.pending_of.ensures c.candidate.ensures) (omega (arith, c.additional_plans-count.ensures, additional_few c.pending_of.result))
