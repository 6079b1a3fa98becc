-- `test_frontier::run` meets its contract. The invariant: the frontier is one, and the list has its place.
use Rattle.std.proofs.Common.{refl, ◌∙◌, arith, lit<}
use Rattle.test_frontier.proofs.run.Goals as goal

pub loop-n-init : goal.loop-n-init
loop-n-init c = (record { frontier = c.begin_builder.ensures.frontier _ 6 c.requires.0 (lit< tt); few = omega arith }, (refl, refl))

pub turn-s-requires : goal.turn-s-requires
turn-s-requires c = (c.renewed.ensures.ready _ c.loop-n.invariant.0, omega (arith, c.requires.1, c.loop-n.invariant.1.1))

pub loop-n-preserved : goal.loop-n-preserved
loop-n-preserved c = (c.turn-s.ensures, (c.turn-s.auto.frontier ∙ c.loop-n.invariant.1.0, c.turn-s.auto.rows ∙ c.loop-n.invariant.1.1))
