-- `test_frontier::turn` meets its contract.
use Rattle.std.proofs.Common.{subst, arith}
use Rattle.frontier.specs.Candidates.{carried}
use Rattle.frontier.specs.Kept.{Presents}
use Rattle.test_frontier.proofs.Turning.{still}
use Rattle.test_frontier.proofs.turn.Goals as goal

pub done-requires : goal.done-requires
done-requires c = ((subst (λ z. Presents c.args.frontier.now c.present-answer.new.frontier 6 c.args.s.builder (carried c.drawn-c.result) z) c.in-Ok.is c.present-answer.ensures).frontier, omega (arith, c.requires.1, c.list_present-listed.auto.rows), c.list_present-listed.ensures)

pub returns-in-Err : goal.returns-in-Err
returns-in-Err c = still c.requires.0 (subst (λ z. Presents c.args.frontier.now c.present-answer.new.frontier 6 c.args.s.builder (carried c.drawn-c.result) z) c.in-Err.is c.present-answer.ensures).same c.refused.ensures
