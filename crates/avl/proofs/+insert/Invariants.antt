use Rattle.avl.proofs.Into.{high}
use Rattle.avl.proofs.+insert.Given as goal

-- the height at the root's link
abbrev pub decreases-insert : goal.decreases-insert
decreases-insert l = high l.frontier.now l.root
