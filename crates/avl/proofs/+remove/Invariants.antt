use Rattle.avl.proofs.Into.{high}
use Rattle.avl.proofs.+remove.Given as goal

-- the height at the root's link
abbrev pub decreases-remove : goal.decreases-remove
decreases-remove l = high l.frontier.now l.root
