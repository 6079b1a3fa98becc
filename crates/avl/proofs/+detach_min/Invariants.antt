use Rattle.avl.proofs.Into.{high}
use Rattle.avl.proofs.+detach_min.Given as goal

-- the height at the root's link
abbrev pub decreases-detach_min : goal.decreases-detach_min
decreases-detach_min l = high l.frontier.now l.root
