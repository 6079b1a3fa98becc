-- `avl::graft_right` meets its contract.
use mathlib.Core.Path.{◌≡◌}
use mathlib.Core.List.{List}
use Prim.Native.Nat.{ℕ}
use lib.Dec.{lit<, lit≤}
use Rattle.avl.specs.Mem.{put}
use Rattle.avl.specs.Holds.{Spot, GraftR}
use Rattle.avl.specs.Frames.{frame_wide}
use Rattle.avl.proofs.Steps.{link_r, linked}
use Rattle.avl.proofs.Turn.{then}
use Rattle.avl.proofs.graft_right.Goals as goal

abbrev hung : {m n : List ℕ} {s child : ℕ} (p : GraftR m s child) → n ≡ put m s 12 child → Spot n s
hung {child = child} p e = record { l = p.l; k = p.k; r = p.t; lo = p.lo; hi = p.hi; held = link_r p.hi child p.t p.half e p.to p.bound p.ord p.holds }

pub rebalance-requires : goal.rebalance-requires
rebalance-requires c = hung c.requires c.store.ensures

pub returns : goal.returns
returns c = λ p.
    then (frame_wide p.lo p.hi p.half.from p.to (linked c.args.s 12 c.args.child (lit≤ tt) (lit< tt) p.half.key_is c.store.ensures)) (c.rebalance.ensures (hung p c.store.ensures))
