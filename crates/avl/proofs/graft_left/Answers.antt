-- `avl::graft_left` meets its contract.
use mathlib.Core.Path.{◌≡◌}
use mathlib.Core.List.{List}
use Prim.Native.Nat.{ℕ}
use lib.Dec.{lit<, lit≤}
use Rattle.avl.specs.Mem.{put}
use Rattle.avl.specs.Holds.{Spot, GraftL}
use Rattle.avl.specs.Frames.{frame_wide}
use Rattle.avl.proofs.Steps.{link_l, linked}
use Rattle.avl.proofs.Turn.{then}
use Rattle.avl.proofs.graft_left.Goals as goal

abbrev hung : {m n : List ℕ} {s child : ℕ} (p : GraftL m s child) → n ≡ put m s 11 child → Spot n s
hung {child = child} p e = record { l = p.t; k = p.k; r = p.r; lo = p.lo; hi = p.hi; held = link_l p.lo child p.t p.half e p.from p.ord p.holds }

pub rebalance-requires : goal.rebalance-requires
rebalance-requires c = hung c.requires c.store.ensures

pub returns : goal.returns
returns c = λ p.
    then (frame_wide p.lo p.hi p.from p.half.to (linked c.args.s 11 c.args.child (lit≤ tt) (lit< tt) p.half.key_is c.store.ensures)) (c.rebalance.ensures (hung p c.store.ensures))
