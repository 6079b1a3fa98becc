-- `avl::high_left` meets its contract: the link holds the slot's tree, which is low since its columns differ.
use mathlib.Core.Path.{◌≡◌, subst, sym}
use mathlib.Core.List.{List}
use Prim.Native.Nat.{ℕ}
use native.Mathlib.Omega.{arith}
use Rattle.avl.specs.Holds.{Holds, Held, Spot, left}
use Rattle.avl.proofs.Steps.{low_l}
use Rattle.avl.proofs.high_left.Goals as goal

abbrev at : {m : List ℕ} {s x : ℕ} → x ≡ left m s → Spot m s → Held m x
at {m} e p = record { tree = p.l; holds = subst (λ q. Holds m q p.l) (sym e) p.held.l_held }

pub height-requires : goal.height-requires
height-requires c = at c.get.ensures c.requires

pub returns : goal.returns
returns c = λ p. let e = c.height.ensures (at c.get.ensures p) in (e, omega (arith, e, low_l p.held))
