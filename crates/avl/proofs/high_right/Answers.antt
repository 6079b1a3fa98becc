-- `avl::high_right` meets its contract: the link holds the slot's tree, which is low since its columns differ.
use mathlib.Core.Path.{◌≡◌, subst, sym}
use mathlib.Core.List.{List}
use Prim.Native.Nat.{ℕ}
use native.Mathlib.Omega.{arith}
use Rattle.avl.specs.Holds.{Holds, Held, Spot, right}
use Rattle.avl.proofs.Steps.{low_r}
use Rattle.avl.proofs.high_right.Goals as goal

abbrev at : {m : List ℕ} {s x : ℕ} → x ≡ right m s → Spot m s → Held m x
at {m} e p = record { tree = p.r; holds = subst (λ q. Holds m q p.r) (sym e) p.held.r_held }

pub height-requires : goal.height-requires
height-requires c = at c.get.ensures c.requires

pub returns : goal.returns
returns c = λ p. let e = c.height.ensures (at c.get.ensures p) in (e, omega (arith, e, low_r p.held))
