-- `avl::update_height` meets its contract: the two heights are those of the slot's trees, and the slot with the larger and one is a tree.
use mathlib.Core.Path.{ap, ap₂, ◌∙◌}
use Prim.Native.Nat.{suc, max}
use native.Mathlib.Omega.{arith}
use native.Mathlib.Numerals.{add-one}
use Rattle.avl.proofs.Steps.{shut}
use Rattle.avl.proofs.update_height.Goals as goal

pub overflow_add-h : goal.overflow_add-h
overflow_add-h c = let p = c.requires in omega (arith, c.larger-h.ensures, c.high_left.ensures p, c.high_right.ensures p)

pub returns : goal.returns
returns c = λ p. shut p.held (add-one _ ∙ ap suc (c.larger-h.ensures ∙ ap₂ max (c.high_left.ensures p).0 (c.high_right.ensures p).0)) c.store.ensures
