-- `avl::height` meets its contract.
use mathlib.Core.Path.{◌∙◌}
use lib.Dec.{lit<}
use Rattle.avl.proofs.Steps.{nil_ht, held_at, held_ht}
use Rattle.avl.proofs.height.Goals as goal

pub returns-then-p-eq-NIL : goal.returns-then-p-eq-NIL
returns-then-p-eq-NIL c = λ h. nil_ht _ _ h.tree c.if-p-eq-NIL.true h.holds

pub get-requires : goal.get-requires
get-requires c = let h = c.requires in (held_at _ _ h.tree c.if-p-eq-NIL.false h.holds, lit< tt)

pub returns-else-p-eq-NIL : goal.returns-else-p-eq-NIL
returns-else-p-eq-NIL c = λ h. c.get.ensures ∙ held_ht _ _ h.tree c.if-p-eq-NIL.false h.holds
