-- `frontier::admit` meets its contract.
use mathlib.Core.Path.{refl}
use native.Mathlib.Omega.{arith}
use Rattle.frontier.proofs.Adding.{without, room, admitted}
use Rattle.frontier.proofs.admit.Goals as goal

pub take-place-requires : goal.take-place-requires
take-place-requires c = c.requires.roomy

pub fill-requires : goal.fill-requires
fill-requires c = (c.take-place.ensures c.requires.roomy).at

pub append_precedence-ends-requires : goal.append_precedence-ends-requires
append_precedence-ends-requires c = without c.requires (c.take-place.ensures c.requires.roomy) c.fill.ensures

pub insert-requires : goal.insert-requires
insert-requires c = let g = c.take-place.ensures c.requires.roomy in room c.requires g (omega arith) refl c.fill.ensures (c.append_precedence-ends.ensures (without c.requires g c.fill.ensures))

pub overflow_add-result : goal.overflow_add-result
overflow_add-result c = omega (arith, c.requires.roomy.few, c.requires.roomy.bound)

pub returns : goal.returns
returns c = λ p.
    let g = c.take-place.ensures p.roomy in
    let d = c.append_precedence-ends.ensures (without p g c.fill.ensures) in
    admitted p g (omega arith) c.fill.ensures d (c.insert.ensures (room p g (omega arith) refl c.fill.ensures d))
