use Prim.Native.Nat.{◌-◌, ◌<◌, ◌^◌}
use native.Mathlib.Omega.{arith}
use Rattle.materialize.proofs.Untested.{no_stop, not_spent}
use Rattle.materialize.proofs.Written.{allowed, stepped}
use Rattle.materialize.proofs.turn.Goals as goal

pub visit_item-v-requires : goal.visit_item-v-requires
visit_item-v-requires c =
    let t = c.requires in
    (t.standing, not_spent t.passing (c.args.w.top - 1) (omega (arith, t.standing.some_left)), λ f. t.passing)

pub returns-in-Err : goal.returns-in-Err
returns-in-Err c =
    let t = c.requires in
    absurd (no_stop t.passing _ _ (c.visit_item-v.ensures t.passing.around t.passing.bytes t.passing.inside) c.in-Err.is)

pub perform-requires : goal.perform-requires
perform-requires c = allowed c.requires c.visit_item-v.new.visit c.visit_item-v.ensures c.in-Ok.is

pub returns-in-Ok : goal.returns-in-Ok
returns-in-Ok c = let v : c.args.capacity.visit_limit < 2 ^ 64 = omega arith in stepped c.requires c.visit_item-v.new.visit c.visit_item-v.ensures c.in-Ok.is c.perform.ensures v
