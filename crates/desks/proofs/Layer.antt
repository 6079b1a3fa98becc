-- The record after a call, over any kind of call.
use Rattle.std.specs.Prelude.{◌≡◌, refl, ℕ}
use Rattle.std.proofs.Common.{sym}
use Rattle.machine.specs.Events.{Bounds}
use Rattle.machine.specs.Answer.{Answer}
use Rattle.desks.specs.declared.Desks.{Desks}
use Rattle.desks.specs.Desks.{charged, work}
use Rattle.desks.specs.Served.{Served, out_of_order, no_desk, served}
use Rattle.desks.specs.Layer.{charged_nothing}

module _ {S : Type 0} {call : Bounds → Answer → S → Type 0} {X : S} where
  -- the record after a call is the record before with its work charged
  pub record_after : {lent : Type 0} {D : Desks} {d : ℕ} {b : Bounds} {a : Answer} {Z : S} {D' : Desks} → Served lent D d call b X a Z D' → D' ≡ charged D d (work a)
  record_after {D = D} {d = d} (out_of_order n) = sym (charged_nothing D d)
  record_after {D = D} {d = d} (no_desk l h) = sym (charged_nothing D d)
  record_after (served l h c) = refl
