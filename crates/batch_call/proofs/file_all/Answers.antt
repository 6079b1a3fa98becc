use mir.Syntax.{w64}
use mir.Val.{Fits}
use mathlib.Core.Path.{◌≡◌, refl}
use native.Mathlib.Omega.{arith}
use lib.ListN.{length, get_or}
use Rattle.batch_call.proofs.Filing.{turned, ready, may_end, all_filed}
use borrow.Author.Rules.{rules}
use Rattle.batch_call.proofs.file_all.Goals as goal

pub returns-then-gate-ne0 : goal.returns-then-gate-ne0
returns-then-gate-ne0 c = turned c.batch_gate-gate.ensures (λ e. omega (arith, e, c.if-gate-ne0.true)) c.turn_away.ensures

pub file_documents-p-requires : goal.file_documents-p-requires
file_documents-p-requires c =
    let n : length c.args.shared.desks.spent ≡ 8 = search rules in
    let w : Fits w64 (get_or c.args.shared.desks.allowance c.args.desk 0) = search rules in
    ready c.batch_gate-gate.ensures (omega (arith, c.if-gate-ne0.false)) c.args.shared.desks refl refl (omega arith, omega arith) (omega (arith, n)) w.fits

pub done-requires : goal.done-requires
done-requires c = may_end c.file_documents-p.ensures

pub returns : goal.returns
returns c = all_filed c.batch_gate-gate.ensures (omega (arith, c.if-gate-ne0.false)) c.file_documents-p.ensures c.done.ensures
