use Rattle.std.proofs.Common.{◌≡◌, arith}
use Rattle.report_store.proofs.Loops.{down_first, down_more}
use Rattle.report_store.proofs.Pastes.{removed}
use Rattle.report_store.proofs.remove.Goals as goal

pub loop-i-init : goal.loop-i-init
loop-i-init g c = down_first c.args.m.now c.args.at c.args.n

pub loop-i-preserved : goal.loop-i-preserved
loop-i-preserved g c = down_more c.args.m.now c.loop-i.m c.args.at c.args.n c.loop-i.i _ (omega arith) (omega arith) c.loop-i.invariant c.index-m-i.is

pub returns : goal.returns
returns g c =
    let e : c.loop-i.i ≡ c.args.used = omega arith in
    removed c.args.m.now c.loop-i.m c.args.used c.args.at c.args.n c.requires.0 c.requires.1 (rw e at c.loop-i.invariant)
