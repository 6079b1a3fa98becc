use Rattle.std.proofs.Common.{◌≡◌, arith}
use Rattle.report_store.proofs.Loops.{up_first, up_more}
use Rattle.report_store.proofs.open_gap.Goals as goal

pub loop-i-init : goal.loop-i-init
loop-i-init g c = record { low = omega arith; is = up_first c.args.m.now c.args.used c.args.n }

pub loop-i-preserved : goal.loop-i-preserved
loop-i-preserved g c = record {
  low = omega arith;
  is = up_more c.args.m.now c.loop-i.m c.args.used c.args.n c.loop-i.i _ (omega arith) (omega arith) (omega arith) c.loop-i.invariant.is c.index-m-i.is;
}

pub returns : goal.returns
returns g c =
    let e : c.loop-i.i ≡ c.args.at = omega arith in
    rw e at c.loop-i.invariant.is
