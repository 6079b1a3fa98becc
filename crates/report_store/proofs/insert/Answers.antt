use Rattle.std.proofs.Common.{◌≡◌, length, arith}
use Rattle.std.proofs.lemmas.List.Edits.{paste_more}
use Rattle.report_store.proofs.Pastes.{inserted_all}
use Rattle.report_store.proofs.insert.Goals as goal

pub loop-i-preserved : goal.loop-i-preserved
loop-i-preserved g c =
    let p = paste_more c.open_gap.new.m c.args.at c.args.new.now c.loop-i.i c.index-new-i.result (omega arith) (omega arith) in
    cc

pub returns : goal.returns
returns g c =
    let new = c.args.new.now in
    let e : c.loop-i.i ≡ length new = omega arith in
    inserted_all c.args.m.now c.open_gap.new.m _ new c.args.used c.args.at c.requires.0 c.requires.1 c.open_gap.ensures (rw e at c.loop-i.invariant)
