use Rattle.std.proofs.Common.{arith}
use Rattle.records.proofs.Pass.{first_holds, turns, fits, room, less, next_holds, ended}
use Rattle.records.proofs.write_records.Goals as goal

pub loop-w-init : goal.loop-w-init
loop-w-init c = first_holds c.requires

pub mark_and_count-requires : goal.mark_and_count-requires
mark_and_count-requires c =
    let b = c.requires in
    let h = c.loop-w.invariant in
    let m = c.loop-w-test.true in
    let t = c.turn_within-s.ensures in
    (fits b h m t, room b h m t)

pub loop-w-preserved : goal.loop-w-preserved
loop-w-preserved c =
    let e = c.mark_and_count.ensures in
    rw (e.0, e.1) (next_holds c.requires c.loop-w.invariant c.loop-w-test.true c.turn_within-s.ensures (omega arith) (omega arith) (omega arith))

pub returns : goal.returns
returns c = ended c.requires c.loop-w.invariant (omega arith)
