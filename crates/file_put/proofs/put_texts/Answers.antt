use mathlib.Core.Path.{refl}
use mathlib.Core.List.{[]}
use lib.ListN.{get_or}
use native.Mathlib.Omega.{arith}
use Rattle.file_tables.specs.Tables.{byte_length}
use Rattle.file_encode.specs.TextTrip.{lengths_within, texts_total}
use Rattle.file_put.proofs.Laws.{texts_turn, part_length, part_is, texts_whole}
use Rattle.file_put.proofs.put_texts.Goals as goal

pub overflow_add-end : goal.overflow_add-end
overflow_add-end c =
    let w = lengths_within c.args.texts.now c.loop-row.row-index c.loop-row-test.true in
    let t = texts_total 0 c.args.texts.now (omega arith) c.requires.1.1.0 in
    omega (arith, w, t, c.loop-row.invariant.1.1)

pub slice_bounds-put_text-end : goal.slice_bounds-put_text-end
slice_bounds-put_text-end c = omega (arith, lengths_within c.args.texts.now c.loop-row.row-index c.loop-row-test.true, c.loop-row.invariant.1.1, c.requires.1.1.1)

pub put_text-next-requires : goal.put_text-next-requires
put_text-next-requires c =
    let l = c.loop-row in
    let w = lengths_within c.args.texts.now l.row-index c.loop-row-test.true in
    let t = texts_total 0 c.args.texts.now (omega arith) c.requires.1.1.0 in
    let n = part_length c.args.bytes.now l.total (byte_length (get_or c.args.texts.now l.row-index [])) (omega (arith, w, l.invariant.1.1, c.requires.1.1.1)) in
    (omega (arith, l.invariant.1.0, c.requires.0, c.requires.1.0, c.loop-row-test.true, w, t, l.invariant.1.1), omega (arith, n, w, t, l.invariant.1.1))

pub loop-row-preserved : goal.loop-row-preserved
loop-row-preserved c =
    let a = c.args in
    let l = c.loop-row in
    let w = lengths_within a.texts.now l.row-index c.loop-row-test.true in
    let len = byte_length (get_or a.texts.now l.row-index []) in
    let n = part_length a.bytes.now l.total len (omega (arith, w, l.invariant.1.1, c.requires.1.1.1)) in
    let t = texts_turn a.out.now l.out _ a.at l.next c.put_text-next.result a.texts.now a.bytes.now l.row-index l.total len l.invariant.0 l.invariant.1.1 refl c.loop-row-test.true (part_is _ a.bytes.now l.total len c.put_text-next.ensures.0) in
    (t.0, (omega (arith, l.invariant.1.0, c.put_text-next.ensures.1, n), t.1))

pub returns : goal.returns
returns c =
    texts_whole c.args.out.now c.loop-row.out c.args.at c.loop-row.next c.args.texts.now c.args.bytes.now c.loop-row.row-index c.loop-row.total (omega arith) c.requires.1.1.1 c.loop-row.invariant.0 c.loop-row.invariant.1.0 c.loop-row.invariant.1.1
