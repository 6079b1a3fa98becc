use mathlib.Core.Path.{sym}
use lib.Seq.{length-take-le}
use Rattle.render.proofs.Halves.{half_whole}
use Rattle.render.proofs.Renders.{slots_there, memo_room}
use Rattle.render.proofs.call.lay_out_held.Goals as goal

pub slice_bounds-lay_out-end-6 : goal.slice_bounds-lay_out-end-6
slice_bounds-lay_out-end-6 c = slots_there c.requires.1 c.memo_slots_for-slots.ensures

pub slice_bounds-lay_out-end-7 : goal.slice_bounds-lay_out-end-7
slice_bounds-lay_out-end-7 c = sym (length-take-le c.memo_slots_for-slots.result c.args.index.now (slots_there c.requires.1 c.memo_slots_for-slots.ensures))

pub lay_out-requires : goal.lay_out-requires
lay_out-requires c = let pre = c.requires in (pre.0, memo_room pre.1 c.memo_slots_for-slots.ensures, record { accepted = pre.2.readied.accepted; below = pre.2.readied.below; inside = pre.2.readied.inside }, pre.3)

pub returns : goal.returns
returns c = half_whole c.args.texts.now c.args.bytes.now c.args.n.texts c.args.n.bytes c.requires.2.texts_in c.requires.2.bytes_in c.lay_out.result c.lay_out.ensures
