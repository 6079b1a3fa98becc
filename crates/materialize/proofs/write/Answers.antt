use mathlib.Core.Path.{◌≡◌, refl}
use Prim.Native.Nat.{◌<◌}
use native.Mathlib.Omega.{arith}
use lib.ListN.{length}
use Rattle.materialize.specs.Walks.{plan}
use Rattle.materialize.proofs.Passes.{sound_begin}
use Rattle.materialize.proofs.Written.{turning, some_visit, writing_begin, written_end, mark_fits_more}
use Rattle.materialize.proofs.write.Goals as goal

pub begin_walk-w-requires : goal.begin_walk-w-requires
begin_walk-w-requires c = omega (arith, c.requires.0.visit_lent, some_visit c.args.capacity (plan c.args.plans.now c.args.texts.now c.args.bytes.now c.args.root.0) c.requires.3)

pub loop-w-init : goal.loop-w-init
loop-w-init c =
    let a = c.args in
    let pre = c.requires in
    let vis = some_visit a.capacity (plan a.plans.now a.texts.now a.bytes.now a.root.0) pre.3 in
    let h : 0 < length a.visit.now = omega (arith, pre.0.visit_lent, vis) in
    rw (c.begin_walk-w.ensures.0, c.begin_walk-w.ensures.1) (
      refl,
      refl,
      refl,
      refl,
      sound_begin a.capacity (length a.plans.now) a.visit.now a.root.0 vis h pre.1.rooted,
      writing_begin a.capacity a.plans.now a.texts.now a.bytes.now a.root.0 a.visit.now a.output.now a.depth.now a.spans.now pre.3 h,
    )

pub turn-s-requires : goal.turn-s-requires
turn-s-requires c =
    let pre = c.requires in
    let l = c.loop-w in
    turning l.visit l.invariant.5
    (record {
      some_left = c.loop-w-test.true;
      visit_lent = omega (arith, pre.0.visit_lent, l.invariant.0);
      small = pre.0.small;
      few = pre.1.few;
      ranked = pre.1.ranked;
      sound = l.invariant.4;
    })
    pre.2 (omega (arith, pre.0.depth_lent, l.invariant.1)) (omega (arith, pre.0.output_lent, l.invariant.2))

pub mark_row-requires : goal.mark_row-requires
mark_row-requires c = mark_fits_more c.turn-s.result.mark c.args.capacity.spans (length c.loop-w.spans) c.turn-s.ensures.fits (omega (arith, c.loop-w.invariant.3, c.requires.0.spans_lent))

pub loop-w-smaller : goal.loop-w-smaller
loop-w-smaller c = omega (arith, c.turn-s.ensures.counted, c.turn-s.ensures.sound.visits_le)

pub loop-w-preserved : goal.loop-w-preserved
loop-w-preserved c =
    let v = c.loop-w.invariant in (
      omega arith,
      omega arith,
      omega arith,
      omega arith,
      c.turn-s.ensures.sound,
      rw c.mark_row.ensures (c.turn-s.ensures.writing _ _ _ _ (omega (arith, v.3, c.requires.0.spans_lent)) v.5),
    )

pub returns : goal.returns
returns c =
    let pre = c.requires in
    let l = c.loop-w in
    let v = l.invariant in
    let q : l.w.top ≡ 0 = omega (arith, c.loop-w-test.false) in
    written_end l.visit v.5 q (omega (arith, v.2, pre.0.output_lent, v.4.at_le)) (omega (arith, v.3, pre.0.spans_lent, v.4.spans_le))
