use mathlib.Core.Path.{◌≡◌, refl}
use Prim.Native.Nat.{◌-◌, ◌<◌, max}
use native.Mathlib.Omega.{arith}
use borrow.Author.Rules.{rules}
use lib.ListN.{length}
use Rattle.materialize.specs.Walks.{plan}
use Rattle.materialize.proofs.Turns.{spent}
use Rattle.materialize.proofs.Untested.{told_apart}
use Rattle.materialize.proofs.Passes.{err_is, none_fits, sound_begin, along_begin, along_step, along_stop, along_end, reaching_begin, reaching_step, turned_went, turned_stopped, some_bytes, in_some, some_around}
use Rattle.materialize.proofs.measure.Goals as goal

pub returns-then-capacity-eq0 : goal.returns-then-capacity-eq0
returns-then-capacity-eq0 c = let a = c.args in λ bytes ib. none_fits a.capacity (plan a.plans.now a.texts.now bytes a.root.0) c.if-capacity-eq0.true

pub begin_walk-w-requires : goal.begin_walk-w-requires
begin_walk-w-requires c = omega (arith, c.requires.0, c.if-capacity-eq0.false)

pub loop-w-init : goal.loop-w-init
loop-w-init c =
    let a = c.args in
    let v : 0 < a.capacity.visit = omega (arith, c.if-capacity-eq0.false) in
    let h : 0 < length a.visit.now = omega (arith, c.requires.0) in
    rw (c.begin_walk-w.ensures.0, c.begin_walk-w.ensures.1) (
      refl,
      sound_begin a.capacity (length a.plans.now) a.visit.now a.root.0 v h c.requires.2.rooted,
      λ o bytes ib. along_begin a.capacity o a.plans.now a.texts.now bytes a.root.0 a.visit.now v h,
      λ bytes ib. reaching_begin a.plans.now a.texts.now bytes a.root.0 a.visit.now h,
    )

pub returns-then-capacity-w : goal.returns-then-capacity-w
returns-then-capacity-w c =
    let a = c.args in
    let l = c.loop-w in
    λ bytes ib. along_stop a.capacity a.plans.now a.texts.now bytes a.root.0 _ l.w _ (λ o. l.invariant.2 o bytes ib)
    (λ o. spent a.capacity o a.plans.now a.texts.now bytes l.visit l.w (l.w.top - 1) (omega (arith, c.loop-w-test.true)) c.if-capacity-w.true)

pub visit_item-requires : goal.visit_item-requires
visit_item-requires c = (
  record {
    some_left = c.loop-w-test.true;
    visit_lent = omega (arith, c.requires.0, c.loop-w.invariant.0);
    small = c.requires.1;
    few = c.requires.2.few;
    ranked = c.requires.2.ranked;
    sound = c.loop-w.invariant.1;
  },
  c.if-capacity-w.false,
  λ e. told_apart e,
)

pub returns-in_err-z : goal.returns-in_err-z
returns-in_err-z c =
    let a = c.args in
    let P = a.plans.now in
    let X = a.texts.now in
    let l = c.loop-w in
    let r = c.visit_item.result in
    let x = c.visit_item.new.visit in
    λ bytes ib. rw (err_is c.from_residual.ensures.1) (along_stop a.capacity P X bytes a.root.0 _ l.w _ (λ o. l.invariant.2 o bytes ib)
    (λ o. turned_stopped a.capacity o P X bytes l.visit x l.w _ r (c.visit_item.ensures o bytes ib) c.in_err-z.was))

pub loop-w-smaller : goal.loop-w-smaller
loop-w-smaller c =
    let a = c.args in
    let P = a.plans.now in
    let X = a.texts.now in
    let l = c.loop-w in
    let r = c.visit_item.result in
    let x = c.visit_item.new.visit in
    let g = turned_went a.capacity some_around P X (some_bytes X) l.visit x l.w _ _ r (c.visit_item.ensures some_around (some_bytes X) (in_some X)) c.in_ok-z.was in
    omega (arith, g.moved.counted, g.sound.visits_le)

pub loop-w-preserved : goal.loop-w-preserved
loop-w-preserved c =
    let a = c.args in
    let P = a.plans.now in
    let X = a.texts.now in
    let l = c.loop-w in
    let r = c.visit_item.result in
    let x = c.visit_item.new.visit in
    let i : c.max-highest.result ≡ max l.highest c.in_ok-z.z.top = search rules in
    let j : c.max-deepest.result ≡ max l.deepest c.in_ok-z.z.depth = search rules in
    let g = turned_went a.capacity some_around P X (some_bytes X) l.visit x l.w _ _ r (c.visit_item.ensures some_around (some_bytes X) (in_some X)) c.in_ok-z.was in (
      omega (arith, l.invariant.0, c.visit_item.auto),
      g.sound,
      λ o bytes ib. along_step (l.invariant.2 o bytes ib) (turned_went a.capacity o P X bytes l.visit x l.w _ _ r (c.visit_item.ensures o bytes ib) c.in_ok-z.was),
      λ bytes ib. reaching_step (l.invariant.3 bytes ib) (turned_went a.capacity some_around P X bytes l.visit x l.w _ _ r (c.visit_item.ensures some_around bytes ib) c.in_ok-z.was) i j,
    )

pub returns : goal.returns
returns c =
    let a = c.args in
    let l = c.loop-w in
    λ bytes ib. along_end a.capacity a.plans.now a.texts.now bytes a.root.0 l.visit l.w l.highest l.deepest (λ o. l.invariant.2 o bytes ib) (l.invariant.3 bytes ib) (omega (arith, c.loop-w-test.false))
