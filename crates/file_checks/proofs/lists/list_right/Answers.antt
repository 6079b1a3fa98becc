use native.Mathlib.Omega.{arith}
use mathlib.Core.Path.{◌≡◌, refl, sym, ◌∙◌}
use Prim.Native.Nat.{◌+◌, ◌-◌, ◌≤◌, ◌<◌}
use lib.ListN.{length, drop, set, length-set}
use Rattle.file_checks.proofs.Choices.{Same, push2, wrong_length, begin, no_stack, finish, stuck, next_keep, next_split, count_split}
use Rattle.file_checks.specs.Search.{Cut}
use mathlib.Core.List.{[], ◌∷◌}
use mathlib.Core.Logic.{inl, inr}
use lib.Seq.{drop-length}
use Rattle.file_checks.proofs.lists.list_right.Goals as goal
use Rattle.file_checks.proofs.lists.list_right.Goals.{then-left-eq0-via-then-left-eq0, then-left-eq0-via-else-left-eq0+then-node_word-ne9}

pub returns-then-xs-left : goal.returns-then-xs-left
returns-then-xs-left c = wrong_length _ _ _ _ _ c.if-xs-left.true

pub loop-at-init : goal.loop-at-init
loop-at-init c =
    let a = c.args in
    let T = a.nodes.now in
    let X = a.xs.now in
    let S = a.stack.now in
    let S' = set (set S (length S - 2 + 1) a.second) (length S - 2) a.first in
    let el : length S' ≡ length S = simp length-set in
    let e2 : length S - 2 + 2 ≡ length S = omega arith in
    let d : drop (length S - 2) S' ≡ a.first ∷ a.second ∷ [] = push2 S (length S - 2) a.first a.second (omega arith) ∙ rw (e2, drop-length S) in
    let b : Same T (Cut T (a.first ∷ a.second ∷ []) X a.skipped) (drop (length S' - 2) S') (drop 0 X) a.skipped =
    begin T S' X a.first a.second a.skipped (rw el d) in
    (omega arith, (omega (arith, el), (refl, (omega (arith, el, c.if-xs-left.false), rw el at b))))

pub returns-then-sp-stack : goal.returns-then-sp-stack
returns-then-sp-stack c =
    let a = c.args in
    let T = a.nodes.now in
    let X = a.xs.now in
    let l = c.loop-at in
    let u = l.invariant.1.1.1.1 in
    no_stack T _ X l.stack l.sp l.at l.left u (omega (arith, c.if-sp-stack.true)) c.loop-at-test.true

pub loop-at-preserved-then-xs-at : goal.loop-at-preserved-then-xs-at
loop-at-preserved-then-xs-at c =
    let l = c.loop-at in
    let hs : l.sp < length l.stack = omega (arith, c.if-sp-stack.false, l.invariant.1.0) in
    (omega arith, (omega arith, (l.invariant.1.1.0, (omega (arith, l.invariant.1.1.1.0), next_keep c.args.nodes.now _ c.args.xs.now l.stack l.sp l.at l.left l.invariant.1.1.1.1 hs c.loop-at-test.true c.requires.by_index c.if-xs-at.true))))

pub returns-then-left-eq0 : goal.returns-then-left-eq0
returns-then-left-eq0 c =
    let l = c.loop-at in
    let hs : l.sp < length l.stack = omega (arith, c.if-sp-stack.false, l.invariant.1.0) in
    stuck c.args.nodes.now _ c.args.xs.now l.stack l.sp l.at l.left l.invariant.1.1.1.1 hs c.loop-at-test.true c.if-xs-at.false
    (elim c.then-left-eq0.branch [
      | then-left-eq0-via-then-left-eq0 w ↦ inl w.if-left-eq0.true
      | then-left-eq0-via-else-left-eq0+then-node_word-ne9 w ↦ inr (λ k. w.if-node_word-ne9.true (w.node_word.ensures ∙ k))
    ])

pub loop-at-preserved : goal.loop-at-preserved
loop-at-preserved c =
    let a = c.args in
    let T = a.nodes.now in
    let X = a.xs.now in
    let S = a.stack.now in
    let l = c.loop-at in
    let b1 : l.at ≤ length X = l.invariant.0 in
    let b2 : l.sp ≤ length l.stack = l.invariant.1.0 in
    let b4 : (length l.stack - l.sp) + l.left ≡ length X - l.at = l.invariant.1.1.1.0 in
    let b3 : length l.stack ≡ length S = l.invariant.1.1.0 ∙ simp length-set in
    let b5 : length X ≤ length S = c.requires.xs_in_bounds in
    let u = l.invariant.1.1.1.1 in
    let hs : l.sp < length l.stack = omega (arith, c.if-sp-stack.false, b2) in
    let ha : l.at < length X = c.loop-at-test.true in
    let nz : l.left ≡ 0 → ⊥ = c.if-left-eq0.false in
    let el : length (set (set l.stack l.sp c.node_word-else-xs-at.result) (l.sp - 1) c.node_word-else-xs-at-2.result) ≡ length l.stack = simp length-set in
    let h0 : 0 < l.sp = omega (arith, b1, b2, b3, b4, b5, nz, ha) in (
      omega arith,
      (
        omega (arith, el, hs),
        (
          el ∙ l.invariant.1.1.0,
          (
            count_split _ _ _ _ _ el h0 b2 nz b4,
            next_split T _ X l.stack l.sp l.at l.left u hs ha (l.left - 1) (omega (arith, nz)) h0 c.if-xs-at.false (sym c.node_word.ensures ∙ c.if-node_word-ne9.false)
                c.node_word-else-xs-at-2.result c.node_word-else-xs-at.result c.node_word-else-xs-at-2.ensures c.node_word-else-xs-at.ensures,
          ),
        ),
      ),
    )

pub returns : goal.returns
returns c =
    let a = c.args in
    let T = a.nodes.now in
    let X = a.xs.now in
    let l = c.loop-at in
    let b1 : l.at ≤ length X = l.invariant.0 in
    let b2 : l.sp ≤ length l.stack = l.invariant.1.0 in
    let b4 : (length l.stack - l.sp) + l.left ≡ length X - l.at = l.invariant.1.1.1.0 in
    let u = l.invariant.1.1.1.1 in
    finish T _ X l.stack l.sp l.at l.left u (omega (arith, b1, b2, b4, c.loop-at-test.false)) c.loop-at-test.false (omega (arith, b1, b2, b4, c.loop-at-test.false))
