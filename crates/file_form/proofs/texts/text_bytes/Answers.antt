use Prim.Native.Nat.{◌+◌, ◌-◌, ◌<◌}
use mathlib.Core.Path.{◌≡◌, refl}
use lib.ListN.{length}
use native.Mathlib.Omega.{arith}
use Rattle.file_form.proofs.Spans.{span_late, span_short, span_whole}
use Rattle.file_form.proofs.texts.text_bytes.Goals as goal
use Rattle.file_form.proofs.texts.text_bytes.Goals.{then-s-from-via-then-s-from, then-s-from-via-else-s-from+then-s-from-2}

pub returns-then-l-ne0 : goal.returns-then-l-ne0
returns-then-l-ne0 c = let a = c.args in rw c.refused.ensures (span_late a.s.now a.bytes.now a.l a.total c.if-l-ne0.true)

pub returns-then-s-from : goal.returns-then-s-from
returns-then-s-from c =
    let a = c.args in
    let h : length a.s.now < a.l.at + a.l.value =
    elim c.then-s-from.branch [ then-s-from-via-then-s-from w ↦ omega arith | then-s-from-via-else-s-from+then-s-from-2 w ↦ omega arith ] in
    rw c.refused-then-s-from.ensures (span_short a.s.now a.bytes.now a.l a.total c.if-l-ne0.false h)

pub returns : goal.returns
returns c =
    let a = c.args in
    let e : a.l.at + a.l.value - a.l.at ≡ a.l.value = omega arith in
    span_whole a.s.now a.bytes.now c.copy.new.dst a.l a.total _ (a.l.at + a.l.value - a.l.at) c.if-l-ne0.false (omega arith) c.requires refl e c.copy.ensures
