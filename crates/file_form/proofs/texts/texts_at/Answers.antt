use mathlib.Core.Path.{refl}
use native.Mathlib.Omega.{arith}
use borrow.Author.Rules.{rules}
use Rattle.file_form.specs.Texts.{after_texts, read_text_rows, text_bytes}
use Rattle.file_form.proofs.Turns.{head_le, text_turn}
use Rattle.file_form.proofs.texts.texts_at.Goals as goal

pub loop-row-init : goal.loop-row-init
unfolding after_texts read_text_rows text_bytes
loop-row-init c = record { run = refl; limit = search rules; rows = refl; held = refl }

pub text_bytes-q-requires : goal.text_bytes-q-requires
text_bytes-q-requires c =
    let l = c.loop-row in
    let k = head_le c.args.s.now l.total l.q c.text_head-h.result c.text_head-h.ensures l.invariant.limit in
    omega (arith, l.auto.bytes, c.requires.1)

pub loop-row-preserved : goal.loop-row-preserved
loop-row-preserved c =
    let l = c.loop-row in
    text_turn c.args.s.now c.args.p l.row-index l.row-items l.bytes _ l.total l.q c.text_head-h.result c.text_bytes-q.result l.invariant c.text_head-h.ensures c.text_bytes-q.ensures.0 c.text_bytes-q.ensures.1 (omega (arith, c.loop-row-test.true, l.auto.row-items)) (omega (arith, l.auto.bytes, c.requires.1))
