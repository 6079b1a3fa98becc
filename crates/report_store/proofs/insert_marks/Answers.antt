use Rattle.std.proofs.Common.{◌≡◌, sym, ◌∙◌, [], map, arith}
use Rattle.std.proofs.Math.ListN.{get_or-map, length-map}
use Rattle.std.proofs.lemmas.List.Edits.{paste_more}
use Rattle.report_store.specs.Marks.{words}
use Rattle.report_store.proofs.Pastes.{inserted_each}
use Rattle.report_store.proofs.insert_marks.Goals as goal

pub loop-i-preserved : goal.loop-i-preserved
loop-i-preserved c =
    let rows = c.args.rows.now in
    let mark = c.mark_of.ensures ∙ sym (get_or-map words rows c.loop-i.i []) in
    rw (c.loop-i.invariant, mark) (paste_more c.open_gap.new.m c.args.at (map words rows) c.loop-i.i (words []) (omega arith) (omega (arith, length-map rows words)))

pub returns : goal.returns
returns c =
    let e : c.loop-i.i ≡ c.args.n = omega arith in
    inserted_each words c.args.m.now c.open_gap.new.m _ c.args.rows.now c.args.used c.args.at c.args.n c.requires.0 c.requires.1 c.requires.2 c.open_gap.ensures (rw e at c.loop-i.invariant)
