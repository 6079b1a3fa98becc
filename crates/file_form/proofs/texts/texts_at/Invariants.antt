use Rattle.file_form.proofs.Turns.{Texts}
use Rattle.file_form.proofs.texts.texts_at.Given as goal

abbrev pub invariant-loop-row : goal.invariant-loop-row
invariant-loop-row l = Texts l.s l.initial.q l.row-index l.row-items l.bytes l.total l.q
