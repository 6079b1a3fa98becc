use Rattle.solve_gaps.proofs.Filling.{present_as, line_is, line_has_place, any_space}
use Rattle.solve_gaps.proofs.present_newline.Goals as goal

pub returns-in_err-line : goal.returns-in_err-line
returns-in_err-line c = line_has_place _ _ _ (c.newline_candidate.ensures (any_space 0)) c.in_err-line.was

pub returns : goal.returns
returns c = record { meets = λ P ts rs ps es ks ns. present_as _ (line_is _ _ _ (c.newline_candidate.ensures P) c.in_ok-line.was) (c.present.ensures.meets ts rs ps es ks ns); building = c.present.ensures.building; keeps = c.present.ensures.keeps }
