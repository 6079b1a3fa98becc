-- The worked cases whose file has a page, or too little work for one.
use Rattle.std.specs.Prelude.{refl, [], ◌∷◌}
use Rattle.machine.specs.Answer.{paged, refused}
use Rattle.answer.specs.Answer.{Answers}
use Rattle.answer.specs.Worked.{bytes_of, sound, texted, tried, page_bounds, counted, needing}
use Rattle.answer.proofs.Worked.{worked}
use Rattle.answer.specs.Cases.{at_80, ab_file, ab_tables, abc_file, abc_tables, at_1_under, abc_page, whole_file, whole_tables}

-- ---- the example: one Text, `ab`, at W 80

-- the page `ab`, work 2, overflow 0, burden 0, no spans; one of each kind is needed, no depth, 2 bytes
pub example :
    Answers (Unit {0}) ab_file at_80 (page_bounds 1000000)
    (paged (record { bytes = 97 ∷ 98 ∷ []; spans = []; cost = record { overflow = 0; burden = 0 } }) (needing (counted 2 0 1 1 0 1 1 1 1) 1 1 1 1 1 1 0 2 0))
unfolding bytes_of sound texted tried
example = worked ab_tables refl refl refl refl refl

-- work limit 1: 12, with the counts before the step that was not taken
pub work_spent : Answers (Unit {0}) ab_file at_80 (page_bounds 1) (refused 12 0 (counted 1 0 1 0 0 0 0 0 0))
unfolding bytes_of sound texted tried
work_spent = worked ab_tables refl refl refl refl refl

-- ---- one Text, `abc`, at W 1: rule 1 charges 4, rule 2 charges 2; another rule is 1, whatever the file

pub abc_rule_1 : Answers (Unit {0}) abc_file (at_1_under 1) (page_bounds 1000000) (abc_page 4)
unfolding bytes_of sound texted tried
abc_rule_1 = worked abc_tables refl refl refl refl refl

pub abc_rule_2 : Answers (Unit {0}) abc_file (at_1_under 2) (page_bounds 1000000) (abc_page 2)
unfolding bytes_of sound texted tried
abc_rule_2 = worked abc_tables refl refl refl refl refl

-- ---- texts that are not UTF-8: 7

pub whole :
    Answers (Unit {0}) whole_file at_80 (page_bounds 1000000)
    (paged (record { bytes = 195 ∷ 169 ∷ []; spans = []; cost = record { overflow = 0; burden = 0 } }) (needing (counted 2 0 1 1 0 1 1 1 1) 1 1 1 1 1 1 0 2 0))
unfolding bytes_of sound texted tried
whole = worked whole_tables refl refl refl refl refl
