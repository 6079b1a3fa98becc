-- Document 01, "Checked by hand (★ proved)": its starred cases in one list, in its order, and one theorem that each comes to what document 01 says (11 for two Nests became 25 by document 02, change 3).
use Rattle.std.specs.Prelude.{refl}
use Rattle.cost.specs.Cost.{cheap, cheaper}
use Rattle.layout.specs.Frontier.{covers}
use Rattle.layout.specs.Frontier.{present as presented}
use Rattle.machine.specs.Solver.{present, present_all}
use Rattle.answer.specs.Worked.{bytes_of, tried, sound, texted}
use Rattle.answer.proofs.Worked.{worked}
use Rattle.answer.specs.Starred.{Every, none, ◌also◌, starred, empty_tables, ab_tables, group_tables, fill_tables, nests_tables, line_tables}

-- ---- the tables of the files, and the proof

pub all_starred : Every starred
unfolding bytes_of sound texted tried cheap cheaper covers presented present present_all
all_starred =
    worked empty_tables refl refl refl refl refl
    also worked ab_tables refl refl refl refl refl
    also worked ab_tables refl refl refl refl refl
    also worked group_tables refl refl refl refl refl
    also worked group_tables refl refl refl refl refl
    also worked group_tables refl refl refl refl refl
    also refl
    also worked fill_tables refl refl refl refl refl
    also worked fill_tables refl refl refl refl refl
    also worked nests_tables refl refl refl refl refl
    also worked nests_tables refl refl refl refl refl
    also worked line_tables refl refl refl refl refl
    also worked line_tables refl refl refl refl refl
    also none
