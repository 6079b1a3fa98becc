use Rattle.solve_node.proofs.begin_inner.Goals as goal

pub returns-in-Single : goal.returns-in-Single
returns-in-Single c = record { meets = λ P rs ps es ks fs ns. rw c.in-Single.is (c.begin_single.ensures.meets P rs ps es ks fs ns); keeps = c.begin_single.ensures.keeps }

pub returns-in-Union : goal.returns-in-Union
returns-in-Union c = record { meets = λ P rs ps es ks fs ns. rw c.in-Union.is (c.begin_union.ensures.meets _ P rs ps es ks fs ns); keeps = c.begin_union.ensures.keeps }

pub returns-in-Choice : goal.returns-in-Choice
returns-in-Choice c = record { meets = λ P rs ps es ks fs ns. rw (c.in-Choice.is, ← c.part.ensures) (c.begin_choice.ensures.meets _ P rs ps es ks fs ns); keeps = c.begin_choice.ensures.keeps }
