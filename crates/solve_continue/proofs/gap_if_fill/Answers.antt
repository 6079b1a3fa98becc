use mathlib.Core.Path.{refl}
use Rattle.solve_continue.proofs.Boundaries.{gap_fill, gap_none}
use Rattle.solve_continue.proofs.gap_if_fill.Goals as goal

pub returns-then-is_fill-clause-meets : goal.returns-then-is_fill-clause-meets
returns-then-is_fill-clause-meets c = λ edges choices texts bytes an root ts rs es. gap_fill _ _ _ _ _ _ (c.is_fill.ensures edges) c.if-is_fill.true (c.fill_boundary.ensures.meets _ ts rs es refl)

pub returns-clause-meets : goal.returns-clause-meets
returns-clause-meets c = λ edges choices texts bytes an root ts rs es. gap_none _ _ _ _ _ c.args.g.now ts rs _ es _ _ _ (c.is_fill.ensures edges) c.if-is_fill.false c.requires.1.1.1.1
