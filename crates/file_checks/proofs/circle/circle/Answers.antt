use Rattle.file_checks.proofs.Circles.{cleared}
use Rattle.file_checks.proofs.circle.circle.Goals as goal

pub sweep-requires-clause-walking : goal.sweep-requires-clause-walking
sweep-requires-clause-walking c = cleared _ _ _ _ c.requires.nodes_in_bounds (c.fill.ensures.after (λ _ h. h))
