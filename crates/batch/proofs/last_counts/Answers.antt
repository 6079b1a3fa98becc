use mathlib.Core.Path.{◌∙◌}
use native.Mathlib.Omega.{arith}
use Rattle.batch.proofs.Advances.{last_before}
use Rattle.batch.proofs.last_counts.Goals as goal

pub returns : goal.returns
returns c = c.row_counts.ensures ∙ last_before c.args.before c.args.filed c.args.answers.now (λ z. omega (arith, z, c.if-filed-eq0.false))
