use Rattle.file_checks.proofs.ByKind.{flat_here, flat_only}
use Rattle.file_checks.specs.Tells.{tell_lt}
use Rattle.file_checks.proofs.names.flat_named.Goals as goal

pub returns-else-row-ne1 : goal.returns-else-row-ne1
returns-else-row-ne1 c = tell_lt _ _ (λ l. flat_only c.args.row _ c.if-row-ne1.false l) (λ h. h _ (flat_here c.args.row c.if-row-ne1.false))
