use Rattle.report_gate.proofs.Gating.{gated, never}
use Rattle.file_checks.specs.Tells.{tell_lt}
use Rattle.report_gate.proofs.remove_gate.Goals as goal

pub returns : goal.returns
returns c = λ table s. rw c.number_of.ensures (gated _ _ _ _ (c.removal_lent-ordered.ensures table s) (tell_lt _ _ (λ h. h) (λ h. h)) never)
