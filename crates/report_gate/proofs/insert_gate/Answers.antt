use Rattle.report_gate.proofs.Gating.{gated}
use Rattle.file_checks.specs.Tells.{tell_le}
use Rattle.report_gate.proofs.insert_gate.Goals as goal

pub returns : goal.returns
returns c = λ table s. rw c.number_of.ensures (gated _ _ _ _ (c.insertion_lent-ordered.ensures table s) (tell_le _ _ (λ h. h) (λ h. h)) (tell_le _ _ (λ h. h) (λ h. h)))
