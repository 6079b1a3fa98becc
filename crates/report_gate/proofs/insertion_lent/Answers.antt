use Rattle.file_checks.specs.Tells.{tell_no}
use Rattle.report_gate.proofs.Gating.{no_files}
use Rattle.report_gate.proofs.insertion_lent.Goals as goal
use Rattle.report_gate.proofs.insertion_lent.Goals.{then-files_room, else-files_room}

pub returns-else-stores_lent : goal.returns-else-stores_lent
returns-else-stores_lent c = λ table s.
    rw c.if-stores_lent.false
    (tell_no (λ h. elim c.if-files_room.branch [
      | then-files_room w ↦ w.stores_lent.ensures.no (cc) h.stores
      | else-files_room w ↦ no_files s (c.files_room.ensures.no w.if-files_room.false) h.sound h.files
    ]))
