use Rattle.report_gate.proofs.Gating.{room_le}
use Rattle.report_gate.proofs.files_room.Goals as goal

pub returns-then-file-files : goal.returns-then-file-files
returns-then-file-files c = room_le c.args.file c.args.files c.in-Some.is c.if-file-files.true
