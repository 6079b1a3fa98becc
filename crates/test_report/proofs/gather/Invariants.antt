use Rattle.std.proofs.Common.{◌≡◌, ◌≤◌, length}
use Rattle.test_report.proofs.gather.Given as goal

abbrev pub invariant-loop-documents : goal.invariant-loop-documents
invariant-loop-documents l = (l.bytes ≤ length l.initial.files) × (length l.files ≡ length l.initial.files)
