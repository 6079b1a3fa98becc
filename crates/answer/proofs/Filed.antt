-- Every page is well-formed UTF-8, so that the archive takes it (document 02, change 1): it is made of texts, newlines and spaces.
use Rattle.std.specs.Prelude.{refl, List, ℕ}
use Rattle.file_utf8.specs.Utf8.{Utf8}
use Rattle.file_encode.specs.Fields.{Bytes}
use Rattle.machine.specs.Events.{Bounds, Counts}
use Rattle.machine.specs.Materializer.{Rendered}
use Rattle.machine.specs.Answer.{paged}
use Rattle.answer.specs.Answer.{Settings, Answers}
use Rattle.answer.proofs.Demand.{page_right}
use Rattle.answer.specs.Filed.{file_of_page, rules_page_utf8}

-- ---- an accepted file's

-- the page of every call
pub page_utf8 : {lent : Type 0} {file : List ℕ} {c : Settings} {b : Bounds} {r : Rendered} {k : Counts} → Bytes file → Answers lent file c b (paged r k) → Utf8 r.bytes
page_utf8 {file = file} {c = c} {r = r} {k = k} z a = rules_page_utf8 file c r (file_of_page r k z a refl) (page_right z a)
