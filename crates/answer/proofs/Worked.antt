-- How a worked case is shown: the file's bytes are computed from its tables and read back by the round trip, 6 to 10 are tested, and the answer is computed.
use Rattle.std.specs.Prelude.{◌≡◌, true, List, ℕ, leb}
use Rattle.std.proofs.Common.{sym, subst, leb-true}
use Rattle.file_tables.specs.Tables.{Tables}
use Rattle.file_form.specs.Kinds.{both}
use Rattle.file_form.specs.Tests.{both_true}
use Rattle.file_checks.specs.Judged.{Judged, accepted}
use Rattle.prepare.specs.File.{right}
use Rattle.machine_input.specs.Reading.{prepared}
use Rattle.machine.specs.Events.{Bounds}
use Rattle.machine.specs.Answer.{Answer, answer}
use Rattle.answer.specs.Answer.{Settings, rules_of, Answers, laid_out}
use Rattle.answer.specs.Worked.{bytes_of, tried, sound, texted, spaced, texts_fine, ordered, tables_are, texts_right, space_is, no_circle, references, lists, file_read}

-- ---- the answer to a call

-- the file is accepted, and the answer to a call is that of solver and materializer on the tables
pub worked :
    (t : Tables) {file : List ℕ} {c : Settings} {b : Bounds} {a : Answer}
    → bytes_of t ≡ file → sound t ≡ true → texts_fine t ≡ true → ordered c ≡ true → tried t c b ≡ a → Answers (Unit {0}) file c b a
unfolding tried
worked t {file} {c} {b} e s p o q =
    let r = file_read t file e s in
    let z = tables_are t s in
    let x = both_true (texted t) (spaced t) p in
    let j = accepted (record { references = references t z; texts = texts_right t x.0; space = space_is t x.1; no_circle = no_circle t z; lists = lists t z }) in
    let w = both_true (leb 1 c.width) (both (leb c.policy 1) (both (leb 1 c.rule) (leb c.rule 2))) o in
    let u = both_true (leb c.policy 1) (both (leb 1 c.rule) (leb c.rule 2)) w.1 in
    let v = both_true (leb 1 c.rule) (leb c.rule 2) u.1 in
    subst (λ (x : Answer). Answers (Unit {0}) file c b x) q
    (subst (λ (x : Tables). Answers (Unit {0}) file c b (answer (rules_of c) (prepared x) b)) r.1
    (laid_out (record { wide = leb-true _ _ w.0; policy_known = leb-true _ _ u.0; rule_known = (leb-true _ _ v.0, leb-true _ _ v.1); lent_enough = tt }) (right r.0 (subst (λ (x : Tables). Judged x 0) (sym r.1) j))))
