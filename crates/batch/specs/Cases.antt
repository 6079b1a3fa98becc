-- Batches worked out: the smallest ones that tell the readings of document 02, change 9, apart (docs/DECISIONS.md). `A` is a file of one Text, `a`; `AB` one of `ab`; `N` one of an Empty node; `M` is Annotate 7 over `a`.
use Rattle.std.specs.Prelude.{Err, refl, List, [], ◌∷◌, ℕ, ◌+◌}
use Rattle.std.proofs.Math.Option.{none as no_parent}
use Rattle.std.proofs.Common.{arith}
use Rattle.refusals.specs.declared.Refusal.{Refusal}
use Rattle.refusals.specs.Numbers.{number_of}
use Rattle.file_tables.specs.Tables.{Tables, tables}
use Rattle.prepare.specs.File.{Means}
use Rattle.machine.specs.Events.{Bounds, no_counts}
use Rattle.machine.specs.Answer.{Answer, paged, refused}
use Rattle.answer.specs.Answer.{wrong_file}
use Rattle.answer.specs.Worked.{bytes_of, sound, texted, tried, counted, needing}
use Rattle.answer.proofs.Worked.{worked}
use Rattle.desks.specs.declared.Desks.{Desks}
use Rattle.desks.specs.Served.{served}
use Rattle.desks.specs.Cases.{at_80, a_file, a_tables, a_page, stopped, two}
use Rattle.batch.specs.Shift.{Shift, none, first}

abbrev ab_tables : Tables
ab_tables = tables ((1 ∷ 0 ∷ 0 ∷ 0 ∷ 0 ∷ 0 ∷ 0 ∷ 0 ∷ []) ∷ []) [] [] ((2 ∷ 2 ∷ 0 ∷ []) ∷ (1 ∷ 1 ∷ 2 ∷ []) ∷ []) (97 ∷ 98 ∷ 32 ∷ []) 0 0 1

abbrev n_tables : Tables
n_tables = tables ((0 ∷ 0 ∷ 0 ∷ 0 ∷ 0 ∷ 0 ∷ 0 ∷ 0 ∷ []) ∷ []) [] [] ((1 ∷ 1 ∷ 0 ∷ []) ∷ []) (32 ∷ []) 0 0 0

abbrev m_tables : Tables
m_tables = tables ((1 ∷ 0 ∷ 0 ∷ 0 ∷ 0 ∷ 0 ∷ 0 ∷ 0 ∷ []) ∷ (10 ∷ 7 ∷ 0 ∷ 0 ∷ 0 ∷ 0 ∷ 0 ∷ 0 ∷ []) ∷ []) [] [] ((1 ∷ 1 ∷ 0 ∷ []) ∷ (1 ∷ 1 ∷ 1 ∷ []) ∷ []) (97 ∷ 32 ∷ []) 8 1 1

-- the sizes of `page`, but so much output and so many spans
abbrev lending : ℕ → ℕ → Bounds
lending output spans = record {
  stack = 512;
  memo = 1024;
  kept = 1024;
  frontier = 256;
  plans = 2048;
  visit = 512;
  depth = 64;
  output = output;
  spans = spans;
  work_limit = 1000;
  visit_limit = 1000;
}

-- output 2: `a`; then 20, and the needed size is the document's own, told from its first byte; then `a` all the same
pub refused_between : Shift 0 at_80 (lending 2 0) (two 10 0 0 0) (a_file ∷ bytes_of ab_tables ∷ a_file ∷ []) (a_page ∷ refused 20 2 (counted 2 0 1 1 0 1 1 1 1) ∷ a_page ∷ []) (lending 0 0) (two 10 6 0 0)
unfolding bytes_of sound texted tried
refused_between =
    first (served tt (omega arith) (worked a_tables refl refl refl refl refl))
    (first (served tt (omega arith) (worked ab_tables refl refl refl refl refl)) (first (served tt (omega arith) (worked a_tables refl refl refl refl refl)) none))

-- output 1: `a`, and then a page of no bytes
pub no_byte_left : Shift 0 at_80 (lending 1 0) (two 10 0 0 0) (a_file ∷ bytes_of n_tables ∷ [])
    (a_page ∷ paged (record { bytes = []; spans = []; cost = record { overflow = 0; burden = 0 } }) (needing (counted 2 0 1 1 0 1 1 1 1) 1 1 1 1 1 1 0 0 0) ∷ []) (lending 0 0) (two 10 4 0 0)
unfolding bytes_of sound texted tried
no_byte_left = first (served tt (omega arith) (worked a_tables refl refl refl refl refl)) (first (served tt (omega arith) (worked n_tables refl refl refl refl refl)) none)

-- a document that the reader refuses, by whatever refusal: without counts; the work of `a` stays charged
pub no_file : (file : List ℕ) (p : Refusal) → Means file (Err p) → Shift 0 at_80 (lending 2 0) (two 10 0 0 0) (a_file ∷ file ∷ []) (a_page ∷ refused (number_of p) 0 no_counts ∷ []) (lending 1 0) (two 10 2 0 0)
unfolding bytes_of sound texted tried
no_file file p m =
    first (served tt (omega arith) (worked a_tables refl refl refl refl refl))
    (first (served tt (omega arith) (wrong_file p (record { wide = omega arith; policy_known = omega arith; rule_known = (omega arith, omega arith); lent_enough = tt }) m)) none)

-- allowance 3: a page; 12 after 1; 12 at once
pub spent_between : Shift 0 at_80 (lending 9 0) (two 3 0 0 0) (a_file ∷ a_file ∷ a_file ∷ []) (a_page ∷ stopped ∷ refused 12 0 no_counts ∷ []) (lending 8 0) (two 3 3 0 0)
unfolding bytes_of sound texted tried
spent_between =
    first (served tt (omega arith) (worked a_tables refl refl refl refl refl))
    (first (served tt (omega arith) (worked a_tables refl refl refl refl refl)) (first (served tt (omega arith) (worked a_tables refl refl refl refl refl)) none))

-- positions and parents are the document's own
abbrev marked : ℕ → Answer
marked start = paged (record { bytes = 97 ∷ []; spans = record { annotation = 7; start = start; end = start + 1; parent = no_parent } ∷ []; cost = record { overflow = 0; burden = 0 } }) (needing (counted 4 0 2 2 0 1 2 2 3) 2 2 2 1 2 2 1 1 1)

pub own_numbers : Shift 0 at_80 (lending 2 2) (two 10 0 0 0) (bytes_of m_tables ∷ bytes_of m_tables ∷ []) (marked 0 ∷ marked 0 ∷ []) (lending 0 0) (two 10 8 0 0)
unfolding bytes_of sound texted tried
own_numbers = first (served tt (omega arith) (worked m_tables refl refl refl refl refl)) (first (served tt (omega arith) (worked m_tables refl refl refl refl refl)) none)

-- no document: nothing
pub no_document : (b : Bounds) (D : Desks) → Shift 0 at_80 b D [] [] b D
no_document b D = none
