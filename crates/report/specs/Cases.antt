-- Steps worked out: the smallest ones that tell the readings of document 02, change 2, apart (docs/DECISIONS.md).
use Rattle.std.specs.Prelude.{◌≡◌, refl, List, [], ◌∷◌, ℕ, ◌^◌, length}
use Rattle.std.proofs.Math.Option.{none}
use Rattle.std.proofs.Common.{arith, ltb-true}
use Rattle.file_tables.specs.Tables.{Tables, tables}
use Rattle.cost.specs.Cost.{Cost}
use Rattle.machine.specs.Events.{Bounds, no_counts}
use Rattle.machine.specs.Answer.{paged, refused}
use Rattle.answer.specs.Answer.{Settings}
use Rattle.answer.specs.Worked.{bytes_of, sound, texted, tried, counted, needing}
use Rattle.answer.proofs.Worked.{worked}
use Rattle.report.specs.Report.{Row, Report, insert, remove, whole}
use Rattle.report.specs.Answers.{CostFits, Admitted, inserted, removed, no_bytes, fits, StepAnswers, no_place, full, row_refused, tested}

abbrev at_80 : Settings
at_80 = record { width = 80; newline_cost = 1; policy = 0; rule = 1 }

-- room enough but for output and spans
abbrev sized : ℕ → ℕ → Bounds
sized o s = record { stack = 100; memo = 100; kept = 100; frontier = 100; plans = 100; visit = 100; depth = 100; output = o; spans = s; work_limit = 100; visit_limit = 100 }

-- ---- files of one Text: `a`, `b`, `bb`, `bbbb`

abbrev text_file : ℕ → List ℕ → List ℕ
text_file n rest = 69 ∷ 1 ∷ 0 ∷ 0 ∷ 0 ∷ 2 ∷ 0 ∷ 0 ∷ 0 ∷ 1 ∷ 0 ∷ 0 ∷ 0 ∷ 0 ∷ 1 ∷ 3 ∷ n ∷ 0 ∷ 0 ∷ 0 ∷ n ∷ 0 ∷ 0 ∷ 0 ∷ rest

abbrev space_record : List ℕ
space_record = 3 ∷ 1 ∷ 0 ∷ 0 ∷ 0 ∷ 1 ∷ 0 ∷ 0 ∷ 0 ∷ 32 ∷ []

abbrev text_tables : ℕ → List ℕ → Tables
text_tables n bytes = tables ((1 ∷ 0 ∷ 0 ∷ 0 ∷ 0 ∷ 0 ∷ 0 ∷ 0 ∷ []) ∷ []) [] [] ((n ∷ n ∷ 0 ∷ []) ∷ (1 ∷ 1 ∷ n ∷ []) ∷ []) bytes 0 0 1

abbrev a_file : List ℕ
a_file = text_file 1 (97 ∷ space_record)

abbrev b_file : List ℕ
b_file = text_file 1 (98 ∷ space_record)

abbrev bb_file : List ℕ
bb_file = text_file 2 (98 ∷ 98 ∷ space_record)

abbrev bbbb_file : List ℕ
bbbb_file = text_file 4 (98 ∷ 98 ∷ 98 ∷ 98 ∷ space_record)

abbrev a_row : Row
a_row = record { file = a_file; page = record { bytes = 97 ∷ []; spans = []; cost = record { overflow = 0; burden = 0 } } }

abbrev b_row : Row
b_row = record { file = b_file; page = record { bytes = 98 ∷ []; spans = []; cost = record { overflow = 0; burden = 0 } } }

abbrev report : List Row → Report
report rows = record { settings = at_80; rows = rows }

small : (c : Cost) → c.overflow ≡ 0 → c.burden ≡ 1 → CostFits c
small c o u = record { overflow = rw o (ltb-true 0 (2 ^ 128) refl); burden = omega (arith, u) }

none_dear : (c : Cost) → c.overflow ≡ 0 → c.burden ≡ 0 → CostFits c
none_dear c o u = record { overflow = rw o (ltb-true 0 (2 ^ 128) refl); burden = omega (arith, u) }

admitted_below : (f : List ℕ) → Admitted (Unit {0}) (report (a_row ∷ [])) (insert 1 f)
admitted_below f = record { lent_enough = tt; place = omega arith; room = λ h. omega (arith, h) }

-- [A], insert B below it: `a`, newline, `b`. Burden 1: one newline between two rows
pub two_rows :
    StepAnswers (Unit {0}) (report (a_row ∷ [])) (sized 3 0) (insert 1 b_file)
    (paged (record { bytes = 97 ∷ 10 ∷ 98 ∷ []; spans = []; cost = record { overflow = 0; burden = 1 } }) (needing (counted 2 0 1 1 0 1 1 1 1) 1 1 1 1 1 1 0 3 0)) (report (a_row ∷ b_row ∷ []))
unfolding bytes_of sound texted tried
two_rows = tested (admitted_below b_file) (inserted (worked (text_tables 1 (98 ∷ 32 ∷ [])) refl refl refl refl refl)) (fits (small _ refl refl) (omega arith) (omega arith))

-- the row's own call gets the whole output size, not what is left: [A], output 3, `bb` is 20 by the whole page, needed size 4 and not 2; `bbbb` by the row's own call, 4 and not 6
pub whole_size : StepAnswers (Unit {0}) (report (a_row ∷ [])) (sized 3 0) (insert 1 bb_file) (refused 20 4 (counted 2 0 1 1 0 1 1 1 1)) (report (a_row ∷ []))
unfolding bytes_of sound texted tried
whole_size = tested (admitted_below bb_file) (inserted (worked (text_tables 2 (98 ∷ 98 ∷ 32 ∷ [])) refl refl refl refl refl)) (no_bytes (small _ refl refl) (omega arith))

pub own_size : StepAnswers (Unit {0}) (report (a_row ∷ [])) (sized 3 0) (insert 1 bbbb_file) (refused 20 4 (counted 2 0 1 1 0 1 1 1 1)) (report (a_row ∷ []))
unfolding bytes_of sound texted tried
own_size = row_refused (admitted_below bbbb_file) (worked (text_tables 4 (98 ∷ 98 ∷ 98 ∷ 98 ∷ 32 ∷ [])) refl refl refl refl refl)

-- a removal is held to sizes: [A, B], remove 0, output 0 is 20 with needed size 1, and the report stays; [A], remove 0, all sizes 0 is the empty page. Both without counts
pub removal_held : StepAnswers (Unit {0}) (report (a_row ∷ b_row ∷ [])) (sized 0 0) (remove 0) (refused 20 1 no_counts) (report (a_row ∷ b_row ∷ []))
removal_held = tested {s = remove 0} (record { lent_enough = tt; place = omega arith; room = λ h. h }) removed (no_bytes (none_dear _ refl refl) (omega arith))

pub last_removed : StepAnswers (Unit {0}) (report (a_row ∷ [])) (sized 0 0) (remove 0) (paged (record { bytes = []; spans = []; cost = record { overflow = 0; burden = 0 } }) no_counts) (report [])
last_removed = tested {s = remove 0} (record { lent_enough = tt; place = omega arith; room = λ h. h }) removed (fits (none_dear _ refl refl) (omega arith) (omega arith))

-- 23 before 24: place 1 of an empty report is not there; a full report has no place 1,025
pub nowhere : (f : List ℕ) → StepAnswers (Unit {0}) (report []) (sized 3 0) (insert 1 f) (refused 23 0 no_counts) (report [])
nowhere f = no_place {s = insert 1 f} tt (λ h. omega (arith, h))

pub nowhere_full : (rows : List Row) → length rows ≡ 1024 → (f : List ℕ) → StepAnswers (Unit {0}) (report rows) (sized 3 0) (insert 1025 f) (refused 23 0 no_counts) (report rows)
nowhere_full rows e f = no_place {s = insert 1025 f} tt (λ h. omega (arith, h, e))

-- and both before the file is read: an empty file, at the end of a full report
pub no_room : (rows : List Row) → length rows ≡ 1024 → StepAnswers (Unit {0}) (report rows) (sized 3 0) (insert 1024 []) (refused 24 0 no_counts) (report rows)
no_room rows e = full {s = insert 1024 []} tt (omega (arith, e)) (omega (arith, e))

-- ---- two rows, each an Annotate 7 over `a`: positions and parents are moved, the annotation is not

abbrev marked_row : Row
marked_row = record { file = []; page = record { bytes = 97 ∷ []; spans = record { annotation = 7; start = 0; end = 1; parent = none } ∷ []; cost = record { overflow = 0; burden = 0 } } }

pub moved_spans : (whole (report (marked_row ∷ marked_row ∷ []))).spans ≡ record { annotation = 7; start = 0; end = 1; parent = none } ∷ record { annotation = 7; start = 2; end = 3; parent = none } ∷ []
moved_spans = refl
