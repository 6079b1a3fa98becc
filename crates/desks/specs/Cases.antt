-- Calls worked out: the smallest ones that tell the readings of document 02, change 8, apart (docs/DECISIONS.md). `A` is a file of one Text, `a`; its work is 2.
use Rattle.std.specs.Prelude.{refl, List, [], ◌∷◌, ℕ, ◌^◌, ◌-◌}
use Rattle.std.proofs.Common.{arith}
use Rattle.file_tables.specs.Tables.{Tables, tables}
use Rattle.machine.specs.Events.{Bounds, no_counts}
use Rattle.machine.specs.Answer.{Answer, paged, refused}
use Rattle.answer.specs.Answer.{Settings}
use Rattle.answer.specs.Worked.{bytes_of, sound, texted, tried, page_bounds, counted, needing}
use Rattle.answer.proofs.Worked.{worked}
use Rattle.desks.specs.declared.Desks.{Desks}
use Rattle.desks.specs.Served.{Served, no_desk, served}
use Rattle.desks.specs.Kinds.{single}

abbrev pub at_80 : Settings
at_80 = record { width = 80; newline_cost = 0; policy = 0; rule = 1 }

abbrev pub a_file : List ℕ
a_file = 69 ∷ 1 ∷ 0 ∷ 0 ∷ 0 ∷ 2 ∷ 0 ∷ 0 ∷ 0 ∷ 1 ∷ 0 ∷ 0 ∷ 0 ∷ 0 ∷ 1 ∷ 3 ∷ 1 ∷ 0 ∷ 0 ∷ 0 ∷ 1 ∷ 0 ∷ 0 ∷ 0 ∷ 97 ∷ 3 ∷ 1 ∷ 0 ∷ 0 ∷ 0 ∷ 1 ∷ 0 ∷ 0 ∷ 0 ∷ 32 ∷ []

abbrev pub a_tables : Tables
a_tables = tables ((1 ∷ 0 ∷ 0 ∷ 0 ∷ 0 ∷ 0 ∷ 0 ∷ 0 ∷ []) ∷ []) [] [] ((1 ∷ 1 ∷ 0 ∷ []) ∷ (1 ∷ 1 ∷ 1 ∷ []) ∷ []) (97 ∷ 32 ∷ []) 0 0 1

abbrev pub a_page : Answer
a_page = paged (record { bytes = 97 ∷ []; spans = []; cost = record { overflow = 0; burden = 0 } }) (needing (counted 2 0 1 1 0 1 1 1 1) 1 1 1 1 1 1 0 1 0)

-- 12, with work 1: the counts before the step that was not taken
abbrev pub stopped : Answer
stopped = refused 12 0 (counted 1 0 1 0 0 0 0 0 0)

-- desks 0 and 1 with an allowance and a spent count; the others have none
abbrev pub two : ℕ → ℕ → ℕ → ℕ → Desks
two a s b t = record { allowance = a ∷ b ∷ 0 ∷ 0 ∷ 0 ∷ 0 ∷ 0 ∷ 0 ∷ []; spent = s ∷ t ∷ 0 ∷ 0 ∷ 0 ∷ 0 ∷ 0 ∷ 0 ∷ [] }

abbrev Called : ℕ → Desks → ℕ → Answer → Desks → Type 0
Called d D limit a E = Served (Unit {0}) D d (single a_file at_80) (page_bounds limit) tt a tt E

-- allowance 3: a page, and 2 are spent; then 12 after 1, and 3 are spent; then 12 at once. Refused calls are charged
pub first_time : Called 0 (two 3 0 5 0) 10 a_page (two 3 2 5 0)
unfolding bytes_of sound texted tried
first_time = served tt (omega arith) (worked a_tables refl refl refl refl refl)

pub second_time : Called 0 (two 3 2 5 0) 10 stopped (two 3 3 5 0)
unfolding bytes_of sound texted tried
second_time = served tt (omega arith) (worked a_tables refl refl refl refl refl)

pub third_time : Called 0 (two 3 3 5 0) 10 (refused 12 0 no_counts) (two 3 3 5 0)
unfolding bytes_of sound texted tried
third_time = served tt (omega arith) (worked a_tables refl refl refl refl refl)

-- another desk is charged by itself, and the lesser of the two limits holds
pub other_desk : Called 1 (two 3 3 5 0) 1 stopped (two 3 3 5 1)
unfolding bytes_of sound texted tried
other_desk = served tt (omega arith) (worked a_tables refl refl refl refl refl)

-- more spent than allowed: nothing is left, and the count stays
pub overspent : Called 0 (two 3 9 5 0) 10 (refused 12 0 no_counts) (two 3 9 5 0)
unfolding bytes_of sound texted tried
overspent = served tt (omega arith) (worked a_tables refl refl refl refl refl)

-- the greatest numbers: one unit is left, and nothing wraps
pub greatest : Called 0 (two (2 ^ 64 - 1) (2 ^ 64 - 2) 5 0) 10 stopped (two (2 ^ 64 - 1) (2 ^ 64 - 1) 5 0)
unfolding bytes_of sound texted tried
greatest = served tt (omega arith) (worked a_tables refl refl refl refl refl)

-- desk 8 is 28, whatever the file
pub desk_8 : (file : List ℕ) (D : Desks) (b : Bounds) → Served (Unit {0}) D 8 (single file at_80) b tt (refused 28 0 no_counts) tt D
desk_8 file D b = no_desk tt (omega arith)
