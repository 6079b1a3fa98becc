-- Laws for the tests before a step.
use mathlib.Core.Path.{◌≡◌, refl, sym, subst}
use mathlib.Core.Bool.{Bool, true, false}
use mathlib.Core.List.{List}
use Prim.Native.Nat.{ℕ, ◌+◌, ◌-◌, ◌≤◌}
use native.Mathlib.Omega.{arith}
use Rattle.std.specs.Prelude.{Option, Some, None}
use lib.Dec.{leb}
use lib.ListN.{take}
use Rattle.file_checks.specs.Told.{Told}
use Rattle.file_checks.specs.Tells.{tell_no, tell_le}
use Rattle.render.specs.Order.{OptionsRight}
use Rattle.desks.specs.Calls.{DeskGate, opens as may, order as unordered, desk as no_desk}
use Rattle.desks.proofs.Calling.{gated as desk_gated}
use Rattle.report.specs.Memory.{Words, file_length, sum_of, Sound}
use Rattle.report_rows.specs.Sums.{Summing, sound, unsound}
use Rattle.report_rows.specs.declared.Totals.{Totals}
use Rattle.report_gate.specs.Heads.{options, EmptyHead}
use Rattle.solve_workspace.specs.declared.RenderOptions.{RenderOptions}
use Rattle.report_gate.specs.Gates.{FilesRoom, room, IsSound, is, first, row_number, gate_number, Gate, opens, order, desk, place, rows}

-- what the tests say
pub gated : {lent there full : Type 0} (a : Bool) (d : ℕ) (b c : Bool) → Told lent a → Told there b → Told full c → Gate lent d there full (gate_number a d b c)
gated {lent = lent} {there = there} {full = full} a d b c l t f = go (desk_gated a d l) b c t f
  where
    go : {n : ℕ} → DeskGate lent d n → (b c : Bool) → Told there b → Told full c → Gate lent d there full (first n (row_number b c))
    go (unordered n) b c t f = order n
    go (no_desk l h) b c t f = desk l h
    go (may l h) false c t f = place l h (t.no refl)
    go (may l h) true true t f = rows l h (t.yes refl) (f.yes refl)
    go (may l h) true false t f = opens l h (t.yes refl) (f.no refl)

pub never : Told ⊥ false
never = tell_no (λ z. z)

-- ---- room for a file

pub no_room_unsound : {s : Option Totals} {file files : ℕ} → s ≡ None → FilesRoom s file files → ⊥
no_room_unsound e (room h) = let z : ◌≡◌ {A = ℕ} 0 1 = cc in absurd (omega arith)

room_in : {s : Option Totals} {t : Totals} {file files : ℕ} → s ≡ Some t → FilesRoom s file files → t.files + file ≤ files
room_in {t = t} {file = file} {files = files} e (room {t = u} h) = let q : u ≡ t = cc in subst (λ (z : Totals). z.files + file ≤ files) q h

pub no_room : {s : Option Totals} {t : Totals} {file files : ℕ} → s ≡ Some t → (t.files + file ≤ files → ⊥) → FilesRoom s file files → ⊥
no_room e n h = n (room_in e h)

pub room_told : {s : Option Totals} {t : Totals} {file files : ℕ} {b : Bool} → s ≡ Some t → Told (t.files + file ≤ files) b → Told (FilesRoom s file files) b
room_told {t = t} {file = file} {files = files} e h = record { yes = λ q. subst (λ (z : Option Totals). FilesRoom z file files) (sym e) (room (h.yes q)); no = λ q r. h.no q (room_in e r) }

pub room_le : {s : Option Totals} {t : Totals} (file files : ℕ) → s ≡ Some t → file ≤ files → Told (FilesRoom s file files) (leb t.files (files - file))
room_le {t = t} file files e h = room_told e (tell_le t.files (files - file) (λ l. omega (arith, l, h)) (λ l. omega (arith, l, h)))

pub sound_is : {s : Option Totals} {t : Totals} → s ≡ Some t → IsSound s
sound_is {t = t} e = subst IsSound (sym e) is

pub not_sound : {s : Option Totals} → s ≡ None → IsSound s → ⊥
not_sound e is = let z : ◌≡◌ {A = ℕ} 0 1 = cc in absurd (omega arith)

-- ---- the whole of it

pub sound_of : {n F P M : ℕ} {table : List Words} {s : Option Totals} → Summing n table F P M s → IsSound s → Sound n table F P M
sound_of (sound d t) i = d
sound_of (unsound m) i = absurd (not_sound refl i)

pub unsound_of : {n F P M : ℕ} {table : List Words} {s : Option Totals} → Summing n table F P M s → (IsSound s → ⊥) → Sound n table F P M → ⊥
unsound_of (sound d t) i = λ _. i is
unsound_of (unsound m) i = m

pub files_of : {n F P M : ℕ} {table : List Words} {s : Option Totals} {file : ℕ} → Summing n table F P M s → FilesRoom s file F → Sound n table F P M × (sum_of file_length (take n table) + file ≤ F)
files_of (sound d t) r = (d, omega (arith, room_in refl r, t.files_are))
files_of (unsound m) r = absurd (no_room_unsound refl r)

pub no_files : {n F P M : ℕ} {table : List Words} {s : Option Totals} {file : ℕ} → Summing n table F P M s → (FilesRoom s file F → ⊥) → Sound n table F P M → sum_of file_length (take n table) + file ≤ F → ⊥
no_files (sound d t) r = λ _ x. r (room (omega (arith, x, t.files_are)))
no_files (unsound m) r = λ d _. m d

-- ---- an empty report

pub empty_head : (w n p r : ℕ) {o : RenderOptions} → o ≡ options (record { rows = 0; width = w; newline_cost = n; policy = p; rule = r }) → OptionsRight o → EmptyHead w n p r (record { rows = 0; width = w; newline_cost = n; policy = p; rule = r })
empty_head w n p r e h = record { right = subst OptionsRight e h; width_is = refl; newline_cost_is = refl; policy_is = refl; rule_is = refl; empty = λ t f q m. refl }

pub not_right : (w n p r : ℕ) {o : RenderOptions} → o ≡ options (record { rows = 0; width = w; newline_cost = n; policy = p; rule = r }) → (OptionsRight o → ⊥) → OptionsRight (record { width = w; newline_cost = n; policy = p; rule = r }) → ⊥
not_right w n p r e h g = h (subst OptionsRight (sym e) g)
