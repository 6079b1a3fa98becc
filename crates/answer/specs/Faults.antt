-- The refusals of a file are 2 to 10: its form's 2 to 5, its tables' 6 to 10.
use Rattle.std.specs.Prelude.{◌≡◌, refl, List, ℕ, ◌≤◌, Err}
use Rattle.std.proofs.Common.{sym, ◌∙◌, arith}
use Rattle.refusals.specs.declared.Refusal.{Refusal}
use Rattle.refusals.specs.Numbers.{number_of}
use Rattle.refusals.specs.Laws.{number_some}
use Rattle.file_tables.specs.Tables.{Tables}
pub use Rattle.file_form.specs.Faults.{Low, form_faults}
use Rattle.file_checks.specs.Judged.{Judged, reference, text, space, circle, list, accepted}
use Rattle.prepare.specs.File.{Means, ill, wrong}

-- ---- the tables

pub judged_faults : {t : Tables} {n : ℕ} → Judged t n → (n ≡ 0 → ⊥) → (6 ≤ n) × (n ≤ 10)
judged_faults (reference a) ne = (omega arith, omega arith)
judged_faults (text a b) ne = (omega arith, omega arith)
judged_faults (space a b c) ne = (omega arith, omega arith)
judged_faults (circle a b c d) ne = (omega arith, omega arith)
judged_faults (list a b c d e) ne = (omega arith, omega arith)
judged_faults (accepted a) ne = absurd (ne refl)

pub file_faults : {s : List ℕ} {p : Refusal} → Means s (Err p) → (2 ≤ number_of p) × (number_of p ≤ 10)
file_faults {s} (ill p e) = let h = form_faults s (λ z. number_some p (sym e ∙ z)) in (omega (arith, h.0, e), omega (arith, h.1, e))
file_faults (wrong p f j) = let h = judged_faults j (number_some p) in (omega (arith, h.0), h.1)
