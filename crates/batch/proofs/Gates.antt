-- Whether a batch may be tried.
use mathlib.Core.Path.{◌≡◌, refl, sym, subst}
use mathlib.Core.Bool.{Bool}
use mathlib.Core.List.{List}
use Prim.Native.Nat.{ℕ, ◌+◌, ◌-◌, ◌≤◌, ◌<◌}
use native.Mathlib.Omega.{arith}
use lib.ListN.{length, get_or, take}
use Rattle.file_checks.specs.Told.{Told}
use Rattle.desks.specs.Desks.{gate_number}
use Rattle.desks.specs.Calls.{DeskGate, opens, order, desk}
use Rattle.desks.proofs.Calling.{gated, opened}
use Rattle.batch.specs.Documents.{total, most_documents}
use Rattle.batch.specs.Cuts.{total_suc, total_part}
use Rattle.batch.specs.Batched.{BatchGate, opens as tries, order as unordered, desk as no_desk, many}

-- the lengths up to a document, and what is left behind them
pub past_files : (l : List ℕ) (i left bytes : ℕ) → i < length l → total (take i l) + left ≡ bytes → left < get_or l i 0 → total l ≤ bytes → ⊥
past_files l i left bytes h e n t = omega (arith, e, n, t, total_suc l i h, total_part l (i + 1))

pub one_fits : (l : List ℕ) (i left bytes n : ℕ) → i < length l → total (take i l) + left ≡ bytes → n ≡ get_or l i 0 → n ≤ left → total (take (i + 1) l) + (left - n) ≡ bytes
one_fits l i left bytes n h e m f = omega (arith, e, m, f, total_suc l i h)

-- ---- the gate

module _ {lent : Type 0} {d documents : ℕ} {t : Bool} (told : Told lent t) where
  pub shut : {g : ℕ} → g ≡ gate_number t d → (g ≡ 0 → ⊥) → BatchGate lent d documents g
  shut {g} e ne = go (subst (λ (n : ℕ). DeskGate lent d n) (sym e) (gated t d told)) ne
    where
      go : {n : ℕ} → DeskGate lent d n → (n ≡ 0 → ⊥) → BatchGate lent d documents n
      go (opens l h) z = absurd (z refl)
      go (order n) z = unordered n
      go (desk l h) z = no_desk l h

  module _ {g : ℕ} (e : g ≡ gate_number t d) (z : g ≡ 0) where
    pub past_most : most_documents < documents → BatchGate lent d documents 29
    past_most h = let w = opened z (subst (λ (n : ℕ). DeskGate lent d n) (sym e) (gated t d told)) in many w.0 w.1 h

    pub may_be_tried : documents ≤ most_documents → BatchGate lent d documents 0
    may_be_tried h = let w = opened z (subst (λ (n : ℕ). DeskGate lent d n) (sym e) (gated t d told)) in tries w.0 w.1 h
