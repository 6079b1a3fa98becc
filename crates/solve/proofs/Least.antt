-- Laws of the least candidate of a range.
use mathlib.Core.Path.{◌≡◌, sym, ap, ◌∙◌}
use mathlib.Core.Bool.{cond}
use mathlib.Core.List.{List, ◌∷◌}
use Prim.Native.Nat.{ℕ, zero, suc, ◌+◌, ◌-◌, ◌≤◌, ◌<◌}
use native.Mathlib.Omega.{arith}
use lib.ListN.{get_or}
use Rattle.machine.specs.Model.{Candidate, no_candidate, part}
use Rattle.machine.specs.Solve.{before, least_key}
use Rattle.solve.specs.Outcome.{least_of}

-- ---- of a range

module _ (K : List Candidate) where
  part_next : (s i l : ℕ) → i < l → part K (s + i) (l - i) ≡ get_or K (s + i) no_candidate ∷ part K (s + (i + 1)) (l - (i + 1))
  part_next s i l h =
      let q : l - i ≡ suc (l - (i + 1)) = omega arith in
      let r : s + i + 1 ≡ s + (i + 1) = omega arith in
      ap (part K (s + i)) q ∙ ap (λ (m : ℕ). get_or K (s + i) no_candidate ∷ part K m (l - (i + 1))) r

  pub least_starts : (s l : ℕ) (c : Candidate) → 1 ≤ l → c ≡ get_or K s no_candidate → least_key c (part K (s + 1) (l - 1)) ≡ least_of (part K s l)
  least_starts s zero c h e = absurd (omega arith)
  least_starts s (suc n) c h e =
      let q : suc n - 1 ≡ n = omega arith in
      ap (λ (m : ℕ). least_key c (part K (s + 1) m)) q ∙ ap (λ (x : Candidate). least_key x (part K (s + 1) n)) e

  pub least_goes : (s i l : ℕ) (c x d z : Candidate) → i < l → x ≡ get_or K (s + i) no_candidate → d ≡ cond (before x c) x c → least_key c (part K (s + i) (l - i)) ≡ z
      → least_key d (part K (s + (i + 1)) (l - (i + 1))) ≡ z
  unfolding least_key
  least_goes s i l c x d z h e f g =
      ap (λ (y : Candidate). least_key y (part K (s + (i + 1)) (l - (i + 1)))) (f ∙ ap (λ (y : Candidate). cond (before y c) y c) e)
      ∙ sym (ap (least_key c) (part_next s i l h)) ∙ g

  pub least_ends : (s i l : ℕ) (c z : Candidate) → l ≤ i → least_key c (part K (s + i) (l - i)) ≡ z → c ≡ z
  unfolding least_key
  least_ends s i l c z h g =
      let q : l - i ≡ 0 = omega arith in
      sym (ap (λ (m : ℕ). least_key c (part K (s + i) m)) q) ∙ g
