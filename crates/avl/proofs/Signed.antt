-- A signed difference of two numbers below 2^63, tested on both sides of zero, as a fact about the numbers.
use mathlib.Core.Path.{◌≡◌, sym, ◌∙◌, ap, ap₂, subst}
use mathlib.Core.Bool.{Bool, true, false}
use mathlib.Core.Logic.{⊎_elim}
use Prim.Native.Nat.{ℕ, zero, suc, ◌+◌, ◌-◌, ◌<◌, ◌≤◌, ◌^◌}
use native.Mathlib.Omega.{arith}
use lib.IntN.{ℤ, ◌-ℤ◌}
use lib.IntN.ℤ.{pos, negsuc}
use lib.Signed.{lt_z}
use mir.Syntax.{w64}
use mir.Val.{SFits, to_z, of_z}
use mir.Facts.{to_z-of_z, to_z_pos}
use borrow.Author.Tests.{ltb-true, ltb-false, lt-ltb, le-ltb}
use Rattle.avl.specs.TreeLaws.{lt_or}

up : (a b : ℕ) → b ≤ a → pos a -ℤ pos b ≡ pos (a - b)
up a zero h = ap pos (omega arith)
up a (suc n) h = rw (le-ltb a (suc n) h)

down : (a b : ℕ) → a < b → pos a -ℤ pos b ≡ negsuc (b - suc a)
down a zero h = absurd (omega arith)
down a (suc n) h = rw (lt-ltb a (suc n) h)

false_not : {A : Type 0} → ◌≡◌ {A = Bool} false true → A
false_not e = absurd (subst lib.Dec.T (sym e) tt)

module _ (a b : ℕ) (ha : a < 2 ^ 63) (hb : b < 2 ^ 63) where
  reads : to_z w64 a -ℤ to_z w64 b ≡ pos a -ℤ pos b
  reads = ap₂ ◌-ℤ◌ (to_z_pos w64 ha) (to_z_pos w64 hb)

  pub sfits : SFits w64 (to_z w64 a -ℤ to_z w64 b)
  sfits = ⊎_elim
      (λ (h : a < b). rw (reads ∙ down a b h) (record { sfits = omega arith }))
      (λ (h : b ≤ a). rw (reads ∙ up a b h) (record { sfits = omega arith }))
      (lt_or a b)

  abbrev pub diff : ℤ
  diff = to_z w64 (of_z w64 (to_z w64 a -ℤ to_z w64 b))

  value : diff ≡ pos a -ℤ pos b
  value = to_z-of_z sfits ∙ reads

  pub over : lt_z (pos 1) diff ≡ true → b + 1 < a
  over e = ⊎_elim
      (λ (h : a < b). false_not (rw (value ∙ down a b h) at e))
      (λ (h : b ≤ a). omega (arith, ltb-true 1 (a - b) (rw (value ∙ up a b h) at e)))
      (lt_or a b)

  pub not_over : lt_z (pos 1) diff ≡ false → a ≤ b + 1
  not_over e = ⊎_elim
      (λ (h : a < b). omega arith)
      (λ (h : b ≤ a). omega (arith, ltb-false 1 (a - b) (rw (value ∙ up a b h) at e)))
      (lt_or a b)

  pub under : lt_z diff (negsuc 0) ≡ true → a + 1 < b
  under e = ⊎_elim
      (λ (h : a < b). omega (arith, ltb-true 0 (b - suc a) (rw (value ∙ down a b h) at e)))
      (λ (h : b ≤ a). false_not (rw (value ∙ up a b h) at e))
      (lt_or a b)

  pub not_under : lt_z diff (negsuc 0) ≡ false → b ≤ a + 1
  not_under e = ⊎_elim
      (λ (h : a < b). omega (arith, ltb-false 0 (b - suc a) (rw (value ∙ down a b h) at e)))
      (λ (h : b ≤ a). omega arith)
      (lt_or a b)
