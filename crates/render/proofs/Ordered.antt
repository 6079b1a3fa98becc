-- Laws for the tests of refusal 1.
use mathlib.Core.Path.{◌≡◌, refl, sym, ◌∙◌}
use mathlib.Core.Bool.{Bool, true, false, not}
use Prim.Native.Nat.{ℕ}
use lib.Dec.{eqb}
use borrow.Author.Tests.{eqb-true, eqb-false}
use Rattle.memo.specs.Sizes.{SlotsFor}
use Rattle.memo.proofs.Uses.{least_single}

-- a memo of a size has one number of slots
pub slots_single : (e a b : ℕ) → SlotsFor e a → SlotsFor e b → a ≡ b
slots_single e a b h k = go (eqb e 0) refl
  where
    go : (t : Bool) → eqb e 0 ≡ t → a ≡ b
    go true q = let z = eqb-true e 0 q in h.none z ∙ sym (k.none z)
    go false q = let z = eqb-false e 0 q in least_single (h.some z) (k.some z)

-- what a test of `!b` says
pub was_false : (b : Bool) → not b ≡ true → b ≡ false
was_false true e = sym e
was_false false e = refl

pub was_true : (b : Bool) → not b ≡ false → b ≡ true
was_true true e = refl
was_true false e = sym e
