-- How many colours are 0, and what is left to do for them.
use mathlib.Core.Path.{◌≡◌, ap}
use mathlib.Core.Bool.{Bool, true, false}
use mathlib.Core.List.{List, [], ◌∷◌}
use Prim.Native.Nat.{ℕ, zero, suc, ◌+◌, ◌≤◌, ◌<◌}
use native.Mathlib.Omega.{arith}
use lib.ListN.{length, get_or, set}
use lib.Dec.{eqb}
use borrow.Author.Tests.{eq-eqb, ne_eqb}
use Rattle.file_checks.specs.Search.{degree, white, unseen, pick}

-- a colour that is not 0 over one that is: one white less
pub white_set : (cs : List ℕ) (i v : ℕ) → i < length cs → get_or cs i 0 ≡ 0 → (v ≡ 0 → ⊥) → suc (white (set cs i v)) ≡ white cs
unfolding white
white_set [] i v h z nz = absurd (omega arith)
white_set (c ∷ cs) zero v h z nz = rw (ne_eqb v 0 nz, eq-eqb c 0 z)
white_set (c ∷ cs) (suc i) v h z nz = go (eqb c 0) (white_set cs i v (omega arith) z nz)
  where
    go : (b : Bool) → suc (white (set cs i v)) ≡ white cs → suc (pick b (suc (white (set cs i v))) (white (set cs i v))) ≡ pick b (suc (white cs)) (white cs)
    go true e = ap suc e
    go false e = e

-- and never more
pub white_set_le : (cs : List ℕ) (i v : ℕ) → (v ≡ 0 → ⊥) → white (set cs i v) ≤ white cs
unfolding white
white_set_le [] i v nz = omega arith
white_set_le (c ∷ cs) zero v nz = rw (ne_eqb v 0 nz) (go (eqb c 0))
  where
    go : (b : Bool) → white cs ≤ pick b (suc (white cs)) (white cs)
    go true = omega arith
    go false = omega arith
white_set_le (c ∷ cs) (suc i) v nz = go (eqb c 0) (white_set_le cs i v nz)
  where
    go : (b : Bool) → white (set cs i v) ≤ white cs → pick b (suc (white (set cs i v))) (white (set cs i v)) ≤ pick b (suc (white cs)) (white cs)
    go true e = omega arith
    go false e = e

pub white_le : (cs : List ℕ) → white cs ≤ length cs
unfolding white
white_le [] = omega arith
white_le (c ∷ cs) = go (eqb c 0) (white_le cs)
  where
    go : (b : Bool) → white cs ≤ length cs → pick b (suc (white cs)) (white cs) ≤ suc (length cs)
    go true e = omega arith
    go false e = omega arith

-- a node that is seen leaves as much less as was for it
pub unseen_set : (t : List (List ℕ)) (n : ℕ) (cs : List ℕ) (i v : ℕ) → i < length cs → get_or cs i 0 ≡ 0 → (v ≡ 0 → ⊥) → unseen t n (set cs i v) + (degree t (n + i) + 2) ≡ unseen t n cs
unfolding unseen
unseen_set t n [] i v h z nz = absurd (omega arith)
unseen_set t n (c ∷ cs) zero v h z nz =
    let q : n + 0 ≡ n = omega arith in
    let r : degree t (n + 0) ≡ degree t n = ap (λ (y : ℕ). degree t y) q in
    rw (ne_eqb v 0 nz, eq-eqb c 0 z) (omega arith)
unseen_set t n (c ∷ cs) (suc i) v h z nz =
    let q : n + suc i ≡ suc n + i = omega arith in
    let r : degree t (n + suc i) ≡ degree t (suc n + i) = ap (λ (y : ℕ). degree t y) q in
    omega (arith, unseen_set t (suc n) cs i v (omega arith) z nz)

pub unseen_set_le : (t : List (List ℕ)) (n : ℕ) (cs : List ℕ) (i v : ℕ) → (v ≡ 0 → ⊥) → unseen t n (set cs i v) ≤ unseen t n cs
unfolding unseen
unseen_set_le t n [] i v nz = omega arith
unseen_set_le t n (c ∷ cs) zero v nz = rw (ne_eqb v 0 nz) (omega arith)
unseen_set_le t n (c ∷ cs) (suc i) v nz = omega (arith, unseen_set_le t (suc n) cs i v nz)
