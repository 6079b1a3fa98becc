-- Laws of joined tests: both, only, and one test at every number below a bound.
use Rattle.std.specs.Prelude.{◌≡◌, refl, Bool, true, false, ◌↔◌, ℕ, zero, suc, ◌<◌}
use Rattle.std.proofs.Common.{subst, arith}
use Rattle.std.proofs.lemmas.Bool.{false≢true}
use Rattle.std.proofs.Math.Logic.{by_cases}
use Rattle.std.proofs.Math.Decide.{dec_lt}
use Rattle.file_form.specs.Kinds.{both, only}

pub both_true : (a b : Bool) → both a b ≡ true → (a ≡ true) × (b ≡ true)
both_true true b e = (refl, e)
both_true false b e = absurd (false≢true e)

pub both_is : (a b : Bool) → a ≡ true → b ≡ true → both a b ≡ true
both_is a b ea eb = rw (ea, eb)

pub only_true : (x y : Bool) → only x y ≡ true → x ≡ true → y ≡ true
only_true x true e h = refl
only_true true false e h = e
only_true false false e h = h

pub only_is : (x y : Bool) → (x ≡ true → y ≡ true) → only x y ≡ true
only_is x true h = refl
only_is true false h = h refl
only_is false false h = refl

abbrev pub all_below : ℕ → (ℕ → Bool) → Bool
all_below zero f = true
all_below (suc n) f = both (f n) (all_below n f)

pub at_below : (n : ℕ) (f : ℕ → Bool) → all_below n f ≡ true → (k : ℕ) → k < n → f k ≡ true
at_below zero f e k h = absurd (omega arith)
at_below (suc n) f e k h =
    let b = both_true (f n) (all_below n f) e in
    by_cases (dec_lt k n) (λ l. at_below n f b.1 k l) (λ l. let q : n ≡ k = omega arith in subst (λ (i : ℕ). f i ≡ true) q b.0)

-- two tests that say the same at every number below n
abbrev pub same_below : ℕ → (ℕ → Bool) → (ℕ → Bool) → Bool
same_below n f g = all_below n (λ i. both (only (f i) (g i)) (only (g i) (f i)))

pub same_at : (n : ℕ) (f g : ℕ → Bool) → same_below n f g ≡ true → (k : ℕ) → k < n → (f k ≡ true) ↔ (g k ≡ true)
same_at n f g e k h =
    let b = both_true (only (f k) (g k)) (only (g k) (f k)) (at_below n (λ i. both (only (f i) (g i)) (only (g i) (f i))) e k h) in
    (only_true (f k) (g k) b.0, only_true (g k) (f k) b.1)
