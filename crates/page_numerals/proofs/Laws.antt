-- Laws for the loop that writes digits, and of their number.
use mathlib.Core.Path.{◌≡◌, refl, sym, ap, ap₂, ◌∙◌}
use mathlib.Core.List.{List, [], ◌∷◌, ◌++◌, append_assoc, append-nil}
use Prim.Native.Nat.{ℕ, zero, suc, ◌+◌, ◌-◌, ◌*◌, ◌/◌, ◌%◌, ◌^◌, ◌≤◌, ◌<◌}
use native.Mathlib.Omega.{arith}
use native.Mathlib.Nat.{pow-suc, one-le-pow, sub-zero}
use lib.ListN.{length, take, drop, set, length-set, take-append-drop}
use lib.Seq.{drop-cons, get_or-set_same, drop-set-lt}
use Rattle.std.specs.Prelude.{Option, Some, None, MatchOption}
use Rattle.std.specs.Option.{IfNone, IfSome}
use borrow.Author.Tests.{le-ltb, lt-ltb}
use Rattle.page_numerals.specs.Digits.{digit, digits, width}

-- between the turns: the digits from i on are written, those before it are of m; what stands past them is as it was
pub record Left (base n count : ℕ) (before out : List ℕ) (m i : ℕ) : Type 0 where
  pub within : i ≤ count
  pub same_length : length out ≡ length before
  pub past : drop count out ≡ drop count before
  pub rest : digits base count n ≡ digits base i m ++ take (count - i) (drop i out)

pub left_begin : (base n count : ℕ) (out : List ℕ) → Left base n count out out n count
left_begin base n count out =
    let z : count - count ≡ 0 = omega arith in
    record { within = omega arith; same_length = refl; past = refl; rest = rw z (sym (append-nil (digits base count n))) }

pub left_step : (base n count : ℕ) (before out : List ℕ) (m j : ℕ) → count ≤ length before → Left base n count before out m (suc j)
    → Left base n count before (set out j (digit (m % base))) (m / base) j
unfolding digits
left_step base n count before out m j c h =
    let l : j < length out = omega (arith, h.within, h.same_length) in
    let x = digit (m % base) in
    let k : j < length (set out j x) = rw (length-set out j x) l in
    let e : count - j ≡ suc (count - suc j) = omega (arith, h.within) in
    record {
      within = omega (arith, h.within);
      same_length = length-set out j x ∙ h.same_length;
      past = drop-set-lt count out j x (omega (arith, h.within)) ∙ h.past;
      rest = h.rest ∙ append_assoc (digits base j (m / base)) (x ∷ []) (take (count - suc j) (drop (suc j) out))
          ∙ ap (λ (t : List ℕ). digits base j (m / base) ++ t)
          (rw (e, drop-cons (set out j x) j 0 k, get_or-set_same out j x 0 l, drop-set-lt (suc j) out j x (omega arith)) refl);
    }

pub left_again : (base n count : ℕ) (before out : List ℕ) (m i x : ℕ) → count ≤ length before → 0 < i → x ≡ digit (m % base) → Left base n count before out m i
    → Left base n count before (set out (i - 1) x) (m / base) (i - 1)
left_again base n count before out m zero x c z e h = absurd (omega arith)
left_again base n count before out m (suc j) x c z e h = let g : suc j - 1 ≡ j = omega arith in rw (g, e) (left_step base n count before out m j c h)

pub left_end : (base n count : ℕ) (before out : List ℕ) (m i : ℕ) → i ≡ 0 → Left base n count before out m i → out ≡ digits base count n ++ drop count before
unfolding digits
left_end base n count before out m i z h =
    let e : digits base count n ≡ take count out = h.rest ∙ rw z (ap (λ (k : ℕ). take k out) (sub-zero count)) in
    sym (take-append-drop count out) ∙ ap₂ (λ (a b : List ℕ). a ++ b) (sym e) h.past

one_digit : (k m : ℕ) → m < 10 → width k m ≡ 1
unfolding width
one_digit zero m h = refl
one_digit (suc k) m h = rw (lt-ltb _ _ h)

longer : (k m : ℕ) → 10 ≤ m → width (suc k) m ≡ width k (m / 10) + 1
unfolding width
longer k m h = rw (le-ltb _ _ h)

-- a number from 10 to the k on, and below ten times that, has k + 1 digits
width_from : (j k n : ℕ) → k ≤ j → 10 ^ k ≤ n → n < 10 * 10 ^ k → width j n ≡ k + 1
width_from j zero n l a b = one_digit j n (omega arith)
width_from zero (suc k) n l a b = absurd (omega arith)
width_from (suc j) (suc k) n l a b =
    let p = pow-suc 10 k in
    let q = one-le-pow k 10 (omega arith) in
    longer j n (omega arith) ∙ ap (λ (z : ℕ). z + 1) (width_from j k (n / 10) (omega arith) (omega arith) (omega arith)) ∙ omega arith

-- the width by the logarithm, which 0 has none of
pub width_is : (o : Option ℕ) (n w : ℕ) → IfNone o (n ≡ 0) → IfSome o (λ k. 10 ^ k ≤ n) → IfSome o (λ k. n < 10 * 10 ^ k) → IfSome o (λ k. k < 20) → MatchOption o (w ≡ 1) (λ k. w ≡ k + 1)
    → (w ≡ width 19 n) × (w ≤ 20)
width_is None n w z a b l e = (e ∙ sym (one_digit 19 n (omega arith)), omega arith)
width_is (Some k) n w z a b l e = (e ∙ sym (width_from 19 k n (omega arith) a b), omega arith)
