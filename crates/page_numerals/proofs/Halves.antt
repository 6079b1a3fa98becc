-- The digits of a number of two parts are the digits of the parts.
use mathlib.Core.Path.{◌≡◌, refl, sym, ap, ◌∙◌}
use mathlib.Core.List.{List, [], ◌∷◌, ◌++◌, append_assoc, append-nil}
use Prim.Native.Nat.{ℕ, zero, suc, ◌+◌, ◌-◌, ◌*◌, ◌/◌, ◌%◌, ◌^◌, ◌≤◌, ◌<◌}
use native.Mathlib.Omega.{arith}
use native.Mathlib.Nat.{add-suc, add-zero, pow-zero, pow-suc, mul_assoc, add-mul-div_right, add-mul-mod_self_right, div-lt_iff_lt-mul, add_comm, mul-one}
use lib.ListN.{length, take, drop, length-append, length-drop}
use lib.Seq.{drop-drop, take_at, drop_at, take_all}
use Rattle.page_numerals.specs.Digits.{digit, digits}
use Rattle.page_numerals.specs.Lengths.{length_digits}

module _ (base : ℕ) (p : 0 < base) where
  quotient : (x l : ℕ) → (x * base + l) / base ≡ x + l / base
  quotient x l = ap (λ (z : ℕ). z / base) (add_comm (x * base) l) ∙ add-mul-div_right l x p ∙ add_comm (l / base) x

  remainder : (x l : ℕ) → (x * base + l) % base ≡ l % base
  remainder x l = ap (λ (z : ℕ). z % base) (add_comm (x * base) l) ∙ add-mul-mod_self_right l x base

  -- j digits of h in front of k digits of l
  pub parts : (j k h l : ℕ) → l < base ^ k → digits base (j + k) (h * base ^ k + l) ≡ digits base j h ++ digits base k l
  unfolding digits
  parts j zero h l b =
      let o : l ≡ 0 = omega (arith, pow-zero base) in
      let e : h * base ^ 0 + l ≡ h = rw (pow-zero base, mul-one h, o) (add-zero h) in
      rw (add-zero j, e) (sym (append-nil (digits base j h)))
  parts j (suc k) h l b =
      let q : l / base < base ^ k = (div-lt_iff_lt-mul p).1 (rw (pow-suc base k) at b) in
      let e : h * base ^ suc k ≡ h * base ^ k * base = ap (λ (z : ℕ). h * z) (pow-suc base k) ∙ sym (mul_assoc h (base ^ k) base) in
      rw (add-suc j k, e, quotient (h * base ^ k) l, remainder (h * base ^ k) l, parts j k h (l / base) q)
      (append_assoc (digits base j h) (digits base k (l / base)) (digit (l % base) ∷ []))

nothing : (l : List ℕ) → length l ≡ 0 → l ≡ []
nothing [] e = refl
nothing (x ∷ l) e = absurd (omega arith)

-- what two runs of digits leave, the second in the part behind the first
pub two_runs : (base k h l : ℕ) (out first second : List ℕ) → 0 < base → l < base ^ k → k + k ≤ length out → first ≡ digits base k h ++ drop k out
    → second ≡ digits base k l ++ drop k (take (length first - k) (drop k first))
    → take k first ++ (second ++ drop (length first - k) (drop k first)) ≡ digits base (k + k) (h * base ^ k + l) ++ drop (k + k) out
two_runs base k h l out first second p b r e f =
    let n : length first ≡ length out = ap length e ∙ length-append (digits base k h) (drop k out) ∙ omega (arith, length_digits base k h, length-drop k out) in
    let t : take k first ≡ digits base k h = ap (take k) e ∙ take_at (digits base k h) (drop k out) k (length_digits base k h) in
    let d : drop k first ≡ drop k out = ap (drop k) e ∙ drop_at (digits base k h) (drop k out) k (length_digits base k h) in
    let m : length (drop k first) ≡ length first - k = length-drop k first in
    let a : take (length first - k) (drop k first) ≡ drop k first = take_all (length first - k) (drop k first) (omega arith) in
    let z : drop (length first - k) (drop k first) ≡ [] = nothing _ (length-drop (length first - k) (drop k first) ∙ omega arith) in
    rw (f, t, a, z, d, drop-drop k k out, append-nil, parts base p k k h l b)
    (sym (append_assoc (digits base k h) (digits base k l) (drop (k + k) out)))
