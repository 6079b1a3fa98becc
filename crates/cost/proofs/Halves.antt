-- Numbers of two digits at a base b: sums and order. Over any base, since the base in use is too large for omega's own numbers.
use Rattle.std.proofs.Common.{◌≡◌, ℕ, ◌+◌, ◌*◌, ◌<◌, ◌≤◌, ap, mul-le-mul_right, add-mul, one-mul, arith}
use Rattle.std.proofs.Math.Nat.{mul_assoc}

module _ (b : ℕ) where
  next : (h : ℕ) → (h + 1) * b ≡ h * b + b
  next h = omega (arith, add-mul h 1 b, one-mul b)

  -- a larger high digit is a larger number
  pub high_less : (h l k m : ℕ) → h < k → l < b → h * b + l < k * b + m
  high_less h l k m p q = omega (arith, next h, mul-le-mul_right {m = h + 1} {n = k} b (omega arith))

  pub low_less : (h l k m : ℕ) → h ≡ k → l < m → h * b + l < k * b + m
  low_less h l k m p q = omega (arith, ap (λ (z : ℕ). z * b) p)

  pub same : (h l k m : ℕ) → h ≡ k → l ≡ m → h * b + l ≡ k * b + m
  same h l k m p q = omega (arith, ap (λ (z : ℕ). z * b) p)

  -- two digits are below the square of the base
  pub two_digits : (h l : ℕ) → h < b → l < b → h * b + l < b * b
  two_digits h l p q = omega (arith, next h, mul-le-mul_right {m = h + 1} {n = b} b (omega arith))

  -- a sum of two numbers by its digits: c is what the low digits carry, p what the high ones carry beyond
  carried : (h l k m c p s t : ℕ) → s + c * b ≡ l + m + 0 → t + p * b ≡ h + k + c → t * b + s + p * (b * b) ≡ h * b + l + (k * b + m)
  carried h l k m c p s t e f = omega (arith, add-mul t (p * b) b, add-mul (h + k) c b, add-mul h k b, mul_assoc p b b, ap (λ (z : ℕ). z * b) f)

  pub sum_past : (h l k m c s t : ℕ) → s + c * b ≡ l + m + 0 → t + 1 * b ≡ h + k + c → b * b ≤ h * b + l + (k * b + m)
  sum_past h l k m c s t e f = omega (arith, carried h l k m c 1 s t e f, one-mul (b * b))

  pub sum_is : (h l k m c s t : ℕ) → s + c * b ≡ l + m + 0 → t + 0 * b ≡ h + k + c → t * b + s ≡ h * b + l + (k * b + m)
  sum_is h l k m c s t e f = omega (arith, carried h l k m c 0 s t e f)
