-- Any charge that is 0 up to the width and rises from there by steps that never shrink: smaller columns are never dearer.
use Rattle.std.specs.Prelude.{◌≡◌, ℕ, zero, suc, ◌+◌, ◌-◌, ◌*◌, ◌^◌, ◌<◌, ◌≤◌, Bool, true, false, cond, ◌==◌}
use Rattle.std.proofs.Common.{ap, add-suc, add-zero, mul-le-mul, mul-add, add-mul, mul_comm, arith}
use Rattle.cost.specs.Charge.{over, squared, charged}

pub record Rising (width : ℕ) (charge : ℕ → ℕ) : Type 0 where
  pub free : (c : ℕ) → c ≤ width → charge c ≡ 0
  pub up : (c : ℕ) → charge c ≤ charge (suc c)
  pub more : (c : ℕ) → charge (suc c) + charge (suc c) ≤ charge (suc (suc c)) + charge c

module _ {w : ℕ} {g : ℕ → ℕ} (h : Rising w g) where
  grows : (a d : ℕ) → g a ≤ g (a + d)
  grows a zero = rw (add-zero a) (omega arith)
  grows a (suc d) = rw (add-suc a d) (omega (arith, grows a d, h.up (a + d)))

  one_step : (a d : ℕ) → g (suc a) + g (a + d) ≤ g (suc (a + d)) + g a
  one_step a zero = rw (add-zero a) (omega arith)
  one_step a (suc d) = rw (add-suc a d) (omega (arith, one_step a d, h.more (a + d)))

  many : (a d k : ℕ) → g (a + k) + g (a + d) ≤ g (a + d + k) + g a
  many a d zero = rw (add-zero a, add-zero (a + d)) (omega arith)
  many a d (suc k) =
      let e : a + d + k ≡ a + k + d = omega arith in
      rw (add-suc a k, add-suc (a + d) k) (omega (arith, many a d k, one_step (a + k) d, ap g e, ap (λ (z : ℕ). g (suc z)) e))

  -- a line of fewer columns is charged no more
  pub rises : (a b : ℕ) → a ≤ b → g a ≤ g b
  rises a b le = let e : b ≡ a + (b - a) = omega arith in rw e (grows a (b - a))

  -- text further left is charged no more
  pub steeper : (a b k : ℕ) → a ≤ b → g (a + k) + g b ≤ g (b + k) + g a
  steeper a b k le = let e : b ≡ a + (b - a) = omega arith in rw e (many a (b - a) k)

  pub at_zero : g 0 ≡ 0
  at_zero = h.free 0 (omega arith)

corner : (x s t : ℕ) → (x + s) * (x + s) + (x + t) * (x + t) ≤ (x + s + t) * (x + s + t) + x * x
corner x s t = simp (add-mul, mul-add) (omega (arith, mul_comm x s, mul_comm x t, mul_comm s t))

-- squares of numbers that rise by steps that never shrink
square_steeper : (x y z : ℕ) → x ≤ y → y + y ≤ z + x → y * y + y * y ≤ z * z + x * x
square_steeper x y z h k =
    let p : y ≡ x + (y - x) = omega arith in
    let r : (x + (y - x) + (y - x)) * (x + (y - x) + (y - x)) ≤ z * z = mul-le-mul (omega arith) (omega arith) in
    omega (arith, r, corner x (y - x) (y - x), ap (λ (z : ℕ). z * z) p)

pub squared_rising : (w : ℕ) → Rising w (squared w)
squared_rising w = record {
  free = λ c h. let e : c - w ≡ 0 = omega arith in rw e;
  up = λ c. mul-le-mul (omega arith) (omega arith);
  more = λ c. square_steeper (c - w) (suc c - w) (suc (suc c) - w) (omega arith) (omega arith);
}

-- the excess itself rises so too
pub over_rising : (w : ℕ) → Rising w (over w)
over_rising w = record { free = λ c h. omega arith; up = λ c. omega arith; more = λ c. omega arith }

-- and so does what either rule charges
either_rising : (w : ℕ) (t : Bool) → Rising w (λ c. cond t (over w c) (squared w c))
either_rising w true = over_rising w
either_rising w false = squared_rising w

pub charged_rising : (r w : ℕ) → Rising w (charged r w)
unfolding charged
charged_rising r w = either_rising w (r == 2)

-- a square of a number below 2^32 has a place in 64 bits, and so has what a column is charged
pub square_small : (n : ℕ) → n < 2 ^ 32 → n * n < 2 ^ 64
square_small n h =
    let m : n ≤ 4294967295 = omega arith in
    let k : n * n ≤ 4294967295 * 4294967295 = mul-le-mul m m in omega (arith, k)

either_small : (t : Bool) (n : ℕ) → n < 2 ^ 32 → cond t n (n * n) < 2 ^ 64
either_small true n h = omega arith
either_small false n h = square_small n h

pub charged_small : (r w c : ℕ) → c < 2 ^ 32 → charged r w c < 2 ^ 64
unfolding charged
charged_small r w c h = either_small (r == 2) (c - w) (omega arith)
