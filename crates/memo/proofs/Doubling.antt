-- The loop of `memo_slots_for`.
use Rattle.std.proofs.Common.{◌≡◌, ℕ, ◌+◌, ◌*◌, ◌/◌, ◌^◌, ◌<◌, ◌≤◌, refl, pow-suc, add-one, arith, below_none, below_more}
use Rattle.memo.specs.Sizes.{Least}

pub record Doubled (entries slots : ℕ) : Type 0 where
  pub k : ℕ
  pub power : slots ≡ 8 * 2 ^ k
  pub least : (j : ℕ) → j < k → 8 * 2 ^ j * 7 / 10 < entries
  pub low : 8 ≤ slots
  pub high : slots < 2 ^ 34

pub eight : (e : ℕ) → Doubled e 8
eight e = record { k = 0; power = refl; least = below_none (λ j. 8 * 2 ^ j * 7 / 10 < e); low = omega arith; high = omega arith }

pub twice : (e s : ℕ) → e < 2 ^ 32 → s * 7 / 10 < e → Doubled e s → Doubled e (s * 2)
twice e s he ht d =
    let q : 2 ^ (d.k + 1) ≡ 2 ^ d.k * 2 = rw add-one (pow-suc 2 d.k) in
    let w : 8 * 2 ^ d.k * 7 / 10 < e = rw d.power at ht in
    record { k = d.k + 1; power = omega arith; least = below_more (λ j. 8 * 2 ^ j * 7 / 10 < e) d.k d.least w; low = omega arith; high = omega arith }

pub enough : {e s : ℕ} → Doubled e s → e ≤ s * 7 / 10 → Least e s
enough d h = record { k = d.k; power = d.power; room = h; least = d.least }
