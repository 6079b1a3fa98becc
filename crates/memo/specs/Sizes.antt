-- How many slots a memo of so many entries takes.
use Rattle.std.specs.Prelude.{◌≡◌, ℕ, ◌*◌, ◌/◌, ◌^◌, ◌<◌, ◌≤◌, ◌≢◌}

-- the least 8·2^k of which seven tenths, rounded down, are at least `entries`
pub record Least (entries slots : ℕ) : Type 0 where
  pub k : ℕ
  pub power : slots ≡ 8 * 2 ^ k
  pub room : entries ≤ slots * 7 / 10
  pub least : (j : ℕ) → j < k → 8 * 2 ^ j * 7 / 10 < entries

pub record SlotsFor (entries slots : ℕ) : Type 0 where
  pub none : entries ≡ 0 → slots ≡ 0
  pub some : (entries ≢ 0) → Least entries slots
