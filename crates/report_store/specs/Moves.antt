-- Items that move within their store.
use Rattle.std.specs.Prelude.{List, ℕ, ◌+◌, ◌-◌, drop}
use Rattle.std.proofs.Math.Seq.{paste}

-- what stands from `at` to `used` has moved up by n places; all below and above is as it was
abbrev pub moved_up : {A : Type 0} → List A → ℕ → ℕ → ℕ → List A
moved_up m used at n = paste m (at + n) (drop at m) (used - at)
