-- The rules of any settings are lawful, under either cost rule.
use Rattle.std.specs.Prelude.{ℕ, zero, suc, ◌≤◌}
use Rattle.std.proofs.Common.{arith}
use Rattle.cost.specs.Rising.{charged_rising}
use Rattle.layout.specs.Rules.{policy, charging}
use Rattle.layout.specs.Lawful.{Lawful}

pub policy_lowers : (p w a b : ℕ) → a ≤ b → policy p w a ≤ policy p w b
policy_lowers zero w a b h = h
policy_lowers (suc p) w a b h = omega arith

pub charging_lawful : (r w n p : ℕ) → Lawful (charging r w n p)
charging_lawful r w n p = record { width = w; rising = charged_rising r w; lowers = policy_lowers p w }
