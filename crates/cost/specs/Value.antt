-- What the stored words of a cost stand for, and which costs have a place in them: overflow below 2^128, burden below 2^64, columns below 2^32.
use Rattle.std.specs.Prelude.{ℕ, ◌+◌, ◌*◌, ◌^◌, Bool, true, false, nat_lt, Some, None, Result, Ok, Err}
use Rattle.std.specs.Prelude.{Option as Optional}
use Rattle.std.proofs.Math.Option.{Option, none, some}
use Rattle.cost.specs.Cost.{Cost}
use Rattle.cost.specs.Charge.{charged, text_cost, newline_cost}
use Rattle.cost.specs.declared.Reason.{Reason}
use Rattle.cost.specs.declared.Reason.TheVariants.{Column, Indent, Overflow, Burden}
use Rattle.cost.specs.declared.ConsumerCost.{ConsumerCost}

abbrev pub pick_option : Bool → ℕ → Option ℕ
pick_option true n = some n
pick_option false n = none

-- the overflow of two 64-bit halves
abbrev pub halves : ℕ → ℕ → ℕ
halves high low = high * 2 ^ 64 + low

-- an overflow, or none where it has no place in two halves
abbrev pub halved : Optional (ℕ × ℕ) → Option ℕ
halved (Some (high, low)) = some (halves high low)
halved None = none

unfoldable pub halved_within : ℕ → Option ℕ
halved_within n = pick_option (nat_lt n (2 ^ 128)) n

abbrev pub value : ConsumerCost → Cost
value c = record { overflow = halves c.overflow_high c.overflow_low; burden = c.burden }

-- a cost, or what has no place in its width
pub data Outcome : Type 0 where
  cost : Cost → Outcome
  past : Reason → Outcome

abbrev pub if_so : Bool → Outcome → Outcome → Outcome
if_so true a b = a
if_so false a b = b

-- a cost within its widths: the overflow is looked at first
unfoldable pub within : Cost → Outcome
within c = if_so (nat_lt c.overflow (2 ^ 128)) (if_so (nat_lt c.burden (2 ^ 64)) (cost c) (past Burden)) (past Overflow)

-- the text's cost under rule r at page width w, where its last column is below 2^32
unfoldable pub text_outcome : ℕ → ℕ → ℕ → ℕ → Outcome
text_outcome r w column width = if_so (nat_lt (column + width) (2 ^ 32)) (cost (text_cost (charged r w) column width)) (past Column)

-- a newline's cost under rule r at page width w, where it is within its widths
unfoldable pub newline_outcome : ℕ → ℕ → ℕ → ℕ → Outcome
newline_outcome r w newline indent = within (newline_cost (charged r w) newline indent)

-- an answer's case and value
abbrev pub outcome : Result ConsumerCost Reason → Outcome
outcome (Ok c) = cost (value c)
outcome (Err r) = past r

-- the refusal's number for what is past its width: document 01, as document 02, change 3, parts it
abbrev pub domain_number : Reason → ℕ
domain_number Column = 11
domain_number Indent = 25
domain_number Overflow = 26
domain_number Burden = 26
