-- The numbers of refusals: document 01, "Calls", as document 02, change 3, parts 11.
use Rattle.std.specs.Prelude.{ℕ, ◌≤◌, ◌≡◌}
use Rattle.std.proofs.Common.{arith}

-- those of a call on one file, from the given number on: up to 22, and 25 for an indent, 26 for an overflow or burden past its width
pub data NumberedFrom (first n : ℕ) : Type 0 where
  listed : first ≤ n → n ≤ 22 → NumberedFrom first n
  indent : n ≡ 25 → NumberedFrom first n
  cost : n ≡ 26 → NumberedFrom first n

-- all of them
abbrev pub Numbered : ℕ → Type 0
Numbered n = NumberedFrom 1 n

-- those of solver and materializer
abbrev pub MachineNumbered : ℕ → Type 0
MachineNumbered n = NumberedFrom 11 n

pub machine_numbered : {n : ℕ} → MachineNumbered n → Numbered n
machine_numbered {n} (listed l h) = listed (omega (arith, l)) h
machine_numbered (indent e) = indent e
machine_numbered (cost e) = cost e

-- none is 0, which stands for a page
pub not_0 : {n : ℕ} → Numbered n → 1 ≤ n
not_0 (listed l h) = l
not_0 {n} (indent e) = omega (arith, e)
not_0 {n} (cost e) = omega (arith, e)

-- 23 and 24 are not among them
no_23 : Numbered 23 → ⊥
no_23 (listed l h) = omega (arith, h)
no_23 (indent e) = omega (arith, e)
no_23 (cost e) = omega (arith, e)

no_24 : Numbered 24 → ⊥
no_24 (listed l h) = omega (arith, h)
no_24 (indent e) = omega (arith, e)
no_24 (cost e) = omega (arith, e)
