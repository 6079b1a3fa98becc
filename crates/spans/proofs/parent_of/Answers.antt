use Rattle.std.proofs.Common.{◌≡◌, ℕ, zero, suc, ◌-◌, refl, arith}
use Rattle.std.specs.Prelude.{Some}
use Rattle.spans.specs.Spans.{parent_from}
use Rattle.spans.proofs.parent_of.Goals as goal

-- a word that is not 0 is a span's number and one more
past : (w : ℕ) → (w ≡ 0 → ⊥) → Some (record { 0 = w - 1 }) ≡ parent_from w
unfolding parent_from
past zero f = absurd (f refl)
past (suc k) f = let e : suc k - 1 ≡ k = omega arith in rw e

pub returns-then-w-eq0 : goal.returns-then-w-eq0
unfolding parent_from
returns-then-w-eq0 c = rw c.if-w-eq0.true

pub returns-else-w-eq0 : goal.returns-else-w-eq0
returns-else-w-eq0 c = past c.args.w c.if-w-eq0.false
