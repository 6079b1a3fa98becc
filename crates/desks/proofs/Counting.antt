-- Laws for the number of the gate.
use mathlib.Core.Path.{◌≡◌, refl, sym}
use mathlib.Core.Bool.{Bool, true, false, not}
use Prim.Native.Nat.{ℕ, ◌≤◌, ◌<◌}
use native.Mathlib.Omega.{arith}
use borrow.Author.Tests.{lt-ltb, le-ltb}
use Rattle.render.proofs.Ordered.{was_false, was_true}
use Rattle.desks.specs.Desks.{last_desk, gate_number}

pub unordered : (a : Bool) (d : ℕ) → not a ≡ true → 1 ≡ gate_number a d
unordered a d e = rw (was_false a e) refl

pub gate_28 : (d : ℕ) → last_desk < d → gate_number true d ≡ 28
gate_28 d h = rw (lt-ltb last_desk d h) refl

pub gate_0 : (d : ℕ) → d ≤ last_desk → gate_number true d ≡ 0
gate_0 d h = rw (le-ltb last_desk d h) refl

pub no_desk : (a : Bool) (d : ℕ) → not a ≡ false → 7 < d → 28 ≡ gate_number a d
no_desk a d e f = rw (was_true a e) (sym (gate_28 d (omega (arith, f))))

pub a_desk : (a : Bool) (d : ℕ) → not a ≡ false → d ≤ 7 → 0 ≡ gate_number a d
a_desk a d e f = rw (was_true a e) (sym (gate_0 d (omega (arith, f))))
