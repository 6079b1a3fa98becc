-- The two halves of a packed word.
use Rattle.std.proofs.Common.{◌≡◌, ℕ, ◌+◌, ◌*◌, ◌%◌, ◌^◌, ◌<◌, ap, ◌∙◌, mod-eq_of_lt, arith}
use lib.Bits.{bit_or, or_shifted}

pub packed : (n c : ℕ) → n < 2 ^ 32 → c < 2 ^ 32 → bit_or (n * 2 ^ 32 % 2 ^ 64) c ≡ n * 2 ^ 32 + c
packed n c hn hc =
    let h : n * 2 ^ 32 < 2 ^ 64 = omega arith in
    ap (λ z. bit_or z c) (mod-eq_of_lt h) ∙ or_shifted n 32 c hc
