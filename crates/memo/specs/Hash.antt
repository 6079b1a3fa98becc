-- The hash of a memo key, `memo_hash` of the reference: sums and products are kept modulo 2^64.
use Rattle.std.specs.Prelude.{ℕ, ◌+◌, ◌*◌, ◌/◌, ◌%◌, ◌^◌, bit_xor}
use Rattle.memo.specs.declared.MemoKey.{MemoKey}

-- x xor x shifted right by k
unfoldable pub folded : ℕ → ℕ → ℕ
folded x k = bit_xor x (x / 2 ^ k)

unfoldable pub mixed : ℕ → ℕ → ℕ → ℕ
mixed x k m = folded x k * m % 2 ^ 64

unfoldable pub mix_of : ℕ → ℕ
mix_of v = folded (mixed (mixed ((v + 0x9e3779b97f4a7c15) % 2 ^ 64) 30 0xbf58476d1ce4e5b9) 27 0x94d049bb133111eb) 31

unfoldable pub hash_of : MemoKey → ℕ
hash_of k = mix_of (bit_xor (k.node * 2 ^ 32 + k.column) (mix_of k.indent))
