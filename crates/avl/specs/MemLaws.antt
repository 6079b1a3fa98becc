-- What a store changes. Nothing else opens `word` or `put`.
use Rattle.std.specs.Prelude.{◌≡◌, ◌≢◌, List, ℕ, ◌+◌, ◌*◌, ◌<◌, length}
use Rattle.std.proofs.Common.{arith, length-set, get_or-set_same, get_or-set_other}
use Rattle.avl.specs.Mem.{word, put, At}

pub at_len : {m n : List ℕ} {t : ℕ} → length n ≡ length m → At m t → At n t
at_len e h = record { room = omega arith }

pub len_put : (m : List ℕ) (s k x : ℕ) → length (put m s k x) ≡ length m
unfolding put
len_put m s k x = simp length-set

pub same : (m : List ℕ) (s k x : ℕ) → At m s → k < 14 → word (put m s k x) s k ≡ x
unfolding word put
same m s k x h l = get_or-set_same m (s * 14 + k) x 0 (omega arith)

pub other_field : (m : List ℕ) (s k x : ℕ) (t j : ℕ) → j ≢ k → k < 14 → j < 14 → word (put m s k x) t j ≡ word m t j
unfolding word put
other_field m s k x t j n l o = get_or-set_other m (s * 14 + k) (t * 14 + j) x 0 (λ e. n (omega arith))

pub other_slot : (m : List ℕ) (s k x : ℕ) (t j : ℕ) → t ≢ s → k < 14 → j < 14 → word (put m s k x) t j ≡ word m t j
unfolding word put
other_slot m s k x t j n l o = get_or-set_other m (s * 14 + k) (t * 14 + j) x 0 (λ e. n (omega arith))
