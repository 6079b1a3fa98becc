-- What is well formed by itself is so in a row with more of it: for pages, which are texts, newlines and spaces.
use Rattle.std.specs.Prelude.{List, ◌∷◌, ◌++◌, ℕ, zero, suc, replicate}
use Rattle.std.proofs.Common.{arith}
use Rattle.file_utf8.specs.Utf8.{Utf8, nothing, one, two, three_e0, three_e1, three_ed, three_ee, four_f0, four_f1, four_f4}

pub joined : (s t : List ℕ) → Utf8 s → Utf8 t → Utf8 (s ++ t)
joined _ t nothing v = v
joined _ t (one {s = s} p u) v = one p (joined s t u v)
joined _ t (two {s = s} p q u) v = two p q (joined s t u v)
joined _ t (three_e0 {s = s} p q r u) v = three_e0 p q r (joined s t u v)
joined _ t (three_e1 {s = s} p q r u) v = three_e1 p q r (joined s t u v)
joined _ t (three_ed {s = s} p q r u) v = three_ed p q r (joined s t u v)
joined _ t (three_ee {s = s} p q r u) v = three_ee p q r (joined s t u v)
joined _ t (four_f0 {s = s} p q r w u) v = four_f0 p q r w (joined s t u v)
joined _ t (four_f1 {s = s} p q r w u) v = four_f1 p q r w (joined s t u v)
joined _ t (four_f4 {s = s} p q r w u) v = four_f4 p q r w (joined s t u v)

pub spaces : (n : ℕ) → Utf8 (replicate n 32)
spaces zero = nothing
spaces (suc n) = one {a = 32} (record { least = omega arith; most = omega arith }) (spaces n)

pub newline_to : (n : ℕ) → Utf8 (10 ∷ replicate n 32)
newline_to n = one {a = 10} (record { least = omega arith; most = omega arith }) (spaces n)
