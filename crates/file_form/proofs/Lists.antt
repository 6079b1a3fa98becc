-- Laws on lists that several proofs cite.
use mathlib.Core.Path.{◌≡◌, sym, ap, ◌∙◌}
use mathlib.Core.List.{List, ◌++◌, append_assoc, append-nil}
use Prim.Native.Nat.{ℕ, ◌+◌, ◌-◌, ◌≤◌}
use native.Mathlib.Omega.{arith}
use lib.ListN.{length, take, drop, length-append, length-drop, drop_of_length-le}
use lib.Seq.{sets, length-sets, sets-eq, take_at, take_all, drop-drop, length-take-le}

-- what a run of stores leaves at the front
pub take_sets : (l vs : List ℕ) (i n : ℕ) → n ≡ i + length vs → n ≤ length l → take n (sets l i vs) ≡ take i l ++ vs
take_sets l vs i n e h =
    let h₁ : i + length vs ≤ length l = omega arith in
    let h₂ : i ≤ length l = omega arith in
    let k : length (take i l ++ vs) ≡ n = length-append (take i l) vs ∙ ap (λ (m : ℕ). m + length vs) (length-take-le i l h₂) ∙ sym e in
    rw (sets-eq vs l i h₁) (take_at (take i l ++ vs) (drop (i + length vs) l) n k)

-- a part from a place on, given back with src at its front, is a run of stores
pub put_back :
    (b src ys : List ℕ) (at k : ℕ) → k ≡ length b - at → at + length src ≤ length b → ys ≡ src ++ drop (length src) (take k (drop at b))
    → take at b ++ (ys ++ drop k (drop at b)) ≡ sets b at src
put_back b src ys at k ek h ey =
    let l : length (drop at b) ≤ k = simp length-drop (omega arith) in
    rw (ey, take_all k (drop at b) l, drop_of_length-le (drop at b) l, append-nil, drop-drop (length src) at b, sets-eq src b at h)
    (sym (append_assoc (take at b) src (drop (at + length src) b)))

-- a run of stores keeps the length
pub put_length : (b b' src : List ℕ) (at : ℕ) → b' ≡ sets b at src → length b' ≡ length b
put_length b b' src at e = rw e (length-sets b at src)
