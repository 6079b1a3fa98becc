-- Laws of pieces put into a slice.
use mathlib.Core.Path.{◌≡◌, sym, ap, ◌∙◌}
use mathlib.Core.List.{List, ◌++◌, append_assoc}
use Prim.Native.Nat.{ℕ, ◌+◌, ◌≤◌}
use native.Mathlib.Omega.{arith}
use lib.ListN.{length, take, length-append}
use lib.Seq.{take_at, length-take-le}
use Rattle.page_lines.specs.Put.{Put, Front}

-- a piece put at the front of the part from `at` on
pub part_put : (out part piece rest past : List ℕ) (at n : ℕ) → at ≤ length out → part ≡ piece ++ rest → n ≡ length piece → Put out at piece (take at out ++ (part ++ past)) (at + n)
part_put out part piece rest past at n h e q =
    let l : length (take at out) ≡ at = length-take-le at out h in
    let k : length (take at out ++ piece) ≡ at + n = length-append (take at out) piece ∙ omega arith in
    let f : take at out ++ (part ++ past) ≡ (take at out ++ piece) ++ (rest ++ past) =
    rw (e) (ap (λ (z : List ℕ). take at out ++ z) (append_assoc piece rest past) ∙ sym (append_assoc (take at out) piece (rest ++ past))) in
    record { next = ap (λ (z : ℕ). at + z) q; front = ap (take (at + n)) f ∙ take_at (take at out ++ piece) (rest ++ past) (at + n) k }

-- one piece after another
pub and_then : {a b c p q : List ℕ} {i j k : ℕ} → Put a i p b j → Put b j q c k → Put a i (p ++ q) c k
and_then {a} {b} {c} {p} {q} {i} {j} {k} f g = record {
  next = omega (arith, f.next, g.next, length-append p q);
  front = g.front ∙ ap (λ (z : List ℕ). z ++ q) f.front ∙ append_assoc (take i a) p q;
}

-- pieces from the start on are what stands there
pub from_start : {a c p : List ℕ} {k : ℕ} → k ≤ length c → Put a 0 p c k → Front p c k
from_start h f = record { within = h; is = f.front }
