-- The edges and the choice edges, both ways.
use Rattle.std.specs.Prelude.{◌≡◌, refl, true, List, [], ◌∷◌, ◌++◌, ℕ, zero, suc, ◌≤◌, ◌<◌, length, get_or, take, drop}
use Rattle.std.proofs.Common.{sym, ap, ◌∙◌, true≢false, arith, length-append, drop-cons, take-suc}
use Rattle.file_fields.specs.declared.Step.{Step}
use Rattle.file_fields.specs.Fields.{number_at}
use Rattle.file_form.specs.Numbers.{after_numbers, numbers}
use Rattle.file_encode.specs.Encode.{enc32, each}
use Rattle.file_encode.specs.Fields.{Bytes, Took, and_then, At, at_is, number_back, number_there}
use Rattle.file_encode.specs.NodeTrip.{each_cons, each_snoc}

-- an accepted run of numbers is their encoding
pub record TookNumbers (s : List ℕ) (p : Step) (k : ℕ) : Type 0 where
  pub took : Took s p (after_numbers s p k) (each enc32 (numbers s p k))
  pub count : length (numbers s p k) ≡ k

pub numbers_back : (s : List ℕ) (p : Step) (k : ℕ) → Bytes s → (after_numbers s p k).fault ≡ 0 → TookNumbers s p k
unfolding after_numbers numbers each
numbers_back s p zero z h = record { took = record { prior = h; bytes = refl }; count = refl }
numbers_back s p (suc k) z h =
    let n = number_back s true (after_numbers s p k) z h in
    let r = numbers_back s p k z n.took.prior in
    record {
      took = rw (each_snoc enc32 (numbers s p k) (number_at s true (after_numbers s p k)).value) (and_then r.took n.took);
      count = length-append (numbers s p k) ((number_at s true (after_numbers s p k)).value ∷ []) ∙ omega (arith, r.count);
    }

-- the first k of the numbers are read back, and the others follow
pub record ReadNumbers (s : List ℕ) (p : Step) (xs rest : List ℕ) (k : ℕ) : Type 0 where
  pub next : At s (after_numbers s p k) (each enc32 (drop k xs) ++ rest)
  pub numbers_are : numbers s p k ≡ take k xs

pub numbers_there : (s : List ℕ) (p : Step) (xs rest : List ℕ) → At s p (each enc32 xs ++ rest) → (k : ℕ) → k ≤ length xs → ReadNumbers s p xs rest k
unfolding after_numbers numbers
numbers_there s p xs rest h zero l = record { next = h; numbers_are = refl }
numbers_there s p xs rest h (suc k) l =
    let r = numbers_there s p xs rest h k (omega arith) in
    let lt : k < length xs = omega arith in
    let e : each enc32 (drop k xs) ≡ enc32 (get_or xs k 0) ++ each enc32 (drop (suc k) xs) = ap (each enc32) (drop-cons xs k 0 lt) ∙ each_cons enc32 (get_or xs k 0) (drop (suc k) xs) in
    let n = number_there s true (after_numbers s p k) (get_or xs k 0) (each enc32 (drop (suc k) xs) ++ rest) (λ z. absurd (true≢false z)) (at_is r.next (ap (λ (x : List ℕ). x ++ rest) e)) in
    record { next = n.next; numbers_are = rw (r.numbers_are, n.value) (sym (take-suc xs k 0 lt)) }
