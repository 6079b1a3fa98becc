-- One element removed from a list that grows at its end.
use mathlib.Core.Path.{◌≡◌, refl, sym, ap, ap₂, ◌∙◌}
use mathlib.Core.Bool.{Bool, true, false}
use mathlib.Core.List.{List, [], ◌∷◌, ◌++◌, append_assoc, append-nil}
use Prim.Native.Nat.{ℕ, ◌+◌, ◌<◌}
use native.Mathlib.Omega.{arith}
use lib.Dec.{ltb}
use borrow.Author.Tests.{ltb-true, ltb-false}
use lib.ListN.{length, take, drop, length-append, drop_of_length-le}
use lib.Seq.{take_at, take-append-le, drop-append-le}
use Rattle.report.specs.Report.{remove_at}
use Rattle.report.specs.Lists.{remove_none}

module _ {A : Type 0} where
  pub removed_nil : (k : ℕ) → remove_at {A = A} k 1 [] ≡ []
  removed_nil k = remove_none k [] (omega arith)

  -- the new one is the one
  pub removed_last : (l : List A) (x : A) (k : ℕ) → k ≡ length l → remove_at k 1 (l ++ (x ∷ [])) ≡ remove_at k 1 l
  removed_last l x k e =
      ap₂ (λ (a b : List A). a ++ b) (take_at l (x ∷ []) k (sym e)) (drop_of_length-le (l ++ (x ∷ [])) {i = k + 1} (omega (arith, length-append l (x ∷ [])))) ∙ append-nil l ∙ sym (remove_none k l (omega arith))

  -- it is one before, or none yet
  removed_before : (l : List A) (x : A) (k : ℕ) → k < length l → remove_at k 1 (l ++ (x ∷ [])) ≡ remove_at k 1 l ++ (x ∷ [])
  removed_before l x k h =
      ap₂ (λ (a b : List A). a ++ b) (take-append-le k l (x ∷ []) (omega arith)) (drop-append-le (k + 1) l (x ∷ []) (omega arith)) ∙ sym (append_assoc (take k l) (drop (k + 1) l) (x ∷ []))

  removed_later : (l : List A) (x : A) (k : ℕ) → length l < k → remove_at k 1 (l ++ (x ∷ [])) ≡ remove_at k 1 l ++ (x ∷ [])
  removed_later l x k h = remove_none k (l ++ (x ∷ [])) (omega (arith, length-append l (x ∷ []))) ∙ ap (λ (a : List A). a ++ (x ∷ [])) (sym (remove_none k l (omega arith)))

  pub removed_other : (l : List A) (x : A) (k : ℕ) → (k ≡ length l → ⊥) → remove_at k 1 (l ++ (x ∷ [])) ≡ remove_at k 1 l ++ (x ∷ [])
  removed_other l x k h = go (ltb k (length l)) (ltb (length l) k) refl refl
    where
      go : (a b : Bool) → ltb k (length l) ≡ a → ltb (length l) k ≡ b → remove_at k 1 (l ++ (x ∷ [])) ≡ remove_at k 1 l ++ (x ∷ [])
      go true b e f = removed_before l x k (ltb-true k (length l) e)
      go false true e f = removed_later l x k (ltb-true (length l) k f)
      go false false e f = absurd (h (omega (arith, ltb-false k (length l) e, ltb-false (length l) k f)))
