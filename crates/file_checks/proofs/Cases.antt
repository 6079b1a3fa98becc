-- Small tables that tell readings of the rules apart.
use mathlib.Core.Path.{◌≡◌, refl}
use mathlib.Core.List.{List, [], ◌∷◌}
use Prim.Native.Nat.{ℕ}
use native.Mathlib.Omega.{arith}
use lib.ListN.{length}
use Rattle.file_checks.specs.Circle.{Refers, flat_of_child, one, Circle}
use Rattle.file_checks.specs.Choice.{here, later, Comes, as_it_is, step, two}
use Rattle.file_checks.specs.Search.{degree_of}
use Rattle.file_checks.proofs.Enumerated.{nth_of}
use Rattle.file_checks.proofs.Orders.{comes_length}

abbrev empty : List ℕ
empty = 0 ∷ 0 ∷ 0 ∷ 0 ∷ 0 ∷ 0 ∷ 0 ∷ 0 ∷ []

-- an Empty whose flat node is itself refers to nothing
unfoldable pub own_flat : List (List ℕ)
own_flat = (0 ∷ 0 ∷ 0 ∷ 1 ∷ 0 ∷ 0 ∷ 0 ∷ 0 ∷ []) ∷ []

pub own_flat_is_none : (j : ℕ) → Refers own_flat [] 0 j → ⊥
unfolding own_flat degree_of
own_flat_is_none j r = omega (arith, (nth_of own_flat [] 0 r).below)

-- a Group whose child's flat node is the Group leads back to itself
unfoldable pub group_flat : List (List ℕ)
group_flat = (5 ∷ 1 ∷ 0 ∷ 0 ∷ 0 ∷ 0 ∷ 0 ∷ 0 ∷ []) ∷ (0 ∷ 0 ∷ 0 ∷ 1 ∷ 0 ∷ 0 ∷ 0 ∷ 0 ∷ []) ∷ []

pub group_flat_is_circle : Circle group_flat []
unfolding group_flat
group_flat_is_circle = record { node = 0; inside = omega arith; back = one (flat_of_child refl refl) }

-- 0 is a Choice of 1 and 1, and 1 one of 2 and 2: one replacement may be made in either place
unfoldable pub twice : List (List ℕ)
twice = (9 ∷ 1 ∷ 1 ∷ 0 ∷ 0 ∷ 0 ∷ 3 ∷ 1 ∷ []) ∷ (9 ∷ 2 ∷ 2 ∷ 0 ∷ 0 ∷ 0 ∷ 0 ∷ 0 ∷ []) ∷ empty ∷ []

pub first_replaced : Comes twice 1 (1 ∷ 1 ∷ []) (2 ∷ 2 ∷ 1 ∷ [])
unfolding twice
first_replaced = step (here refl) as_it_is

pub second_replaced : Comes twice 1 (1 ∷ 1 ∷ []) (1 ∷ 2 ∷ 2 ∷ [])
unfolding twice
second_replaced = step (later (here refl)) as_it_is

-- no list of one is right, whatever is skipped
pub one_is_wrong : (nodes : List (List ℕ)) (row xs : List ℕ) (k : ℕ) → length xs ≡ 1 → Comes nodes k (two row) xs → ⊥
one_is_wrong nodes row xs k e c = let l = comes_length c in omega arith
