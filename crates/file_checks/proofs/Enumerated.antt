-- The references of a node, one after the other.
use mathlib.Core.Path.{◌≡◌, refl}
use mathlib.Core.Bool.{Bool, true, false}
use mathlib.Core.Logic.{by_cases}
use mathlib.Core.Option.{some}
use mathlib.Core.List.{List, []}
use Prim.Native.Nat.{ℕ, ◌≤◌, ◌<◌}
use native.Mathlib.Omega.{arith}
use native.Mathlib.Decide.{ℕ_discrete, dec_lt}
use lib.ListN.{length, get_or}
use lib.Dec.{eqb}
use borrow.Author.Tests.{eq-eqb, ne_eqb, le-leb, lt-leb}
use Rattle.file_tables.specs.Tables.{Tables, kind, first, flat_mark, flat_word, if_marked}
use Rattle.file_checks.specs.References.{of_group, of_nest, of_align, preferred, alternative, of_annotate, of_penalty, seq, fill, References}
use Rattle.file_checks.specs.Circle.{Refers, child, edge, flat_of_child}
use Rattle.file_checks.specs.Descent.{Closed}
use Rattle.file_checks.specs.Search.{pick, degree, target, degree_of, target_of}

-- a flat node is present where the mark is 1
pub marked : (b : Bool) (n j : ℕ) → if_marked b n ≡ some j → (b ≡ true) × (n ≡ j)
marked true n j e = (refl, cc)
marked false n j e = let z : ◌≡◌ {A = ℕ} 0 1 = cc in absurd (omega arith)

-- j is one of the references of i
pub record Nth (nodes : List (List ℕ)) (edges : List ℕ) (i j : ℕ) : Type 0 where
  pub nth : ℕ
  pub below : nth < degree nodes i
  pub there : target nodes edges i nth ≡ j

above : (κ : ℕ) → (κ < 7 → ⊥) → (κ ≡ 7 → ⊥) → (κ ≡ 8 → ⊥) → (κ ≡ 9 → ⊥) → (κ ≡ 10 → ⊥) → (κ ≡ 11 → ⊥) → 11 < κ
above κ l a b c d e = omega arith

lower : (κ : ℕ) → 11 < κ → 6 < κ
lower κ l = omega arith

most : (κ : ℕ) → κ < 7 → κ ≤ 6
most κ l = omega arith

module _ (nodes : List (List ℕ)) (edges : List ℕ) (i : ℕ) where
  pub nth_of : {j : ℕ} → Refers nodes edges i j → Nth nodes edges i j
  unfolding degree_of target_of
  nth_of (child (of_group e)) =
      record { nth = 0; below = rw e (go (eqb (flat_mark (get_or nodes (first (get_or nodes i [])) [])) 1)); there = rw e }
    where
      go : (b : Bool) → 0 < pick b 2 1
      go true = omega arith
      go false = omega arith
  nth_of (child (of_nest e)) = record { nth = 0; below = rw e (omega arith); there = rw e }
  nth_of (child (of_align e)) = record { nth = 0; below = rw e (omega arith); there = rw e }
  nth_of (child (preferred e)) = record { nth = 0; below = rw e (omega arith); there = rw e }
  nth_of (child (alternative e)) = record { nth = 1; below = rw e (omega arith); there = rw e }
  nth_of (child (of_annotate e)) = record { nth = 0; below = rw e (omega arith); there = rw e }
  nth_of (child (of_penalty e)) = record { nth = 0; below = rw e (omega arith); there = rw e }
  nth_of (edge k (seq e) h) = record { nth = k; below = rw e h; there = rw e }
  nth_of (edge k (fill e) h) = record { nth = k; below = rw e h; there = rw e }
  nth_of (flat_of_child e f) =
      let m = marked (eqb (flat_mark (get_or nodes (first (get_or nodes i [])) [])) 1) _ _ f in
      record { nth = 1; below = rw (e, m.0) (omega arith); there = rw e m.1 }

  of_five : (k : ℕ) → kind (get_or nodes i []) ≡ 5 → k < degree nodes i → Refers nodes edges i (target nodes edges i k)
  unfolding degree_of target_of
  of_five k e h =
      let to = get_or nodes (first (get_or nodes i [])) [] in
      by_cases (ℕ_discrete k 0)
      (λ z. rw (e, eq-eqb k 0 z) (child (of_group e)))
      (λ z. by_cases (ℕ_discrete (flat_mark to) 1)
      (λ m. rw (e, ne_eqb k 0 z) (flat_of_child {j = flat_word to} e (rw (eq-eqb (flat_mark to) 1 m))))
      (λ m. absurd (let l : k < 1 = rw (e, ne_eqb (flat_mark to) 1 m) at h in omega arith)))

  of_nine : (k : ℕ) → kind (get_or nodes i []) ≡ 9 → Refers nodes edges i (target nodes edges i k)
  unfolding target_of
  of_nine k e =
      by_cases (ℕ_discrete k 0) (λ z. rw (e, eq-eqb k 0 z) (child (preferred e))) (λ z. rw (e, ne_eqb k 0 z) (child (alternative e)))

  no_other :
      (kind (get_or nodes i []) ≡ 4 → ⊥) → (kind (get_or nodes i []) ≡ 5 → ⊥) → (kind (get_or nodes i []) ≡ 6 → ⊥)
      → (kind (get_or nodes i []) ≡ 7 → ⊥) → (kind (get_or nodes i []) ≡ 8 → ⊥) → (kind (get_or nodes i []) ≡ 9 → ⊥)
      → (kind (get_or nodes i []) ≡ 10 → ⊥) → (kind (get_or nodes i []) ≡ 11 → ⊥) → degree nodes i ≡ 0
  unfolding degree_of
  no_other n4 n5 n6 n7 n8 n9 n10 n11 =
      by_cases (dec_lt (kind (get_or nodes i [])) 7)
      (λ l. rw (ne_eqb _ 4 n4, ne_eqb _ 6 n6, ne_eqb _ 5 n5, ne_eqb _ 9 n9, le-leb (kind (get_or nodes i [])) 6 (most _ l)))
      (λ l. let g : 11 < kind (get_or nodes i []) = above _ l n7 n8 n9 n10 n11 in
      rw (ne_eqb _ 4 n4, ne_eqb _ 6 n6, ne_eqb _ 5 n5, ne_eqb _ 9 n9, lt-leb (kind (get_or nodes i [])) 6 (lower _ g), lt-leb (kind (get_or nodes i [])) 11 g))

  pub nth_refers : (k : ℕ) → k < degree nodes i → Refers nodes edges i (target nodes edges i k)
  unfolding degree_of target_of
  nth_refers k h =
      by_cases (ℕ_discrete (kind (get_or nodes i [])) 4) (λ e. rw e (edge k (seq e) (rw e at h)))
      (λ n4. by_cases (ℕ_discrete (kind (get_or nodes i [])) 5) (λ e. of_five k e h)
      (λ n5. by_cases (ℕ_discrete (kind (get_or nodes i [])) 6) (λ e. rw e (edge k (fill e) (rw e at h)))
      (λ n6. by_cases (ℕ_discrete (kind (get_or nodes i [])) 7) (λ e. rw e (child (of_nest e)))
      (λ n7. by_cases (ℕ_discrete (kind (get_or nodes i [])) 8) (λ e. rw e (child (of_align e)))
      (λ n8. by_cases (ℕ_discrete (kind (get_or nodes i [])) 9) (λ e. of_nine k e)
      (λ n9. by_cases (ℕ_discrete (kind (get_or nodes i [])) 10) (λ e. rw e (child (of_annotate e)))
      (λ n10. by_cases (ℕ_discrete (kind (get_or nodes i [])) 11) (λ e. rw e (child (of_penalty e)))
      (λ n11. absurd (let z : degree nodes i ≡ 0 = no_other n4 n5 n6 n7 n8 n9 n10 n11 in omega arith)))))))))

-- where 6 was passed, every node refers to nodes of the table
pub closed : (t : Tables) → References t → Closed t.nodes t.edges
closed t r = record { within = within }
  where
    within : (i j : ℕ) → i < length t.nodes → Refers t.nodes t.edges i j → j < length t.nodes
    within i j h (child c) = (r.nodes.each i h).by_kind.child j c
    within i j h (edge k g l) = r.edges.below _ (omega (arith, (r.nodes.each i h).by_kind.edge_range g))
    within i j h (flat_of_child e f) = (r.nodes.each (first (get_or t.nodes i [])) ((r.nodes.each i h).by_kind.child _ (of_group e))).flat_node j f
