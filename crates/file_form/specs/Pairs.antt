-- Which fields a node may carry, worked out from its kind (document 02, change 4): what document 01 says under "Prepared file", Node and Kinds, without a list of the
-- kinds. That the tests of reader and writer say this, of all numbers; and how many of the 65,536 pairs of bytes are right.
use Rattle.std.specs.Prelude.{◌≡◌, refl, Bool, true, not, cond, ◌⊎◌, ◌↔◌, ◌≢◌, ℕ, zero, suc, ◌+◌, ◌≤◌, leb, eqb}
use Rattle.std.proofs.Common.{inl, inr, ⊎_elim, arith, leb-true, le-leb, ne_eqb}
use Rattle.std.proofs.Math.Logic.{by_cases}
use Rattle.std.proofs.Math.Logic.Iff
use Rattle.std.proofs.Math.Decide.{ℕ_discrete}
use Rattle.std.proofs.lemmas.Bool.{eqb-false, not-true}
use Rattle.file_fields.specs.Fields.{bit}
use Rattle.file_form.specs.Kinds.{named, has_first, has_second, both, only, map_right, pair_right}
use Rattle.file_form.specs.Tests.{both_true, both_is, only_true, only_is, same_at}

-- the map byte m may stand beside the kind byte k
pub record Carries (m k : ℕ) : Type 0 where
  -- the kinds are 0 to 11, the bits 0 to 5
  pub known : k ≤ 11
  pub whole : m ≤ 63
  -- bit 0, a first: Text, and every kind from Seq on
  pub first : bit m 1 ≡ true → (k ≡ 1) ⊎ (4 ≤ k)
  -- bit 1, a second: every kind from Seq on but Group and Align, which name a child alone
  pub second : bit m 2 ≡ true → (4 ≤ k) × ((k ≢ 5) × (k ≢ 8))
  -- bit 4, a choice length: Choice; bit 3, a choice start, and bit 5, skipped: only beside it
  pub list : bit m 16 ≡ true → k ≡ 9
  pub start : bit m 8 ≡ true → bit m 16 ≡ true
  pub skipped : bit m 32 ≡ true → bit m 16 ≡ true

-- what reader and writer test of a map and a kind
abbrev pub right_pair : ℕ → ℕ → Bool
right_pair m k = both (map_right m) (pair_right m k)

-- ---- the kinds that name a first, a second: by comparisons, the same at each of the twelve

abbrev firsts : ℕ → Bool
firsts k = only (not (eqb k 1)) (leb 4 k)

abbrev seconds : ℕ → Bool
seconds k = both (leb 4 k) (both (not (eqb k 5)) (not (eqb k 8)))

not_eqb : (k n : ℕ) → k ≢ n → not (eqb k n) ≡ true
not_eqb k n h = rw (ne_eqb k n h)

firsts_are : (k : ℕ) → (firsts k ≡ true) ↔ ((k ≡ 1) ⊎ (4 ≤ k))
firsts_are k = (
  λ e. by_cases (ℕ_discrete k 1) (λ y. inl y) (λ n. inr (leb-true 4 k (only_true (not (eqb k 1)) (leb 4 k) e (not_eqb k 1 n)))),
  ⊎_elim (λ y. rw y) (λ l. only_is (not (eqb k 1)) (leb 4 k) (λ _. le-leb 4 k l)),
)

seconds_are : (k : ℕ) → (seconds k ≡ true) ↔ ((4 ≤ k) × ((k ≢ 5) × (k ≢ 8)))
seconds_are k = (
  λ e. let b = both_true (leb 4 k) _ e in
      let d = both_true (not (eqb k 5)) (not (eqb k 8)) b.1 in
      (leb-true 4 k b.0, (eqb-false k 5 (not-true _ d.0), eqb-false k 8 (not-true _ d.1))),
  λ c. both_is _ _ (le-leb 4 k c.0) (both_is _ _ (not_eqb k 5 c.1.0) (not_eqb k 8 c.1.1)),
)

pub names_first : (k : ℕ) → k ≤ 11 → (has_first k ≡ true) ↔ ((k ≡ 1) ⊎ (4 ≤ k))
unfolding has_first named
names_first k h = Iff.trans (same_at 12 has_first firsts refl k (omega arith)) (firsts_are k)

pub names_second : (k : ℕ) → k ≤ 11 → (has_second k ≡ true) ↔ ((4 ≤ k) × ((k ≢ 5) × (k ≢ 8)))
unfolding has_second named
names_second k h = Iff.trans (same_at 12 has_second seconds refl k (omega arith)) (seconds_are k)

-- ---- how many pairs are right: of the maps below m beside the kind k; of those beside the kinds below k

unfoldable pub maps : ℕ → ℕ → ℕ
maps zero k = 0
maps (suc m) k = cond (right_pair m k) (suc (maps m k)) (maps m k)

unfoldable pub pairs : ℕ → ℕ → ℕ
pairs m zero = 0
pairs m (suc k) = maps m k + pairs m k

-- of two bytes
pub right_pairs : pairs 256 256 ≡ 98
unfolding pairs maps named has_first has_second map_right pair_right
right_pairs = refl
