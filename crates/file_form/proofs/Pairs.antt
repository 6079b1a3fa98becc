-- That the tests of reader and writer of a map and a kind say `Carries`, of all numbers.
use Rattle.std.specs.Prelude.{◌≡◌, true, ◌↔◌, ℕ, ◌≤◌, ltb, leb}
use Rattle.std.proofs.Common.{arith, ltb-true, lt-ltb, leb-true, le-leb, eqb-true, eq-eqb}
use Rattle.file_fields.specs.Fields.{bit}
use Rattle.file_form.specs.Kinds.{has_first, has_second, only, map_right, pair_right}
use Rattle.file_form.specs.Tests.{both_true, both_is, only_true, only_is}
use Rattle.file_form.specs.Pairs.{Carries, right_pair, names_first, names_second}

-- ---- the tests are Carries

right_carries : (m k : ℕ) → right_pair m k ≡ true → Carries m k
unfolding map_right pair_right
right_carries m k e =
    let t = both_true (map_right m) (pair_right m k) e in
    let a = both_true (leb m 63) _ t.0 in
    let b = both_true (only (bit m 8) (bit m 16)) (only (bit m 32) (bit m 16)) a.1 in
    let c = both_true (ltb k 12) _ t.1 in
    let d = both_true (only (bit m 1) (has_first k)) _ c.1 in
    let f = both_true (only (bit m 2) (has_second k)) _ d.1 in
    let known : k ≤ 11 = let l = ltb-true k 12 c.0 in omega arith in
    record {
      known = known;
      whole = leb-true m 63 a.0;
      first = λ s. (names_first k known).0 (only_true (bit m 1) (has_first k) d.0 s);
      second = λ s. (names_second k known).0 (only_true (bit m 2) (has_second k) f.0 s);
      list = λ s. eqb-true k 9 (only_true (bit m 16) _ f.1 s);
      start = only_true (bit m 8) (bit m 16) b.0;
      skipped = only_true (bit m 32) (bit m 16) b.1;
    }

carries_right : (m k : ℕ) → Carries m k → right_pair m k ≡ true
unfolding map_right pair_right
carries_right m k c =
    both_is (map_right m) (pair_right m k)
    (both_is _ _ (le-leb m 63 c.whole)
    (both_is _ _ (only_is (bit m 8) (bit m 16) c.start) (only_is (bit m 32) (bit m 16) c.skipped)))
    (both_is _ _ (lt-ltb k 12 (let l = c.known in omega arith))
    (both_is _ _ (only_is (bit m 1) (has_first k) (λ s. (names_first k c.known).1 (c.first s)))
    (both_is _ _ (only_is (bit m 2) (has_second k) (λ s. (names_second k c.known).1 (c.second s)))
    (only_is (bit m 16) _ (λ s. eq-eqb k 9 (c.list s))))))

pub carries : (m k : ℕ) → (right_pair m k ≡ true) ↔ Carries m k
carries m k = (right_carries m k, carries_right m k)
