-- Worked cases, by computation: what the Rust's own `memo_hash` and `memo_slots_for` give (differential/, `oracle hash`, `oracle slots`), so that a constant mistyped in the definitions is found.
use Rattle.std.specs.Prelude.{◌≡◌, ℕ, zero, suc, ◌+◌, ◌-◌, ◌*◌, ◌/◌, ◌^◌, ◌<◌, ◌≤◌, Bool, true, false, ◌&&◌, List, [], ◌∷◌, ◌==◌, nat_le, nat_lt, refl}
use Rattle.std.proofs.Common.{subst, pow-suc, arith, eqb-true, ltb-true, leb-true}
use Rattle.memo.specs.declared.MemoKey.{MemoKey}
use Rattle.memo.specs.Hash.{folded, mixed, mix_of, hash_of}
use Rattle.memo.specs.Sizes.{SlotsFor}

-- ---- the hash

abbrev key : ℕ → ℕ → ℕ → MemoKey
key node column indent = record { node = node; column = column; indent = indent }

-- a key, and its hash: 0 and 2^32 − 1 in each place, and others
abbrev hashes : List (MemoKey × ℕ)
hashes = (key 0 0 0, 12035550249420947055)
    ∷ (key 4294967295 0 0, 6485191054115938922)
    ∷ (key 0 4294967295 0, 15797722289250854818)
    ∷ (key 0 0 4294967295, 16797067683360338446)
    ∷ (key 4294967295 4294967295 4294967295, 10265586102840698412)
    ∷ (key 1 2 3, 14408057931349711051)
    ∷ (key 3 2 1, 12763463702406538639)
    ∷ (key 4095 80 8, 6821668324107387177)
    ∷ []

abbrev pub Hashed : List (MemoKey × ℕ) → Type 0
Hashed [] = Unit
Hashed (r ∷ rs) = (hash_of r.0 ≡ r.1) × Hashed rs

pub all_hashes : Hashed hashes
unfolding folded mixed mix_of hash_of
all_hashes = (refl, (refl, (refl, (refl, (refl, (refl, (refl, (refl, tt))))))))

-- ---- the slots

-- a number of slots, and the fewest and the most entries that take it
abbrev sizes : List (ℕ × ℕ × ℕ)
sizes = (8, 1, 5)
    ∷ (16, 6, 11)
    ∷ (32, 12, 22)
    ∷ (64, 23, 44)
    ∷ (128, 45, 89)
    ∷ (256, 90, 179)
    ∷ (512, 180, 358)
    ∷ (1024, 359, 716)
    ∷ (2048, 717, 1433)
    ∷ (4096, 1434, 2867)
    ∷ (8192, 2868, 5734)
    ∷ (16384, 5735, 11468)
    ∷ (32768, 11469, 22937)
    ∷ (65536, 22938, 45875)
    ∷ (131072, 45876, 91750)
    ∷ (262144, 91751, 183500)
    ∷ (524288, 183501, 367001)
    ∷ (1048576, 367002, 734003)
    ∷ (2097152, 734004, 1468006)
    ∷ (4194304, 1468007, 2936012)
    ∷ (8388608, 2936013, 5872025)
    ∷ (16777216, 5872026, 11744051)
    ∷ (33554432, 11744052, 23488102)
    ∷ (67108864, 23488103, 46976204)
    ∷ (134217728, 46976205, 93952409)
    ∷ (268435456, 93952410, 187904819)
    ∷ (536870912, 187904820, 375809638)
    ∷ (1073741824, 375809639, 751619276)
    ∷ (2147483648, 751619277, 1503238553)
    ∷ (4294967296, 1503238554, 3006477107)
    ∷ (8589934592, 3006477108, 4294967295)
    ∷ []

-- every number of entries between the two takes it
abbrev pub Takes : List (ℕ × ℕ × ℕ) → Type 0
Takes [] = Unit
Takes (r ∷ rs) = ((entries : ℕ) → r.1 ≤ entries → entries ≤ r.2 → SlotsFor entries r.0) × Takes rs

-- by a test: the rows from 8·2^k slots on, each too many for what half of its slots holds, and none too many for its own
abbrev held_by_half : ℕ → ℕ
held_by_half zero = 0
held_by_half (suc k) = 8 * 2 ^ k * 7 / 10

rights : ℕ → List (ℕ × ℕ × ℕ) → Bool
rights k [] = true
rights k (r ∷ rs) = r.0 == 8 * 2 ^ k && (nat_lt (held_by_half k) r.1 && (nat_le r.2 (r.0 * 7 / 10) && rights (suc k) rs))

both_true : (a b : Bool) → a && b ≡ true → (a ≡ true) × (b ≡ true)
both_true true b e = (refl, e)
both_true false b e = let z : ◌≡◌ {A = ℕ} 0 1 = cc in absurd (omega arith)

grows : (j d : ℕ) → 8 * 2 ^ j * 7 / 10 ≤ 8 * 2 ^ (d + j) * 7 / 10
grows j zero = let e : j ≡ 0 + j = omega arith in subst (λ (z : ℕ). 8 * 2 ^ j * 7 / 10 ≤ 8 * 2 ^ z * 7 / 10) e (omega arith)
grows j (suc d) =
    let e : suc (d + j) ≡ suc d + j = omega arith in
    subst (λ (z : ℕ). 8 * 2 ^ j * 7 / 10 ≤ 8 * 2 ^ z * 7 / 10) e (omega (arith, grows j d, pow-suc 2 (d + j)))

half_most : (k j : ℕ) → j < k → 8 * 2 ^ j * 7 / 10 ≤ held_by_half k
half_most zero j h = elim h [ ]
half_most (suc k) j h = let e : k - j + j ≡ k = omega arith in subst (λ (z : ℕ). 8 * 2 ^ j * 7 / 10 ≤ 8 * 2 ^ z * 7 / 10) e (grows j (k - j))

row_takes : (k slots fewest most : ℕ) → slots ≡ 8 * 2 ^ k → held_by_half k < fewest → most ≤ slots * 7 / 10 → (entries : ℕ) → fewest ≤ entries → entries ≤ most → SlotsFor entries slots
row_takes k slots fewest most p f m entries lo hi = record {
  none = λ z. absurd (omega arith);
  some = λ ne. record { k = k; power = p; room = omega arith; least = λ j h. omega (arith, half_most k j h) };
}

takes : (k : ℕ) (rs : List (ℕ × ℕ × ℕ)) → rights k rs ≡ true → Takes rs
unfolding rights
takes k [] e = tt
takes k (r ∷ rs) e =
    let a = both_true _ _ e in
    let b = both_true _ _ a.1 in
    let c = both_true _ _ b.1 in
    (row_takes k r.0 r.1 r.2 (eqb-true _ _ a.0) (ltb-true _ _ b.0) (leb-true _ _ c.0), takes (suc k) rs c.1)

pub all_sizes : Takes sizes
unfolding rights
all_sizes = takes 0 sizes refl

pub no_entries : SlotsFor 0 0
no_entries = record { none = λ e. refl; some = λ ne. absurd (ne refl) }
