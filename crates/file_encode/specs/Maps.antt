-- The bits of a map byte.
use Rattle.std.specs.Prelude.{◌≡◌, Bool, true, false, List, [], ◌∷◌, ℕ, ◌/◌, ◌%◌, ◌≤◌, leb}
use Rattle.std.proofs.Common.{arith, leb-true}
use Rattle.file_fields.specs.Fields.{bit}
use Rattle.file_form.specs.Kinds.{both, only, map_right}
pub use Rattle.file_form.specs.Tests.{both_true, both_is}
use Rattle.file_encode.specs.Encode.{flag, map_of}
use Rattle.file_encode.specs.Fields.{flag_bit, bit_flag}

pub flag_le : (b : Bool) → flag b ≤ 1
flag_le true = omega arith
flag_le false = omega arith

half : (b : Bool) (bs : List Bool) → (map_of (b ∷ bs) / 2 ≡ map_of bs) × (map_of (b ∷ bs) / 1 % 2 ≡ flag b)
unfolding map_of
half b bs = let h = flag_le b in let n = map_of bs in (omega arith, omega arith)

-- the bit of weight 2 ^ k is the k-th flag
pub at1 : (a : Bool) (r : List Bool) → map_of (a ∷ r) / 1 % 2 ≡ flag a
at1 a r = (half a r).1

pub at2 : (a b : Bool) (r : List Bool) → map_of (a ∷ b ∷ r) / 2 % 2 ≡ flag b
at2 a b r = let m = map_of (a ∷ b ∷ r) in let e : m / 2 ≡ m / 2 / 1 = omega arith in rw (e, (half a (b ∷ r)).0) (at1 b r)

pub at4 : (a b c : Bool) (r : List Bool) → map_of (a ∷ b ∷ c ∷ r) / 4 % 2 ≡ flag c
at4 a b c r = let m = map_of (a ∷ b ∷ c ∷ r) in let e : m / 4 ≡ m / 2 / 2 = omega arith in rw (e, (half a (b ∷ c ∷ r)).0) (at2 b c r)

pub at8 : (a b c d : Bool) (r : List Bool) → map_of (a ∷ b ∷ c ∷ d ∷ r) / 8 % 2 ≡ flag d
at8 a b c d r = let m = map_of (a ∷ b ∷ c ∷ d ∷ r) in let e : m / 8 ≡ m / 2 / 4 = omega arith in rw (e, (half a (b ∷ c ∷ d ∷ r)).0) (at4 b c d r)

pub at16 : (a b c d f : Bool) (r : List Bool) → map_of (a ∷ b ∷ c ∷ d ∷ f ∷ r) / 16 % 2 ≡ flag f
at16 a b c d f r = let m = map_of (a ∷ b ∷ c ∷ d ∷ f ∷ r) in let e : m / 16 ≡ m / 2 / 8 = omega arith in rw (e, (half a (b ∷ c ∷ d ∷ f ∷ r)).0) (at8 b c d f r)

pub at32 : (a b c d f g : Bool) (r : List Bool) → map_of (a ∷ b ∷ c ∷ d ∷ f ∷ g ∷ r) / 32 % 2 ≡ flag g
at32 a b c d f g r = let m = map_of (a ∷ b ∷ c ∷ d ∷ f ∷ g ∷ r) in let e : m / 32 ≡ m / 2 / 16 = omega arith in rw (e, (half a (b ∷ c ∷ d ∷ f ∷ g ∷ r)).0) (at16 b c d f g r)

pub at64 : (a b c d f g h : Bool) (r : List Bool) → map_of (a ∷ b ∷ c ∷ d ∷ f ∷ g ∷ h ∷ r) / 64 % 2 ≡ flag h
at64 a b c d f g h r =
    let m = map_of (a ∷ b ∷ c ∷ d ∷ f ∷ g ∷ h ∷ r) in
    let e : m / 64 ≡ m / 2 / 32 = omega arith in
    rw (e, (half a (b ∷ c ∷ d ∷ f ∷ g ∷ h ∷ r)).0) (at32 b c d f g h r)

-- a bit that is a flag
pub bit_is : (m k : ℕ) (b : Bool) → m / k % 2 ≡ flag b → bit m k ≡ b
bit_is m k b e = rw e (flag_bit b)

-- a map byte is made of its bits
whole1 : (m : ℕ) → m ≤ 1 → map_of (bit m 1 ∷ []) ≡ m
unfolding map_of
whole1 m h = let e : m / 1 % 2 ≡ m = omega arith in rw e (let z = bit_flag m (omega arith) in omega arith)

-- one bit more: the bits of m are its lowest and those of its half
more : (m : ℕ) (bs : List Bool) → map_of bs ≡ m / 2 → map_of (bit m 1 ∷ bs) ≡ m
unfolding map_of
more m bs e = let z = bit_flag (m / 1 % 2) (omega arith) in omega arith

shift : (m j k : ℕ) → m / k ≡ m / 2 / j → bit m k ≡ bit (m / 2) j
shift m j k e = rw e

pub whole2 : (m : ℕ) → m ≤ 3 → map_of (bit m 1 ∷ bit m 2 ∷ []) ≡ m
whole2 m h = rw (shift m 1 2 (omega arith)) (more m _ (whole1 (m / 2) (omega arith)))

whole3 : (m : ℕ) → m ≤ 7 → map_of (bit m 1 ∷ bit m 2 ∷ bit m 4 ∷ []) ≡ m
whole3 m h = rw (shift m 1 2 (omega arith), shift m 2 4 (omega arith)) (more m _ (whole2 (m / 2) (omega arith)))

whole4 : (m : ℕ) → m ≤ 15 → map_of (bit m 1 ∷ bit m 2 ∷ bit m 4 ∷ bit m 8 ∷ []) ≡ m
whole4 m h = rw (shift m 1 2 (omega arith), shift m 2 4 (omega arith), shift m 4 8 (omega arith)) (more m _ (whole3 (m / 2) (omega arith)))

whole5 : (m : ℕ) → m ≤ 31 → map_of (bit m 1 ∷ bit m 2 ∷ bit m 4 ∷ bit m 8 ∷ bit m 16 ∷ []) ≡ m
whole5 m h = rw (shift m 1 2 (omega arith), shift m 2 4 (omega arith), shift m 4 8 (omega arith), shift m 8 16 (omega arith)) (more m _ (whole4 (m / 2) (omega arith)))

pub whole6 : (m : ℕ) → m ≤ 63 → map_of (bit m 1 ∷ bit m 2 ∷ bit m 4 ∷ bit m 8 ∷ bit m 16 ∷ bit m 32 ∷ []) ≡ m
whole6 m h =
    rw (shift m 1 2 (omega arith), shift m 2 4 (omega arith), shift m 4 8 (omega arith), shift m 8 16 (omega arith), shift m 16 32 (omega arith))
    (more m _ (whole5 (m / 2) (omega arith)))

pub whole7 : (m : ℕ) → m ≤ 127 → map_of (bit m 1 ∷ bit m 2 ∷ bit m 4 ∷ bit m 8 ∷ bit m 16 ∷ bit m 32 ∷ bit m 64 ∷ []) ≡ m
whole7 m h =
    rw (
      shift m 1 2 (omega arith),
      shift m 2 4 (omega arith),
      shift m 4 8 (omega arith),
      shift m 8 16 (omega arith),
      shift m 16 32 (omega arith),
      shift m 32 64 (omega arith),
    )
    (more m _ (whole6 (m / 2) (omega arith)))

pub map_le : (m : ℕ) → map_right m ≡ true → m ≤ 63
unfolding map_right
map_le m e = leb-true m 63 (both_true (leb m 63) (both (only (bit m 8) (bit m 16)) (only (bit m 32) (bit m 16))) e).0
