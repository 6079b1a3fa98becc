-- The bytes of a text.
use mathlib.Core.Path.{◌≡◌, refl, sym, ap, ◌∙◌, subst}
use mathlib.Core.Bool.{Bool}
use Rattle.file_checks.specs.Told.{Told}
use mathlib.Core.List.{List, [], ◌∷◌}
use Prim.Native.Nat.{ℕ, ◌+◌, ◌-◌, ◌<◌}
use native.Mathlib.Omega.{arith}
use lib.ListN.{length, get_or, take, drop, length-take, length-drop}
use lib.Seq.{drop-cons}
use Rattle.file_tables.specs.Tables.{width, byte_length, byte_start}
use Rattle.file_checks.specs.Texts.{text_bytes, Inside, SpaceOk, TextOk}

-- a text of length 1 is the byte at its start
pub single : (bytes : List ℕ) (start : ℕ) → start < length bytes → take 1 (drop start bytes) ≡ get_or bytes start 0 ∷ []
single bytes start h = rw (drop-cons bytes start 0 h)

-- how long a text is
pub text_length : (texts : List (List ℕ)) (bytes : List ℕ) (i : ℕ) → Inside texts bytes → i < length texts → length (text_bytes texts bytes i) ≡ byte_length (get_or texts i [])
text_length texts bytes i z h = simp (length-take, length-drop) (omega (arith, z.inside i h))

module _ (texts : List (List ℕ)) (bytes : List ℕ) (i : ℕ) (z : Inside texts bytes) (h : i < length texts) where
  pub not_one : SpaceOk texts bytes i → byte_length (get_or texts i []) ≡ 1
  not_one s = sym (text_length texts bytes i z h) ∙ ap length s.byte

  module _ (l : byte_length (get_or texts i []) ≡ 1) where
    pub starts_within : byte_start (get_or texts i []) < length bytes
    starts_within = omega (arith, z.inside i h)

    whole : text_bytes texts bytes i ≡ get_or bytes (byte_start (get_or texts i [])) 0 ∷ []
    whole = rw l (single bytes (byte_start (get_or texts i [])) starts_within)

    pub is_space : width (get_or texts i []) ≡ 1 → get_or bytes (byte_start (get_or texts i [])) 0 ≡ 32 → SpaceOk texts bytes i
    is_space w e = record { wide = w; byte = whole ∙ ap (λ b. b ∷ []) e }

    pub space_byte : SpaceOk texts bytes i → get_or bytes (byte_start (get_or texts i [])) 0 ≡ 32
    space_byte s = ap (λ l. get_or l 0 0) (sym whole ∙ s.byte)

-- a part from start to end is the text's bytes
pub part : (bytes : List ℕ) (start end len start' len' : ℕ) → start ≡ start' → len ≡ len' → end ≡ start + len → take (end - start) (drop start bytes) ≡ take len' (drop start' bytes)
part bytes start end len start' len' es el ee = let k : end - start ≡ len' = omega arith in rw (k, es)

pub as_text : (texts : List (List ℕ)) (bytes : List ℕ) (i start len : ℕ) (b : Bool) → start ≡ byte_start (get_or texts i []) → len ≡ byte_length (get_or texts i [])
    → Told (TextOk (take (start + len - start) (drop start bytes))) b → Told (TextOk (text_bytes texts bytes i)) b
as_text texts bytes i start len b es el t = subst (λ (l : List ℕ). Told (TextOk l) b) (part bytes start (start + len) len _ _ es el refl) t
