-- RFC 3629, section 4, "Syntax of UTF-8 Byte Sequences": which byte strings are well formed (document 02, change 1). Numerals are decimal
-- here; the RFC's hexadecimal ones stand beside them.
use Rattle.std.specs.Prelude.{List, [], ◌∷◌, ℕ, ◌≤◌}

pub record Between (low high b : ℕ) : Type 0 where
  pub least : low ≤ b
  pub most : b ≤ high

-- UTF8-tail = %x80-BF
abbrev pub Tail : ℕ → Type 0
Tail b = Between 128 191 b

-- UTF8-octets = *( UTF8-char ), a constructor for each row of UTF8-char:
pub data Utf8 : List ℕ → Type 0 where
  nothing : Utf8 []
  -- UTF8-1 = %x00-7F
  one : {a : ℕ} {s : List ℕ} → Between 0 127 a → Utf8 s → Utf8 (a ∷ s)
  -- UTF8-2 = %xC2-DF UTF8-tail
  two : {a b : ℕ} {s : List ℕ} → Between 194 223 a → Tail b → Utf8 s → Utf8 (a ∷ b ∷ s)
  -- UTF8-3 = %xE0 %xA0-BF UTF8-tail
  three_e0 : {a b c : ℕ} {s : List ℕ} → Between 224 224 a → Between 160 191 b → Tail c → Utf8 s → Utf8 (a ∷ b ∷ c ∷ s)
  --        / %xE1-EC 2( UTF8-tail )
  three_e1 : {a b c : ℕ} {s : List ℕ} → Between 225 236 a → Tail b → Tail c → Utf8 s → Utf8 (a ∷ b ∷ c ∷ s)
  --        / %xED %x80-9F UTF8-tail
  three_ed : {a b c : ℕ} {s : List ℕ} → Between 237 237 a → Between 128 159 b → Tail c → Utf8 s → Utf8 (a ∷ b ∷ c ∷ s)
  --        / %xEE-EF 2( UTF8-tail )
  three_ee : {a b c : ℕ} {s : List ℕ} → Between 238 239 a → Tail b → Tail c → Utf8 s → Utf8 (a ∷ b ∷ c ∷ s)
  -- UTF8-4 = %xF0 %x90-BF 2( UTF8-tail )
  four_f0 : {a b c d : ℕ} {s : List ℕ} → Between 240 240 a → Between 144 191 b → Tail c → Tail d → Utf8 s → Utf8 (a ∷ b ∷ c ∷ d ∷ s)
  --        / %xF1-F3 3( UTF8-tail )
  four_f1 : {a b c d : ℕ} {s : List ℕ} → Between 241 243 a → Tail b → Tail c → Tail d → Utf8 s → Utf8 (a ∷ b ∷ c ∷ d ∷ s)
  --        / %xF4 %x80-8F 2( UTF8-tail )
  four_f4 : {a b c d : ℕ} {s : List ℕ} → Between 244 244 a → Between 128 143 b → Tail c → Tail d → Utf8 s → Utf8 (a ∷ b ∷ c ∷ d ∷ s)
