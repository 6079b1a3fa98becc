-- Document 01, refusals 7 (text; document 02, change 1) and 8 (space).
use Rattle.std.specs.Prelude.{ℕ, ◌+◌, ◌≤◌, ◌<◌, ◌≡◌, List, [], ◌∷◌, length, get_or, take, drop}
use Rattle.file_tables.specs.Tables.{width, byte_length, byte_start}
use Rattle.file_utf8.specs.Utf8.{Utf8}

-- no byte 10
pub record NoNewline (bytes : List ℕ) : Type 0 where
  pub none : (k : ℕ) → k < length bytes → get_or bytes k 0 ≡ 10 → ⊥

-- a text's own rule, of its bytes alone
pub record TextOk (bytes : List ℕ) : Type 0 where
  pub no_newline : NoNewline bytes
  pub well_formed : Utf8 bytes

-- the bytes of text i
abbrev pub text_bytes : List (List ℕ) → List ℕ → ℕ → List ℕ
text_bytes texts bytes i = take (byte_length (get_or texts i [])) (drop (byte_start (get_or texts i [])) bytes)

-- each text's bytes stand among the bytes of all texts
pub record Inside (texts : List (List ℕ)) (bytes : List ℕ) : Type 0 where
  pub inside : (i : ℕ) → i < length texts → byte_start (get_or texts i []) + byte_length (get_or texts i []) ≤ length bytes

-- every text follows the rule
pub record TextsOk (texts : List (List ℕ)) (bytes : List ℕ) : Type 0 where
  pub each : (i : ℕ) → i < length texts → TextOk (text_bytes texts bytes i)

-- the space text is one byte 32 of width 1
pub record SpaceOk (texts : List (List ℕ)) (bytes : List ℕ) (space : ℕ) : Type 0 where
  pub wide : width (get_or texts space []) ≡ 1
  pub byte : text_bytes texts bytes space ≡ 32 ∷ []
