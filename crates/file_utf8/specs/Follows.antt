-- What is wanted of the bytes to come, and what one byte makes of it: for the contracts of inner functions.
use Rattle.std.specs.Prelude.{◌≡◌, Bool, false, List, ◌∷◌, ℕ, Option, Some, None}
use Rattle.file_utf8.specs.declared.Wanted.{Wanted}
use Rattle.file_utf8.specs.Bytewise.{rest}

-- before a character
abbrev pub start : Wanted
start = record { left = 0; low = 128; high = 191 }

abbrev pub wants : Wanted → List ℕ → Bool
wants w s = rest w.left w.low w.high s

-- after b the same is tested of the bytes that come, or none pass
abbrev pub FollowsCase : Wanted → ℕ → Option Wanted → Type 0
FollowsCase w b (Some z) = (s : List ℕ) → wants w (b ∷ s) ≡ wants z s
FollowsCase w b None = (s : List ℕ) → wants w (b ∷ s) ≡ false

pub record Follows (w : Wanted) (b : ℕ) (r : Option Wanted) : Type 0 where
  pub by : FollowsCase w b r
