-- A list's members.
use Rattle.std.specs.Prelude.{◌≡◌, ◌≢◌, ◌⊎◌, List, [], ◌∷◌, ◌++◌, ℕ}

abbrev pub Out : ℕ → List ℕ → Type 0
Out s [] = Unit {0}
Out s (x ∷ xs) = (s ≢ x) × Out s xs

-- no slot twice
abbrev pub Once : List ℕ → Type 0
Once [] = Unit {0}
Once (x ∷ xs) = Out x xs × Once xs

abbrev pub Apart : List ℕ → List ℕ → Type 0
Apart [] zs = Unit {0}
Apart (x ∷ xs) zs = Out x zs × Apart xs zs

-- where a slot stands among the others
pub record Place (whole less : List ℕ) (s : ℕ) : Type 0 where
  pub us : List ℕ
  pub bs : List ℕ
  pub whole_is : whole ≡ us ++ s ∷ bs
  pub less_is : less ≡ us ++ bs

-- ---- members
abbrev pub In : ℕ → List ℕ → Type 0
In s [] = ⊥
In s (x ∷ xs) = (s ≡ x) ⊎ In s xs

pub record Same (xs ys : List ℕ) : Type 0 where
  pub to : (s : ℕ) → In s xs → In s ys
  pub back : (s : ℕ) → In s ys → In s xs
