-- The order of presentation in memory: slots linked both ways, as a list of slots.
use Rattle.std.specs.Prelude.{◌≡◌, ◌≢◌, List, [], ◌∷◌, ◌++◌, ℕ, ◌<◌, length}
use Rattle.avl.specs.Mem.{word, put, At}
use Rattle.avl.specs.Members.{Out, Once}
use Rattle.avl.specs.Holds.{nil}
use Rattle.frontier.specs.Candidates.{prev, next}

pub record Cell (m : List ℕ) (p c x : ℕ) (R : Type 0) : Type 0 where
  pub is : c ≡ x
  pub at : At m x
  pub some : x < nil
  pub prev_is : prev m x ≡ p
  pub rest : R

-- from the link c on stand the slots xs: before the first is p, the last is q, and after it e
abbrev pub Seg : List ℕ → ℕ → ℕ → List ℕ → ℕ → ℕ → Type 0
Seg m p c [] q e = (c ≡ e) × (q ≡ p)
Seg m p c (x ∷ xs) q e = Cell m p c x (Seg m x (next m x) xs q e)

-- n is m but for the links of the order
pub record Relinked (m n : List ℕ) : Type 0 where
  pub len : length n ≡ length m
  pub rest : (t j : ℕ) → j < 14 → j ≢ 8 → j ≢ 9 → word n t j ≡ word m t j

pub record Chained (m n : List ℕ) (head tail : ℕ) (xs : List ℕ) : Type 0 where
  pub seg : Seg n nil head xs tail nil
  pub frame : Relinked m n

-- slot s in the order, and a slot that is not
pub record Within (m : List ℕ) (s head tail : ℕ) : Type 0 where
  pub ys : List ℕ
  pub zs : List ℕ
  pub seg : Seg m nil head (ys ++ s ∷ zs) tail nil
  pub once : Once (ys ++ s ∷ zs)

pub record Without (m : List ℕ) (s head tail : ℕ) : Type 0 where
  pub xs : List ℕ
  pub seg : Seg m nil head xs tail nil
  pub once : Once xs
  pub out : Out s xs
  pub at : At m s
  pub some : s < nil

-- the link after p is n: where there is no p, the head is
pub record Forward (m o : List ℕ) (p n head r : ℕ) : Type 0 where
  pub none : p ≡ nil → (r ≡ n) × (o ≡ m)
  pub some : p ≢ nil → (r ≡ head) × (o ≡ put m p 9 n)

pub record Back (m o : List ℕ) (n p tail r : ℕ) : Type 0 where
  pub none : n ≡ nil → (r ≡ p) × (o ≡ m)
  pub some : n ≢ nil → (r ≡ tail) × (o ≡ put m n 8 p)
