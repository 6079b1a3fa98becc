-- Document 01, "Prepared file": what a node refers to, that no node leads back to itself, and which choice lists are right.
-- Crate file_checks says the same of the rows of a file's tables; crate answer, Ready, takes the one to the other.
use Rattle.std.specs.Prelude.{◌≡◌, List, [], ◌∷◌, ◌++◌, ℕ, suc, ◌<◌}
use Rattle.std.proofs.Math.Option.{Option, none, some}
use mathlib.Core.List.{Memᴰ as In}
use Rattle.layout.specs.Table.{Node, Table, Empty, Break, HardLine, Text, Seq, Fill, Group, Align, Nest, Choice, Annotate, Penalty}

abbrev pub flat_of : Option ℕ → List ℕ
flat_of none = []
flat_of (some f) = f ∷ []

-- what a node refers to: its children, its edges and, if a Group, its child's flat node
abbrev pub refers : Table → Node → List ℕ
refers T Empty = []
refers T Break = []
refers T HardLine = []
refers T (Text t) = []
refers T (Seq ks) = ks
refers T (Fill ks) = ks
refers T (Group k) = k ∷ flat_of (T.flat k)
refers T (Align k) = k ∷ []
refers T (Nest n k) = k ∷ []
refers T (Choice a b) = a ∷ b ∷ []
refers T (Annotate a k) = k ∷ []
refers T (Penalty n k) = k ∷ []

-- no node leads back to itself: some rank falls along every reference
pub record Ranked (T : Table) : Type 0 where
  pub rank : ℕ → ℕ
  pub falls : (n k : ℕ) → In k (refers T (T.node n)) → rank k < rank n

-- a right choice list: it comes from [a, b] by replacing a Choice in the list by its two, so many times
pub data RightList (T : Table) (a b : ℕ) : ℕ → List ℕ → Type 0 where
  two : RightList T a b 0 (a ∷ b ∷ [])
  more : {n : ℕ} (m p q : ℕ) (before after : List ℕ) → T.node m ≡ Choice p q → RightList T a b n (before ++ (m ∷ after)) → RightList T a b (suc n) (before ++ (p ∷ q ∷ after))
