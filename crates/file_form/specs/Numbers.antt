-- The edges and the choice edges: one number each. And surplus (5): bytes after the last text.
use Rattle.std.specs.Prelude.{ℕ, zero, suc, List, [], ◌∷◌, ◌++◌, true, length, eqb}
use Rattle.file_fields.specs.declared.Step.{Step}
use Rattle.file_fields.specs.Fields.{pick, after, refused, number_at}

-- the step after the first k numbers from the step p
unfoldable pub after_numbers : List ℕ → Step → ℕ → Step
after_numbers s p zero = p
after_numbers s p (suc k) = number_at s true (after_numbers s p k)

-- the first k numbers
unfoldable pub numbers : List ℕ → Step → ℕ → List ℕ
numbers s p zero = []
numbers s p (suc k) = numbers s p k ++ ((after_numbers s p (suc k)).value ∷ [])

unfoldable pub surplus : List ℕ → Step → Step
surplus s p = after p (pick (eqb p.at (length s)) p (refused 5 p.at))
