-- Document 01, "Cost", and document 02, change 5: over(c), the charge of a line under a rule, and what text, a newline and a penalty cost.
use Rattle.std.specs.Prelude.{ℕ, ◌+◌, ◌-◌, ◌*◌, cond, ◌==◌}
use Rattle.cost.specs.Cost.{Cost}

-- over(c) at page width w: c − w, or 0 where c ≤ w
abbrev pub over : ℕ → ℕ → ℕ
over w c = c - w

-- its square
abbrev pub squared : ℕ → ℕ → ℕ
squared w c = over w c * over w c

-- what a line of c columns is charged under cost rule r: 2 the excess itself, 1 its square. Another rule never comes so far: it is refused by 1
unfoldable pub charged : ℕ → ℕ → ℕ → ℕ
charged r w c = cond (r == 2) (over w c) (squared w c)

-- text of the given width that starts at the given column
abbrev pub text_cost : (ℕ → ℕ) → ℕ → ℕ → Cost
text_cost charge column width = record { overflow = charge (column + width) - charge column; burden = 0 }

-- a newline to the given indent
abbrev pub newline_cost : (ℕ → ℕ) → ℕ → ℕ → Cost
newline_cost charge newline indent = record { overflow = charge indent; burden = newline }

-- a penalty
abbrev pub penalty_cost : ℕ → Cost
penalty_cost amount = record { overflow = 0; burden = amount }
