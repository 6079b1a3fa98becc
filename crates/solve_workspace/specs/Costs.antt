-- Laws of costs: an answer of the cost crate against the machine's domain tests.
use Rattle.std.specs.Prelude.{◌≡◌, refl, Bool, true, false, ℕ, ◌+◌, ◌<◌, ◌^◌, ltb, Result, Ok, Err}
use Rattle.std.proofs.Common.{sym, ap, ◌∙◌, arith, ltb-true, lt-ltb}
use Rattle.cost.specs.Cost.{Cost, add}
use Rattle.cost.specs.Charge.{text_cost}
use Rattle.cost.specs.Value.{cost, past, if_so, within, text_outcome, outcome, value}
use Rattle.cost.specs.declared.ConsumerCost.{ConsumerCost}
use Rattle.cost.specs.declared.Reason.{Reason}
use Rattle.cost.specs.declared.Reason.TheVariants.{Column, Overflow, Burden}
use Rattle.machine.specs.Events.{Counts, Prog, emit, ◌>>=◌, Within}
use Rattle.machine.specs.Solver.{checked_add}
use Rattle.solve_workspace.specs.declared.Bounds.{Bounds}
use Rattle.solve_workspace.specs.declared.RenderOptions.{RenderOptions}
use Rattle.solve_workspace.specs.declared.Registers.{Registers}
use Rattle.solve_workspace.specs.declared.Why.TheVariants.{Domain}
use Rattle.solve_workspace.specs.declared.Reached.TheVariants.{Stop}
use Rattle.solve_workspace.specs.Meets.{counts, Meets, Leads}
use Rattle.solve_workspace.specs.Reading.{rules}

-- a text's cost, where its last column has a place
pub record Fine (o : RenderOptions) (column width : ℕ) (c : ConsumerCost) : Type 0 where
  pub small : column + width < 2 ^ 32
  pub is : value c ≡ text_cost (rules o).charge column width

text_case : (t : Bool) (x : Cost) (r : Result ConsumerCost Reason) (c : ConsumerCost) → outcome r ≡ if_so t (cost x) (past Column) → r ≡ Ok c → (t ≡ true) × (value c ≡ x)
text_case true x r c e q = let f : cost (value c) ≡ cost x = (sym (ap outcome q) ∙ e) in (refl, cc)
text_case false x r c e q = absurd (let f : cost (value c) ≡ past Column = (sym (ap outcome q) ∙ e) in let z : ◌≡◌ {A = ℕ} 0 1 = cc in omega arith)

text_failure : (t : Bool) (x : Cost) (r : Result ConsumerCost Reason) (y : Reason) → outcome r ≡ if_so t (cost x) (past Column) → r ≡ Err y → (t ≡ false) × (y ≡ Column)
text_failure true x r y e q = absurd (let f : past y ≡ cost x = (sym (ap outcome q) ∙ e) in let z : ◌≡◌ {A = ℕ} 0 1 = cc in omega arith)
text_failure false x r y e q = let f : past y ≡ past Column = (sym (ap outcome q) ∙ e) in (refl, cc)

pub text_fine : (o : RenderOptions) (column width : ℕ) (r : Result ConsumerCost Reason) (c : ConsumerCost) → outcome r ≡ text_outcome o.rule o.width column width → r ≡ Ok c → Fine o column width c
unfolding text_outcome
text_fine o column width r c e q =
    let f = text_case (ltb (column + width) (2 ^ 32)) (text_cost (rules o).charge column width) r c e q in
    record { small = ltb-true _ _ f.0; is = f.1 }

pub column_go : {A : Type 0} {b : Bounds} {k : Counts} (n : ℕ) (p : Prog A) → n < 2 ^ 32 → Leads b k (emit (Within Column n) p) k p
column_go n p h = record { same = rw (lt-ltb n (2 ^ 32) h) }

pub text_stop : {A : Type 0} {b : Bounds} (s : Registers) (o : RenderOptions) (column width : ℕ) (r : Result ConsumerCost Reason) (y : Reason) (p : Prog A) (f : Registers → A)
    → outcome r ≡ text_outcome o.rule o.width column width → r ≡ Err y → Meets b (counts s) (emit (Within Column (column + width)) p) (Stop (Domain y) 0 s) f
unfolding text_outcome
text_stop s o column width r y p f e q =
    let g = text_failure (ltb (column + width) (2 ^ 32)) (text_cost (rules o).charge column width) r y e q in
    record { is = rw (g.0, g.1); sound = tt }

-- ---- sums

pub record Added (x y : Cost) (c : ConsumerCost) : Type 0 where
  pub overflow_fits : ltb (add x y).overflow (2 ^ 128) ≡ true
  pub burden_fits : ltb (add x y).burden (2 ^ 64) ≡ true
  pub is : value c ≡ add x y

sum_case : (s t : Bool) (x : Cost) (r : Result ConsumerCost Reason) (c : ConsumerCost) → outcome r ≡ if_so s (if_so t (cost x) (past Burden)) (past Overflow) → r ≡ Ok c
    → (s ≡ true) × ((t ≡ true) × (value c ≡ x))
sum_case true true x r c e q = let f : cost (value c) ≡ cost x = (sym (ap outcome q) ∙ e) in (refl, (refl, cc))
sum_case true false x r c e q = absurd (let f : cost (value c) ≡ past Burden = (sym (ap outcome q) ∙ e) in let z : ◌≡◌ {A = ℕ} 0 1 = cc in omega arith)
sum_case false t x r c e q = absurd (let f : cost (value c) ≡ past Overflow = (sym (ap outcome q) ∙ e) in let z : ◌≡◌ {A = ℕ} 0 1 = cc in omega arith)

pub added : (x y : Cost) (r : Result ConsumerCost Reason) (c : ConsumerCost) → outcome r ≡ within (add x y) → r ≡ Ok c → Added x y c
unfolding within
added x y r c e q =
    let f = sum_case (ltb (add x y).overflow (2 ^ 128)) (ltb (add x y).burden (2 ^ 64)) (add x y) r c e q in
    record { overflow_fits = f.0; burden_fits = f.1.0; is = f.1.1 }

pub add_go : {A : Type 0} {b : Bounds} {k : Counts} (x y : Cost) (c : ConsumerCost) (g : Cost → Prog A) → Added x y c → Leads b k (checked_add x y >>= g) k (g (value c))
unfolding checked_add
add_go x y c g h = record { same = rw (h.overflow_fits, h.burden_fits, h.is) }

sum_stop : {A : Type 0} {b : Bounds} (u : Registers) (x : Cost) (g : Cost → Prog A) (f : Registers → A) (s t : Bool) (r : Result ConsumerCost Reason) (y : Reason)
    → ltb x.overflow (2 ^ 128) ≡ s → ltb x.burden (2 ^ 64) ≡ t
    → outcome r ≡ if_so s (if_so t (cost x) (past Burden)) (past Overflow) → r ≡ Err y
    → Meets b (counts u) (emit (Within Overflow x.overflow) (emit (Within Burden x.burden) (g x))) (Stop (Domain y) 0 u) f
sum_stop u x g f true true r y i j e q = absurd (let h : past y ≡ cost x = (sym (ap outcome q) ∙ e) in let z : ◌≡◌ {A = ℕ} 0 1 = cc in omega arith)
sum_stop u x g f true false r y i j e q = let h : past y ≡ past Burden = (sym (ap outcome q) ∙ e) in let z : y ≡ Burden = cc in record { is = rw (i, j, z); sound = tt }
sum_stop u x g f false t r y i j e q = let h : past y ≡ past Overflow = (sym (ap outcome q) ∙ e) in let z : y ≡ Overflow = cc in record { is = rw (i, z); sound = tt }

pub add_stop : {A : Type 0} {b : Bounds} (u : Registers) (x y : Cost) (r : Result ConsumerCost Reason) (w : Reason) (g : Cost → Prog A) (f : Registers → A)
    → outcome r ≡ within (add x y) → r ≡ Err w → Meets b (counts u) (checked_add x y >>= g) (Stop (Domain w) 0 u) f
unfolding checked_add within
add_stop u x y r w g f e q = sum_stop u (add x y) g f (ltb (add x y).overflow (2 ^ 128)) (ltb (add x y).burden (2 ^ 64)) r w refl refl e q
