-- Sequences of calls, on files and live reports, and what a desk can see of them (document 02, change 8).
use Rattle.std.specs.Prelude.{◌≡◌, cond, List, [], ◌∷◌, ℕ, eqb, length, get_or}
use Rattle.machine.specs.Events.{Bounds}
use Rattle.machine.specs.Answer.{Answer}
use Rattle.answer.specs.Answer.{Settings}
use Rattle.report.specs.Report.{Report, Step}
use Rattle.desks.specs.declared.Desks.{Desks}
use Rattle.desks.specs.Served.{Served}
use Rattle.desks.specs.Kinds.{single, step}

-- ---- calls, one after the other

-- a call on one file, or a step of the report with a number. `lent`: all that 1 asks; of a step it may depend on the report
pub data Ask : Type 1 where
  on_file : (desk : ℕ) (lent : Type 0) (file : List ℕ) (c : Settings) (b : Bounds) → Ask
  on_report : (desk report : ℕ) (lent : Report → Type 0) (s : Step) (b : Bounds) → Ask

abbrev pub desk_of : Ask → ℕ
desk_of (on_file d lent file c b) = d
desk_of (on_report d i lent s b) = d

abbrev pub Touches : Ask → ℕ → Type 0
Touches (on_file d lent file c b) j = ⊥
Touches (on_report d i lent s b) j = i ≡ j

pub record World : Type 0 where
  pub desks : Desks
  pub reports : ℕ → Report

abbrev pub put : (ℕ → Report) → ℕ → Report → ℕ → Report
put f i Z j = cond (eqb i j) Z (f j)

pub data Does (W : World) : Ask → Answer → World → Type 1 where
  alone : {d : ℕ} {lent : Type 0} {file : List ℕ} {c : Settings} {b : Bounds} {a : Answer} {D : Desks}
      → Served lent W.desks d (single file c) b tt a tt D → Does W (on_file d lent file c b) a (record { desks = D; reports = W.reports })
  stepped : {d i : ℕ} {lent : Report → Type 0} {s : Step} {b : Bounds} {a : Answer} {Z : Report} {D : Desks}
      → Served (lent (W.reports i)) W.desks d (step (W.reports i) s) b (W.reports i) a Z D → Does W (on_report d i lent s b) a (record { desks = D; reports = put W.reports i Z })

pub data Runs : World → List Ask → List Answer → World → Type 1 where
  none : {W : World} → Runs W [] [] W
  first : {W O U : World} {x : Ask} {xs : List Ask} {a : Answer} {rs : List Answer} → Does W x a O → Runs O xs rs U → Runs W (x ∷ xs) (a ∷ rs) U

-- ---- a desk's own among them

abbrev pub only : ℕ → List Ask → List Ask
only d [] = []
only d (x ∷ xs) = cond (eqb (desk_of x) d) (x ∷ only d xs) (only d xs)

-- the answers to its calls, in order
abbrev pub answers : ℕ → List Ask → List Answer → List Answer
answers d [] rs = []
answers d (x ∷ xs) [] = []
answers d (x ∷ xs) (a ∷ rs) = cond (eqb (desk_of x) d) (a ∷ answers d xs rs) (answers d xs rs)

-- some reports are the desk's: its calls touch no other, and no other desk's call touches one of them
abbrev pub Apart : ℕ → (ℕ → Type 0) → List Ask → Type 0
Apart d mine [] = Unit {0}
Apart d mine (x ∷ xs) = ((desk_of x ≡ d → (i : ℕ) → Touches x i → mine i) × ((desk_of x ≡ d → ⊥) → (i : ℕ) → Touches x i → mine i → ⊥)) × Apart d mine xs

-- all that a desk can see of two worlds is alike
pub record Alike (d : ℕ) (mine : ℕ → Type 0) (W O : World) : Type 0 where
  pub allowance : get_or W.desks.allowance d 0 ≡ get_or O.desks.allowance d 0
  pub spent : get_or W.desks.spent d 0 ≡ get_or O.desks.spent d 0
  pub desks : length W.desks.spent ≡ length O.desks.spent
  pub reports : (i : ℕ) → mine i → W.reports i ≡ O.reports i

-- ---- isolation

pub record Isolated (d : ℕ) (mine : ℕ → Type 0) (W O : World) (rs bs : List Answer) : Type 0 where
  pub answers : rs ≡ bs
  pub after : Alike d mine W O

-- ---- two calls of different desks, in either order

-- both get the same in either order, and the desks after both are the same
pub record Exchanged (a b a' b' : Answer) (D E : Desks) : Type 0 where
  pub first_same : a ≡ a'
  pub second_same : b ≡ b'
  pub desks_same : D ≡ E
