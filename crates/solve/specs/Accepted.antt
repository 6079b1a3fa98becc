-- What the solver relies on: tables of an accepted file, and a state that the machine can come to.
use Rattle.std.specs.Prelude.{◌≡◌, List, [], ℕ, suc, ◌≤◌, ◌<◌, ◌^◌, length, get_or}
use Rattle.layout.specs.Document.{Doc}
use Rattle.layout.specs.Rules.{Rules}
use Rattle.layout.specs.Table.{Reads}
use Rattle.memo.specs.Sizes.{SlotsFor}
use Rattle.machine.specs.Model.{Prepared, State}
use Rattle.machine_right.specs.Fronts.{Front}
use Rattle.machine_right.specs.Ready.{Ready}
use Rattle.machine_right.specs.Sound.{Inv}
use Rattle.solve_workspace.specs.declared.Bounds.{Bounds}
use Rattle.solve_workspace.specs.declared.Registers.{Registers}
use Rattle.solve_workspace.specs.Meets.{needs_in}
use Rattle.solve_workspace.specs.Rows.{Row, at}
use Rattle.solve_workspace.specs.Reading.{prepared, tables}

-- the tables of an accepted file; bytes of texts, annotations and root play no part in it, so they are left out
pub record Accepted (nodes : List Row) (edges choices : List ℕ) (texts : List Row) (space : ℕ) : Type 0 where
  pub ready : Ready (prepared (tables nodes edges choices texts [] 0 0 space))

-- a state between two steps: its tasks and results are those of some document's solution
pub record Typed (R : Rules) (P : Prepared) (S : State) : Type 0 where
  pub documents : ℕ → Doc
  pub reads : Reads P.table documents
  pub goal : Front
  pub inv : Inv R P documents goal S

-- the memo's slices: as many slots as its size takes, and no fewer entries than its size says
pub record MemoRoom (b : Bounds) (ss : List ℕ) (es : List Row) : Type 0 where
  pub slots : SlotsFor b.memo (length ss)
  pub entries : b.memo ≤ length es

-- what was needed of each kind has its place in 32 bits
pub record NeedsFit (s : Registers) : Type 0 where
  pub stack : (needs_in s).stack < 2 ^ 32
  pub memo : (needs_in s).memo < 2 ^ 32
  pub kept : (needs_in s).kept < 2 ^ 32
  pub frontier : (needs_in s).frontier < 2 ^ 32
  pub plans : (needs_in s).plans < 2 ^ 32

-- the result on top is a range that is not empty
pub record Topped (s : Registers) (rs ks : List Row) : Type 0 where
  pub under : ℕ
  pub some : s.results ≡ suc under
  pub lent : s.results ≤ length rs
  pub kept : s.kept ≤ length ks
  pub filled : 1 ≤ at (get_or rs under []) 1
  pub needs_fit : NeedsFit s
