-- Document 01, refusal 1 (order): width 0, policy above 1, a rule that is not 1 or 2 (document 02, change 5), or a lent slice shorter than its size. docs/MEMORY.md has the words an item takes.
use Rattle.std.specs.Prelude.{ℕ, ◌*◌, ◌≤◌, ◌<◌}
use Rattle.memo.specs.Sizes.{SlotsFor}
pub use Rattle.prepare.specs.File.{TablesLent}
use Rattle.solve_workspace.specs.declared.Bounds.{Bounds}
use Rattle.solve_workspace.specs.declared.RenderOptions.{RenderOptions}
use Rattle.render.specs.declared.order.Lengths.{Lengths}

pub record OptionsRight (o : RenderOptions) : Type 0 where
  pub width : 0 < o.width
  pub policy : o.policy ≤ 1
  pub rule : (1 ≤ o.rule) × (o.rule ≤ 2)

pub record StacksLent (b : Bounds) (l : Lengths) : Type 0 where
  pub tasks : b.stack ≤ l.tasks
  pub results : b.stack ≤ l.results
  pub pending : b.stack ≤ l.pending

-- the memo's index has as many slots as its size takes
pub record MemoLent (b : Bounds) (l : Lengths) : Type 0 where
  pub entries : b.memo ≤ l.entries
  pub slots_for : ℕ
  pub is : SlotsFor b.memo slots_for
  pub index : slots_for ≤ l.index

pub record StoresLent (b : Bounds) (l : Lengths) : Type 0 where
  pub kept : b.kept ≤ l.kept
  pub frontier : b.frontier * 14 ≤ l.frontier
  pub plans : b.plans ≤ l.plans

pub record PageLent (b : Bounds) (l : Lengths) : Type 0 where
  pub visit : b.visit ≤ l.visit
  pub depth : b.depth ≤ l.depth
  pub output : b.output ≤ l.output
  pub spans : b.spans ≤ l.spans

pub record SolverLent (b : Bounds) (l : Lengths) : Type 0 where
  pub stacks : StacksLent b l
  pub memo : MemoLent b l
  pub stores : StoresLent b l

-- nothing of refusal 1
pub record InOrder (o : RenderOptions) (b : Bounds) (l : Lengths) : Type 0 where
  pub options : OptionsRight o
  pub tables : TablesLent l.nodes l.edges l.choices l.texts l.bytes
  pub solver : SolverLent b l
  pub page : PageLent b l
