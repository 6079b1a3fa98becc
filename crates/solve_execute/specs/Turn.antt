-- What the execution of a task relies on: room in the lent slices, and what the task takes from the stacks.
use Rattle.std.specs.Prelude.{ℕ, ◌+◌, ◌*◌, ◌≤◌, ◌<◌, List, [], length, get_or}
use Rattle.memo.specs.declared.MemoKey.{MemoKey}
use Rattle.memo.specs.declared.CandidateRange.{CandidateRange}
use Rattle.machine.specs.Model.{children, Task, Eval, CompleteAlias, CompleteUnion, CompleteChoiceSet, CompleteAnnotate, CompletePenalty, ContinueSequence, CompleteSequenceRight}
use Rattle.solve_workspace.specs.declared.Bounds.{Bounds}
use Rattle.solve_workspace.specs.declared.Registers.{Registers}
use Rattle.solve_workspace.specs.Rows.{Row}
use Rattle.solve_workspace.specs.Reading.{node_of_row}

-- each slice holds as much as its size says: tasks, results, pending, frontier slots, kept, plans
pub record Room (b : Bounds) (ts rs ps : List Row) (fs : List ℕ) (ks ns : List Row) : Type 0 where
  pub tasks : b.stack ≤ length ts
  pub results : b.stack ≤ length rs
  pub pending : b.stack ≤ length ps
  pub frontier : b.frontier * 14 ≤ length fs
  pub kept : b.kept ≤ length ks
  pub plans : b.plans ≤ length ns

-- a sequence's right part: its child is one of the node's children, its left candidate one of those accumulated, and these are kept
pub record RightFits (nodes : List Row) (edges : List ℕ) (s : Registers) (q : MemoKey) (x : ℕ) (accumulated : CandidateRange) (o start : ℕ) : Type 0 where
  pub result : 1 ≤ s.results
  pub pending : start ≤ s.pending
  pub child : x < length (children (node_of_row edges (get_or nodes q.node [])))
  pub left : o < accumulated.len
  pub inside : accumulated.start + accumulated.len ≤ s.kept

-- the stacks hold what the task takes
abbrev pub Fits : List Row → List ℕ → Registers → Task → Type 0
Fits nodes edges s (Eval q) = Unit {0}
Fits nodes edges s (CompleteAlias q) = 1 ≤ s.results
Fits nodes edges s (CompleteUnion q) = 2 ≤ s.results
Fits nodes edges s (CompleteChoiceSet q start) = start ≤ s.results
Fits nodes edges s (CompleteAnnotate q annotation) = 1 ≤ s.results
Fits nodes edges s (CompletePenalty q amount) = 1 ≤ s.results
Fits nodes edges s (ContinueSequence q x) = 1 ≤ s.results
Fits nodes edges s (CompleteSequenceRight q x accumulated o start) = RightFits nodes edges s q x accumulated o start
