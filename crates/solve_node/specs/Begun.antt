-- What the first step of a node is, by the node as the code has read it.
use Rattle.std.specs.Prelude.{◌≡◌, Bool, true, false, List, [], ◌∷◌, ℕ, ◌+◌, ◌-◌, ◌<◌, ◌≤◌, min, length, get_or, Some, None, Result, Ok, Err}
use Rattle.std.specs.Prelude.{Option as Optional}
use Rattle.std.proofs.Math.Option.{Option, none, some}
use Rattle.cost.specs.Charge.{text_cost}
use Rattle.cost.specs.declared.Reason.TheVariants.{Column}
use Rattle.layout.specs.Rules.{Rules}
use Rattle.layout.specs.Table.{Node}
use Rattle.memo.specs.declared.MemoKey.{MemoKey}
use Rattle.file_tables.specs.Tables.{Tables}
use Rattle.machine.specs.Events.{Counts, Prog, ret, emit, ◌>>◌, Within}
use Rattle.memo.specs.declared.CandidateRange.{CandidateRange}
use Rattle.frontier.specs.Candidates.{carried}
use Rattle.machine.specs.Model.{got, Prepared, ExactChoice, State, Scratch, scratch, Made, PlanText, memo_key, CompleteAlias, CompleteAnnotate, CompletePenalty, ContinueSequence}
use Rattle.machine.specs.Solver.{complete_singleton, begin_empty, begin_newline, begin_union, begin_nest, begin_choice, skip_choices, push_child, begin_kind, gap_if_fill, fill_boundary}
use Rattle.solve_workspace.specs.Reading.{prepared, edge_part}
use Rattle.solve_workspace.specs.Meets.{Meets, Leads, counts}
use Rattle.solve_workspace.specs.Rows.{meant, survivor}
use Rattle.solve_workspace.specs.declared.Bounds.{Bounds}
use Rattle.solve_workspace.specs.declared.Registers.{Registers}
use Rattle.solve_workspace.specs.declared.Why.TheVariants.{Domain}
use Rattle.solve_workspace.specs.declared.Reached.TheVariants.{Stop}
use Rattle.solve_node.specs.declared.Leaf.{Leaf}
use Rattle.solve_node.specs.declared.Leaf.TheVariants.{Empty, Text, Newline}
use Rattle.solve_node.specs.declared.Single.{Single}
use Rattle.solve_node.specs.declared.Single.TheVariants.{Sequence, Alias, Nest, Align, Annotate, Penalty}
use Rattle.solve_node.specs.declared.Inner.{Inner}
use Rattle.solve_node.specs.declared.Inner.TheVariants.{Single as ASingle, Union, Choice}
use Rattle.solve_node.specs.declared.PreparedNode.{PreparedNode}
use Rattle.solve_node.specs.declared.PreparedNode.TheVariants.{Leaf as ALeaf, Inner as AnInner}
use Rattle.cost.specs.declared.Reason.{Reason}
use Rattle.file_tables.specs.declared.NodeId.{NodeId}
use Rattle.frontier.specs.declared.ScratchCandidate.{ScratchCandidate}
use Rattle.solve_workspace.specs.declared.ExactTask.{ExactTask}

-- a node, or none
abbrev pub NodeLink : Type 0
NodeLink = Optional NodeId

-- the task that completes a node, and the child that is evaluated first; or what has no place
abbrev pub FirstChild : Type 0
FirstChild = Result (ExactTask × MemoKey) Reason

-- the one candidate of a leaf; or what has no place
abbrev pub LeafCandidate : Type 0
LeafCandidate = Result ScratchCandidate Reason

abbrev pub link_of : Option ℕ → NodeLink
link_of none = None
link_of (some n) = Some (record { 0 = n })

-- element i of a list of nodes, or none past its end
abbrev pub ChildCase : List ℕ → ℕ → NodeLink → Type 0
ChildCase l i (Some n) = (i < length l) × (get_or l i 0 ≡ n.0)
ChildCase l i None = length l ≤ i

pub record ChildIs (l : List ℕ) (i : ℕ) (r : NodeLink) : Type 0 where
  pub by : ChildCase l i r

-- how many of len elements from start on there are among n
abbrev pub part_length : ℕ → ℕ → ℕ → ℕ
part_length n start len = min len (n - start)

-- a Seq or a Fill
abbrev pub first_of : List ℕ → PreparedNode
first_of [] = ALeaf Empty
first_of (k ∷ ks) = AnInner (ASingle (Sequence (record { 0 = k })))

-- a Choice's list
abbrev pub listed : List ℕ → ℕ → Option ExactChoice
listed alternatives skipped = some (record { alternatives = alternatives; skipped = skipped })

abbrev pub listing : List ℕ → ℕ → ℕ → ℕ → Option ExactChoice
listing cs start len skipped = listed (edge_part cs start len) skipped

module _ (R : Rules) (P : Prepared) where
  abbrev pub leaf_begun : Leaf → MemoKey → State → Prog State
  leaf_begun Empty q S = begin_empty R P q S
  leaf_begun (Text t w) q S = emit (Within Column (q.column + w)) (complete_singleton R P q (scratch (text_cost R.charge q.column w) (q.column + w) (Made (PlanText t.0))) S)
  leaf_begun Newline q S = begin_newline R P q S

  abbrev pub single_begun : Single → MemoKey → State → Prog State
  single_begun (Sequence k) q S = push_child R P (ContinueSequence q 1) (memo_key k.0 q.column q.indent) S
  single_begun (Alias k) q S = push_child R P (CompleteAlias q) (memo_key k.0 q.column q.indent) S
  single_begun (Nest n k) q S = begin_nest R P n k.0 q S
  single_begun (Align k) q S = push_child R P (CompleteAlias q) (memo_key k.0 q.column (R.lower q.column)) S
  single_begun (Annotate a k) q S = push_child R P (CompleteAnnotate q a.0) (memo_key k.0 q.column q.indent) S
  single_begun (Penalty n k) q S = push_child R P (CompletePenalty q n) (memo_key k.0 q.column q.indent) S

  -- cs: the choice edges
  abbrev pub inner_begun : List ℕ → Inner → MemoKey → State → Prog State
  inner_begun cs (ASingle n) q S = single_begun n q S
  inner_begun cs (Union a b) q S = begin_union R P a.0 b.0 q S
  inner_begun cs (Choice s l n) q S = begin_choice R P (listing cs s l n) 0 0 q S

  abbrev pub begun : List ℕ → PreparedNode → MemoKey → State → Prog State
  begun cs (ALeaf l) q S = leaf_begun l q S
  begun cs (AnInner n) q S = inner_begun cs n q S

  -- the skipped Choices
  abbrev pub skipping : ℕ → State → Prog State
  skipping n S = skip_choices R P n >> ret S

-- what the code has found to push for a node with one child first, or why it stops
abbrev pub StartedCase : Rules → Single → MemoKey → FirstChild → Type 0
StartedCase R n q (Ok (t, k)) = (P : Prepared) (b : Bounds) (j : Counts) (S : State) → Leads b j (single_begun R P n q S) j (push_child R P (meant t) k S)
StartedCase R n q (Err y) = (P : Prepared) (b : Bounds) (s : Registers) (S : State) (f : Registers → State) → Meets b (counts s) (single_begun R P n q S) (Stop (Domain y) 0 s) f

pub record Started (R : Rules) (n : Single) (q : MemoKey) (r : FirstChild) : Type 0 where
  pub by : StartedCase R n q r

-- the candidate of a leaf, or why it stops
abbrev pub LeafedCase : Rules → Leaf → MemoKey → LeafCandidate → Type 0
LeafedCase R l q (Ok c) = (P : Prepared) (b : Bounds) (j : Counts) (S : State) → Leads b j (leaf_begun R P l q S) j (complete_singleton R P q (survivor (carried c)) S)
LeafedCase R l q (Err y) = (P : Prepared) (b : Bounds) (s : Registers) (S : State) (f : Registers → State) → Meets b (counts s) (leaf_begun R P l q S) (Stop (Domain y) 0 s) f

pub record Leafed (R : Rules) (l : Leaf) (q : MemoKey) (r : LeafCandidate) : Type 0 where
  pub by : LeafedCase R l q r

-- a leaf's candidate, or none where it has no place
abbrev pub leaf_scratch : LeafCandidate → Option Scratch
leaf_scratch (Ok c) = some (survivor (carried c))
leaf_scratch (Err y) = none

-- r: the node is a Fill
pub record Filling (n : Node) (r : Bool) : Type 0 where
  pub yes : (R : Rules) (P : Prepared) (a : CandidateRange) (i : ℕ) (S : State) → r ≡ true → gap_if_fill R P n a i S ≡ fill_boundary R P a i S
  pub no : (R : Rules) (P : Prepared) (a : CandidateRange) (i : ℕ) (S : State) → r ≡ false → gap_if_fill R P n a i S ≡ ret (got a S)

-- node n of the tables is x, and r is what the code has read of it
pub record Begins (R : Rules) (t : Tables) (n : ℕ) (x : Node) (r : PreparedNode) : Type 0 where
  pub same : (q : MemoKey) (S : State) → q.node ≡ n → begin_kind R (prepared t) x q S ≡ begun R (prepared t) t.choices r q S
