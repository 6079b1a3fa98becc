-- What the solver reads and holds, with the Rust's names. Numbers are without a bound; stores are plain lists.
use Rattle.std.proofs.Math.Option.{Option}
use Rattle.std.specs.Prelude.{List, [], ◌∷◌, ◌++◌, ℕ, zero, suc, ◌+◌, get_or}
use Rattle.cost.specs.Cost.{Cost, zero_cost}
use Rattle.memo.specs.declared.MemoKey.{MemoKey}
use Rattle.memo.specs.declared.CandidateRange.{CandidateRange}
use Rattle.memo.specs.Entries.{Entry}
use Rattle.layout.specs.Layout.{Plan, blank, put, line, join, mark, fee}
use Rattle.layout.specs.Frontier.{Cand}
use Rattle.layout.specs.Table.{Node, Table, Empty, Break, HardLine, Text, Seq, Fill, Group, Align, Nest, Choice, Annotate, Penalty}

-- ---- what it reads

-- a Choice's list of alternatives, and how many Choices it skips
pub record ExactChoice : Type 0 where
  pub alternatives : List ℕ
  pub skipped : ℕ

-- the tables of a file: the node table, a Choice's list where it has one, the root, the number of the space text;
-- and a number above the length of every chain of references, for which the number of nodes serves
pub record Prepared : Type 0 where
  pub table : Table
  pub choices : ℕ → Option ExactChoice
  pub root : ℕ
  pub space_text : ℕ
  pub depth : ℕ

-- the children of a Seq or a Fill
abbrev pub children : Node → List ℕ
children Empty = []
children Break = []
children HardLine = []
children (Text t) = []
children (Seq ks) = ks
children (Fill ks) = ks
children (Group k) = []
children (Align k) = []
children (Nest n k) = []
children (Choice a b) = []
children (Annotate a k) = []
children (Penalty n k) = []

-- ---- plans

-- PlanNode: numbers of texts, annotations, amounts, and of earlier records
pub data PlanNode : Type 0 where
  PlanEmpty : PlanNode
  PlanText PlanNewline : ℕ → PlanNode
  PlanConcat PlanAnnotate PlanPenalty : ℕ → ℕ → PlanNode

-- PendingPlan: a record that stands, or one that is still to be made
pub data PendingPlan : Type 0 where
  Existing : ℕ → PendingPlan
  Made : PlanNode → PendingPlan

-- the layout that a record stands for, given those of earlier ones
abbrev pub layout_of : Table → List Plan → PlanNode → Plan
layout_of T ps PlanEmpty = blank
layout_of T ps (PlanText t) = put (T.texts t)
layout_of T ps (PlanNewline i) = line i
layout_of T ps (PlanConcat l r) = join (get_or ps l blank) (get_or ps r blank)
layout_of T ps (PlanAnnotate a p) = mark a (get_or ps p blank)
layout_of T ps (PlanPenalty n p) = fee n (get_or ps p blank)

-- the layouts of records, after those of earlier ones
abbrev pub layouts_after : Table → List Plan → List PlanNode → List Plan
layouts_after T ps [] = ps
layouts_after T ps (r ∷ rs) = layouts_after T (ps ++ (layout_of T ps r ∷ [])) rs

-- the layout of record i
unfoldable pub plan_at : Table → List PlanNode → ℕ → Plan
plan_at T rs i = get_or (layouts_after T [] rs) i blank

-- ---- candidates

-- a plan, and how many candidates were presented before its candidate
pub record Ordered (P : Type 0) : Type 0 where
  pub precedence : ℕ
  pub plan : P

-- Candidate, and ScratchCandidate, which keeps its plan pending
abbrev pub Candidate : Type 0
Candidate = Cand (Ordered ℕ)

abbrev pub Scratch : Type 0
Scratch = Cand (Ordered PendingPlan)

-- it is given its precedence where it is presented
abbrev pub scratch : Cost → ℕ → PendingPlan → Scratch
scratch c l p = record { cost = c; column = l; plan = record { precedence = 0; plan = p } }

-- what a read past the end of the store gives
abbrev pub no_candidate : Candidate
no_candidate = record { cost = zero_cost; column = 0; plan = record { precedence = 0; plan = 0 } }

-- n candidates from s on
abbrev pub part : List Candidate → ℕ → ℕ → List Candidate
part ks s zero = []
part ks s (suc n) = get_or ks s no_candidate ∷ part ks (s + 1) n

abbrev pub range : ℕ → ℕ → CandidateRange
range s n = record { start = s; len = n }

abbrev pub within_range : List Candidate → CandidateRange → List Candidate
within_range ks r = part ks r.start r.len

-- ---- tasks

abbrev pub memo_key : ℕ → ℕ → ℕ → MemoKey
memo_key n c i = record { node = n; column = c; indent = i }

-- ExactTask; a sequence's edges, indent and fill are those of its key: of the key's node, and the key's indent
pub data Task : Type 0 where
  Eval : MemoKey → Task
  CompleteAlias CompleteUnion : MemoKey → Task
  CompleteChoiceSet : MemoKey → ℕ → Task  -- result_start
  CompleteAnnotate CompletePenalty : MemoKey → ℕ → Task  -- annotation; amount
  ContinueSequence : MemoKey → ℕ → Task  -- child_index
  CompleteSequenceRight : MemoKey → ℕ → CandidateRange → ℕ → ℕ → Task  -- child_index, accumulated, left_offset, pending_start

-- ---- the state

-- tasks and results: the last pushed first; pending, retained, plans, memo and builder: the oldest first.
-- builder: the candidates that are left of those presented. generated: how many were presented so far
pub record State : Type 0 where
  pub tasks : List Task
  pub results : List CandidateRange
  pub pending : List Scratch
  pub memo : List Entry
  pub retained : List Candidate
  pub builder : List Scratch
  pub plans : List PlanNode
  pub generated : ℕ

abbrev state : List Task → List CandidateRange → List Scratch → List Entry → List Candidate → List Scratch → List PlanNode → ℕ → State
state ts rs ps m k b p g = record { tasks = ts; results = rs; pending = ps; memo = m; retained = k; builder = b; plans = p; generated = g }

abbrev pub blank_state : State
blank_state = state [] [] [] [] [] [] [] 0

abbrev pub with_tasks : List Task → State → State
with_tasks x S = state x S.results S.pending S.memo S.retained S.builder S.plans S.generated

abbrev pub with_results : List CandidateRange → State → State
with_results x S = state S.tasks x S.pending S.memo S.retained S.builder S.plans S.generated

abbrev pub with_pending : List Scratch → State → State
with_pending x S = state S.tasks S.results x S.memo S.retained S.builder S.plans S.generated

abbrev pub with_memo : List Entry → State → State
with_memo x S = state S.tasks S.results S.pending x S.retained S.builder S.plans S.generated

-- after a frontier is finished
abbrev pub with_stores : List Candidate → List PlanNode → State → State
with_stores k p S = state S.tasks S.results S.pending S.memo k S.builder p S.generated

-- after a candidate is presented
abbrev pub with_builder : List Scratch → ℕ → State → State
with_builder b g S = state S.tasks S.results S.pending S.memo S.retained b S.plans g

-- a range, and the state after
pub record Got : Type 0 where
  pub range : CandidateRange
  pub state : State

abbrev pub got : CandidateRange → State → Got
got r S = record { range = r; state = S }
