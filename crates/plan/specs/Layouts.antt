-- The layout that a plan number stands for.
use Rattle.std.specs.Prelude.{List, [], ◌∷◌, ◌++◌, ℕ, ◌<◌, length, get_or}
use Rattle.layout.specs.Document.{Word}
use Rattle.layout.specs.Layout.{Plan, blank, put, line, join, mark, fee}
use Rattle.plan.specs.declared.PlanNode.{PlanNode}
use Rattle.plan.specs.declared.PlanNode.TheVariants.{Empty, Text, Newline, Concat, Annotate, Penalty}
use Rattle.plan.specs.Arena.{Pending, old, new}

-- the layout of a record. texts: the text of each text number; ps: the layouts of the records before it
abbrev pub layout_of : (ℕ → Word) → List Plan → PlanNode → Plan
layout_of texts ps Empty = blank
layout_of texts ps (Text t) = put (texts t.0)
layout_of texts ps (Newline i) = line i
layout_of texts ps (Concat l r) = join (get_or ps l.0 blank) (get_or ps r.0 blank)
layout_of texts ps (Annotate a c) = mark a.0 (get_or ps c.0 blank)
layout_of texts ps (Penalty n c) = fee n (get_or ps c.0 blank)

-- ps, and the layouts of further records, each made of those before it
unfoldable pub read_layouts_after : (ℕ → Word) → List Plan → List PlanNode → List Plan
read_layouts_after texts ps [] = ps
read_layouts_after texts ps (x ∷ l) = read_layouts_after texts (ps ++ (layout_of texts ps x ∷ [])) l

-- the layouts of an arena's plans
unfoldable pub layouts : (ℕ → Word) → List PlanNode → List Plan
layouts texts l = read_layouts_after texts [] l

-- the layout of plan i
abbrev pub layout_at : (ℕ → Word) → List PlanNode → ℕ → Plan
layout_at texts l i = get_or (layouts texts l) i blank

-- the layout of a pending plan
abbrev pub pending_layout : (ℕ → Word) → List PlanNode → Pending → Plan
pending_layout texts l (old p) = layout_at texts l p.0
pending_layout texts l (new x) = layout_of texts (layouts texts l) x

-- a record names texts below t and plans below n alone
abbrev pub Fine : ℕ → ℕ → PlanNode → Type 0
Fine t n Empty = Unit
Fine t n (Text x) = x.0 < t
Fine t n (Newline i) = Unit
Fine t n (Concat l r) = (l.0 < n) × (r.0 < n)
Fine t n (Annotate a c) = c.0 < n
Fine t n (Penalty k c) = c.0 < n

-- a pending plan likewise
abbrev pub PendingFine : ℕ → ℕ → Pending → Type 0
PendingFine t n (old p) = p.0 < n
PendingFine t n (new x) = Fine t n x

-- children have lower numbers, and texts are below t
pub record Ranked (t : ℕ) (l : List PlanNode) : Type 0 where
  pub fine : (i : ℕ) → i < length l → Fine t i (get_or l i Empty)
