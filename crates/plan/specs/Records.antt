-- Plan records (document 01, Plan) as words: first, second, kind.
use Rattle.std.specs.Prelude.{List, [], ℕ, zero, suc, get_or}
use Rattle.plan.specs.declared.PlanNode.{PlanNode}
use Rattle.plan.specs.declared.PlanNode.TheVariants.{Empty, Text, Newline, Concat, Annotate, Penalty}
use Rattle.plan.specs.declared.PendingPlan.{PendingPlan}
use Rattle.plan.specs.declared.PendingPlan.TheVariants.{Existing, New}
use Rattle.plan.specs.declared.PlanRecord.{PlanRecord}

-- the node of kind, first and second; kinds above 5 do not arise
abbrev pub node_of : ℕ → ℕ → ℕ → PlanNode
node_of zero a b = Empty
node_of (suc zero) a b = Text (record { 0 = a })
node_of (suc (suc zero)) a b = Newline a
node_of (suc (suc (suc zero))) a b = Concat (record { 0 = a }) (record { 0 = b })
node_of (suc (suc (suc (suc zero)))) a b = Annotate (record { 0 = a }) (record { 0 = b })
node_of (suc (suc (suc (suc (suc k))))) a b = Penalty a (record { 0 = b })

-- the node of row i
abbrev pub node_at : List (List ℕ) → ℕ → PlanNode
node_at rows i = node_of (get_or (get_or rows i []) 2 0) (get_or (get_or rows i []) 0 0) (get_or (get_or rows i []) 1 0)

abbrev pub node_record : PlanNode → PlanRecord
node_record Empty = record { first = 0; second = 0; kind = 0 }
node_record (Text t) = record { first = t.0; second = 0; kind = 1 }
node_record (Newline i) = record { first = i; second = 0; kind = 2 }
node_record (Concat l r) = record { first = l.0; second = r.0; kind = 3 }
node_record (Annotate a c) = record { first = a.0; second = c.0; kind = 4 }
node_record (Penalty n c) = record { first = n; second = c.0; kind = 5 }

abbrev pub record_of : PendingPlan → PlanRecord
record_of (Existing p) = record { first = p.0; second = 0; kind = 6 }
record_of (New x) = node_record x

-- the pending plan of kind, first and second; kinds above 6 do not arise
abbrev pub pending_of : ℕ → ℕ → ℕ → PendingPlan
pending_of zero a b = New Empty
pending_of (suc zero) a b = New (Text (record { 0 = a }))
pending_of (suc (suc zero)) a b = New (Newline a)
pending_of (suc (suc (suc zero))) a b = New (Concat (record { 0 = a }) (record { 0 = b }))
pending_of (suc (suc (suc (suc zero)))) a b = New (Annotate (record { 0 = a }) (record { 0 = b }))
pending_of (suc (suc (suc (suc (suc zero))))) a b = New (Penalty a (record { 0 = b }))
pending_of (suc (suc (suc (suc (suc (suc k)))))) a b = Existing (record { 0 = a })
