-- The arena of plans as a list of records, and what committing a plan does to it.
use Rattle.std.specs.Prelude.{◌≡◌, cond, List, [], ◌∷◌, ◌++◌, ℕ, zero, suc, ◌+◌, length, leb, Result, Ok, Err}
use Rattle.plan.specs.declared.PlanId.{PlanId}
use Rattle.plan.specs.declared.PlanNode.{PlanNode}
use Rattle.plan.specs.declared.PendingPlan.{PendingPlan}
use Rattle.plan.specs.declared.PendingPlan.TheVariants.{Existing, New}
use Rattle.plan.specs.declared.Full.{Full}
use Rattle.plan.specs.declared.Committed.{Committed}
use Rattle.plan.specs.Records.{node_at}

-- the first n rows
unfoldable pub arena : List (List ℕ) → ℕ → List PlanNode
arena rows zero = []
arena rows (suc n) = arena rows n ++ (node_at rows n ∷ [])

-- a pending plan is one of the arena, or a record that would be new there
pub data Pending : Type 0 where
  old : PlanId → Pending
  new : PlanNode → Pending

abbrev pub view : PendingPlan → Pending
view (Existing p) = old p
view (New x) = new x

-- what it adds to the arena
abbrev pub additions : Pending → List PlanNode
additions (old p) = []
additions (new x) = x ∷ []

-- its number, once it is committed to an arena of n records
abbrev pub numbered : ℕ → Pending → PlanId
numbered n (old p) = p
numbered n (new x) = record { 0 = n }

pub record Committing (rows : List (List ℕ)) (n : ℕ) (p : Pending) (rows' : List (List ℕ)) (r : Committed) : Type 0 where
  pub plan : r.plan ≡ numbered n p
  pub count : r.count ≡ n + length (additions p)
  pub grown : arena rows' r.count ≡ arena rows n ++ additions p

-- refusal 17: the size is less than required
abbrev pub room_for : ℕ → ℕ → Result Unit Full
room_for required size = cond (leb required size) (Ok tt) (Err (record { needed = required }))
