-- A pending plan's words, and the arena once it is committed.
use mathlib.Core.Path.{◌≡◌, refl}
use mathlib.Core.List.{List, [], ◌∷◌}
use Prim.Native.Nat.{ℕ, zero, suc, ◌+◌, ◌≤◌, ◌<◌}
use native.Mathlib.Numerals.{add-one}
use native.Mathlib.Omega.{arith}
use lib.ListN.{length, set}
use lib.Seq.{get_or-set_same, get_or-set_other}
use Rattle.plan.specs.declared.PlanNode.{PlanNode}
use Rattle.plan.specs.declared.PlanNode.TheVariants.{Empty, Text, Newline, Concat, Annotate, Penalty}
use Rattle.plan.specs.Records.{node_record, node_of}
use Rattle.plan.specs.Arena.{arena, new, Committing}

-- a record's words give it back
pub node_back : (x : PlanNode) → node_of (node_record x).kind (node_record x).first (node_record x).second ≡ x
node_back Empty = refl
node_back (Text t) = refl
node_back (Newline i) = refl
node_back (Concat l r) = refl
node_back (Annotate a c) = refl
node_back (Penalty n c) = refl

old_arena : (rows : List (List ℕ)) (n : ℕ) (row : List ℕ) (m : ℕ) → m ≤ n → arena (set rows n row) m ≡ arena rows m
unfolding arena
old_arena rows n row zero h = refl
old_arena rows n row (suc m) h = rw (old_arena rows n row m (omega arith), get_or-set_other rows n m row [] (λ e. omega arith))

pub commit_new : (rows : List (List ℕ)) (n : ℕ) (x : PlanNode) → n < length rows
    → Committing rows n (new x) (set rows n ((node_record x).first ∷ (node_record x).second ∷ (node_record x).kind ∷ [])) (record { plan = record { 0 = n }; count = n + 1 })
unfolding arena
commit_new rows n x h =
    let row = (node_record x).first ∷ (node_record x).second ∷ (node_record x).kind ∷ [] in
    record {
      plan = refl;
      count = refl;
      grown = rw (add-one n, old_arena rows n row n (omega arith), get_or-set_same rows n row [] h, node_back x);
    }
