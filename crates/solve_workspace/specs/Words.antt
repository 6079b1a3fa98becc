-- Laws of the words in which tasks, plans and candidates are stored.
use Rattle.std.specs.Prelude.{◌≡◌, refl, [], ◌∷◌, ℕ, zero, suc, ◌^◌, ◌<◌}
use Rattle.std.proofs.Common.{mod-eq_of_lt}
use Rattle.cost.specs.Value.{halves}
use Rattle.memo.specs.declared.MemoKey.{MemoKey}
use Rattle.memo.specs.declared.CandidateRange.{CandidateRange}
use Rattle.plan.specs.declared.PlanRecord.{PlanRecord}
use Rattle.plan.specs.declared.PendingPlan.{PendingPlan as Pended}
use Rattle.plan.specs.declared.PendingPlan.TheVariants.{Existing as Stands, New}
use Rattle.plan.specs.declared.PlanNode.TheVariants.{Empty, Text, Newline, Concat, Annotate, Penalty}
use Rattle.plan.specs.Records.{record_of}
use Rattle.machine.specs.Model.{CompleteSequenceRight, PendingPlan, scratch}
use Rattle.solve_workspace.specs.Rows.{low, task_of_kind, plan_of, plan_of_kind, plan_of_words, scratch_of}

-- the last kind stands for all larger numbers
pub last_kind : (k : ℕ) (q : MemoKey) (x : ℕ) (r : CandidateRange) (o p : ℕ) → (k ≡ 0 → ⊥) → (k ≡ 1 → ⊥) → (k ≡ 2 → ⊥) → (k ≡ 3 → ⊥) → (k ≡ 4 → ⊥) → (k ≡ 5 → ⊥) → (k ≡ 6 → ⊥)
    → CompleteSequenceRight q x r o p ≡ task_of_kind k q x r o p
last_kind zero q x r o p a b c d e f g = absurd (a refl)
last_kind (suc zero) q x r o p a b c d e f g = absurd (b refl)
last_kind (suc (suc zero)) q x r o p a b c d e f g = absurd (c refl)
last_kind (suc (suc (suc zero))) q x r o p a b c d e f g = absurd (d refl)
last_kind (suc (suc (suc (suc zero)))) q x r o p a b c d e f g = absurd (e refl)
last_kind (suc (suc (suc (suc (suc zero))))) q x r o p a b c d e f g = absurd (f refl)
last_kind (suc (suc (suc (suc (suc (suc zero)))))) q x r o p a b c d e f g = absurd (g refl)
last_kind (suc (suc (suc (suc (suc (suc (suc k))))))) q x r o p a b c d e f g = refl

pub low_is : (x : ℕ) → x < 2 ^ 32 → low x ≡ x
low_is x h = mod-eq_of_lt h

record_plan : (p : Pended) → plan_of_kind (record_of p).kind (record_of p).first (record_of p).second ≡ plan_of p
record_plan (Stands p) = refl
record_plan (New Empty) = refl
record_plan (New (Text t)) = refl
record_plan (New (Newline i)) = refl
record_plan (New (Concat l r)) = refl
record_plan (New (Annotate a c)) = refl
record_plan (New (Penalty n c)) = refl

-- the words of a pending plan, in numbers of 32 bits
pub words_plan : (p : Pended) (r : PlanRecord) → r ≡ record_of p → r.kind < 2 ^ 32 → r.first < 2 ^ 32 → r.second < 2 ^ 32 → plan_of_words r.kind r.first r.second ≡ plan_of p
unfolding plan_of_words
words_plan p r e h i j = rw (low_is r.kind h, low_is r.first i, low_is r.second j, e) (record_plan p)

-- a pending candidate in the row of its words
pub pending_row : (h l b last k f g : ℕ) (p : PendingPlan) → last < 2 ^ 32 → plan_of_words k f g ≡ p
    → scratch_of (h ∷ l ∷ b ∷ last ∷ k ∷ f ∷ g ∷ []) ≡ scratch (record { overflow = halves h l; burden = b }) last p
unfolding scratch_of
pending_row h l b last k f g p w e = rw (low_is last w, e)
