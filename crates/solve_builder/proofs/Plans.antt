-- Laws of pending plans: those of crate plan are the machine's; and of candidates put into the kept rows with their plans.
use mathlib.Core.Path.{◌≡◌, refl, sym, ap, ◌∙◌}
use mathlib.Core.List.{List, [], ◌∷◌, ◌++◌, map, map-append, append-nil, append_assoc}
use Prim.Native.Nat.{ℕ, zero, suc, ◌+◌, ◌≤◌, ◌<◌, ◌^◌}
use native.Mathlib.Omega.{arith}
use lib.ListN.{length, set, length-map, length-append}
use Rattle.plan.specs.declared.PlanNode.{PlanNode as Node}
use Rattle.plan.specs.declared.PendingPlan.{PendingPlan as Pended}
use Rattle.plan.specs.declared.PendingPlan.TheVariants.{Existing as Stands, New}
use Rattle.plan.specs.declared.Committed.{Committed}
use Rattle.plan.specs.Records.{pending_of}
use Rattle.plan.specs.Arena.{arena, view, additions, numbered, Committing}
use Rattle.frontier.specs.declared.ScratchCandidate.{ScratchCandidate}
use Rattle.frontier.specs.Candidates.{carried}
use Rattle.machine.specs.Model.{PlanNode, Candidate, Scratch}
use Rattle.machine.specs.Solver.{additional, plan_number, additional_plans, committed}
use Rattle.solve_workspace.specs.Rows.{Row, low, node_of, plan_of, plan_of_kind, plan_of_words, survivor, candidate_of, row_list}
use Rattle.solve_workspace.specs.Stacks.{row_list_push}
use Rattle.solve_workspace.specs.Words.{low_is}
use Rattle.solve_builder.specs.Committing.{kept_as, Commits}

-- ---- one plan

additional_view : (p : Pended) → map node_of (additions (view p)) ≡ additional (plan_of p)
additional_view (Stands p) = refl
additional_view (New x) = refl

number_view : (n : ℕ) (p : Pended) → (numbered n (view p)).0 ≡ plan_number n (plan_of p)
number_view n (Stands p) = refl
number_view n (New x) = refl

words_pending : (k a b : ℕ) → plan_of (pending_of k a b) ≡ plan_of_kind k a b
words_pending zero a b = refl
words_pending (suc zero) a b = refl
words_pending (suc (suc zero)) a b = refl
words_pending (suc (suc (suc zero))) a b = refl
words_pending (suc (suc (suc (suc zero)))) a b = refl
words_pending (suc (suc (suc (suc (suc zero))))) a b = refl
words_pending (suc (suc (suc (suc (suc (suc k)))))) a b = refl

-- the pending plan whose words, narrowed, are x, y and z
pub pended : (p : Pended) (x y z k a b : ℕ) → p ≡ pending_of x y z → x ≡ low k → y ≡ low a → z ≡ low b → plan_of p ≡ plan_of_words k a b
unfolding plan_of_words
pended p x y z k a b e i j l = rw (e, words_pending x y z, i, j, l)

pub length_view : (p : Pended) → length (additions (view p)) ≡ length (additional (plan_of p))
length_view p = sym (length-map (additions (view p)) node_of) ∙ ap length (additional_view p)

pub additional_few : (p : Pended) → length (additions (view p)) ≤ 1
additional_few (Stands p) = omega arith
additional_few (New x) = omega arith

-- a kept candidate in words
pub kept_row_is : (c : ScratchCandidate) (n : ℕ) → c.last < 2 ^ 32 → n < 2 ^ 32
    → candidate_of (c.cost.overflow_high ∷ c.cost.overflow_low ∷ c.cost.burden ∷ c.last ∷ c.precedence ∷ n ∷ []) ≡ kept_as (survivor (carried c)) n
unfolding candidate_of
kept_row_is c n h k = rw (low_is c.last h, low_is n k)

-- ---- many

pub additional_append : (xs ys : List Scratch) → additional_plans (xs ++ ys) ≡ additional_plans xs ++ additional_plans ys
unfolding additional_plans
additional_append [] ys = refl
additional_append (x ∷ xs) ys = rw (additional_append xs ys, append_assoc (additional x.plan.plan) (additional_plans xs) (additional_plans ys))

committed_append : (n : ℕ) (xs ys : List Scratch) → committed n (xs ++ ys) ≡ committed n xs ++ committed (n + length (additional_plans xs)) ys
unfolding committed additional_plans
committed_append n [] ys = let e : n + 0 ≡ n = omega arith in rw e
committed_append n (x ∷ xs) ys =
    let a = additional x.plan.plan in
    let e : n + length (a ++ additional_plans xs) ≡ (n + length a) + length (additional_plans xs) = omega (arith, length-append a (additional_plans xs)) in
    rw (committed_append (n + length a) xs ys, e)

pub commits_none : (ks ns : List Row) (k n : ℕ) → Commits [] ks ns ks ns k n k n
unfolding committed additional_plans
commits_none ks ns k n = record { number = omega arith; count = omega arith; kept = sym (append-nil (row_list candidate_of ks k)); plans = sym (append-nil (map node_of (arena ns n))) }

pub commits_one : (x : Scratch) (p : Pended) (ks ns ns' : List Row) (k n : ℕ) (row : Row) (r : Committed) → k < length ks → plan_of p ≡ x.plan.plan → candidate_of row ≡ kept_as x r.plan.0
    → Committing ns n (view p) ns' r → Commits (x ∷ []) ks ns (set ks k row) ns' k n (k + 1) r.count
unfolding additional_plans committed
commits_one x p ks ns ns' k n row r h e q d =
    let v : additional x.plan.plan ≡ map node_of (additions (view p)) = ap additional (sym e) ∙ sym (additional_view p) in
    let m : r.plan.0 ≡ plan_number n x.plan.plan = ap (λ (z : _). z.0) d.plan ∙ (number_view n p ∙ ap (plan_number n) e) in
    record {
      number = omega arith;
      count = rw (append-nil (additional x.plan.plan), v, length-map (additions (view p)) node_of) d.count;
      kept = row_list_push candidate_of ks k row h ∙ ap (λ (z : Candidate). row_list candidate_of ks k ++ (z ∷ [])) (q ∙ ap (kept_as x) m);
      plans = ap (λ (z : List Node). map node_of z) d.grown ∙ (map-append node_of (arena ns n) (additions (view p)) ∙ ap (λ (z : List PlanNode). map node_of (arena ns n) ++ z) (sym v ∙ sym (append-nil (additional x.plan.plan))));
    }

pub commits_then : (xs ys : List Scratch) (ks ns ks₁ ns₁ ks₂ ns₂ : List Row) (k n k₁ n₁ k₂ n₂ : ℕ) → Commits xs ks ns ks₁ ns₁ k n k₁ n₁ → Commits ys ks₁ ns₁ ks₂ ns₂ k₁ n₁ k₂ n₂
    → Commits (xs ++ ys) ks ns ks₂ ns₂ k n k₂ n₂
commits_then xs ys ks ns ks₁ ns₁ ks₂ ns₂ k n k₁ n₁ k₂ n₂ a b =
    record {
      number = omega (arith, a.number, b.number, length-append xs ys);
      count = omega (arith, a.count, b.count, ap length (additional_append xs ys), length-append (additional_plans xs) (additional_plans ys));
      kept = b.kept ∙ (ap (λ (z : List Candidate). z ++ committed n₁ ys) a.kept ∙ (append_assoc (row_list candidate_of ks k) (committed n xs) (committed n₁ ys)
          ∙ ap (λ (z : List Candidate). row_list candidate_of ks k ++ z) (ap (λ z. committed n xs ++ committed z ys) a.count ∙ sym (committed_append n xs ys))));
      plans = b.plans ∙ (ap (λ (z : List PlanNode). z ++ additional_plans ys) a.plans ∙ (append_assoc (map node_of (arena ns n)) (additional_plans xs) (additional_plans ys)
          ∙ ap (λ (z : List PlanNode). map node_of (arena ns n) ++ z) (sym (additional_append xs ys))));
    }
