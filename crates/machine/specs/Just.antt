-- Document 02, change 10. The needs that a result comes with are the greatest of each kind. With just these sizes the same result comes; with exactly one of them smaller the run stops for want of that kind.
-- All of it is of any program, from any counts; then of the answer.
use Rattle.std.proofs.Math.Path.{◌≡◌, refl, sym, ap}
use Rattle.std.proofs.Common.{◌∙◌, arith}
use Rattle.std.specs.Prelude.{Bool, cond, List, [], ◌∷◌, ℕ, ◌+◌, ◌≤◌, ◌<◌, max, get_or}
use Rattle.std.proofs.Math.Bool.{true, false}
use Rattle.layout.specs.Rules.{Rules}
use Rattle.machine.specs.Events.{Bounds, Counts, Needs, need_of, no_needs, no_counts, Kind, stack, memo, kept, frontier, plans, visit, depth, output, spans, size, number, passes, counted, with_needs, bare, why, needed, Why, too_small, Prog, ret, emit, Out, done, stop, run}
use Rattle.machine.specs.Events.{Event, Need, Within, Hit, Miss, Generated, Visit, Pruned, Peak, Entries, PlanNodes, Never}
use Rattle.machine.specs.Model.{Prepared}
use Rattle.machine.specs.Materializer.{Rendered, render}
use Rattle.machine.specs.Answer.{Answer, paged, refused, answer, answer_of}
use Rattle.machine.specs.Enough.{index, peak, work, visited, InDomain}

-- ---- runs without their needs

abbrev pub bare_out : {A : Type 0} → Out A → Out A
bare_out (done k a) = done (bare k) a
bare_out (stop w n k) = stop w n (bare k)

-- what a program makes of the needs, from q on
abbrev pub needs_after : {A : Type 0} → Needs → Prog A → Needs
needs_after q m = record {
  stack = max q.stack (peak stack m);
  memo = max q.memo (peak memo m);
  kept = max q.kept (peak kept m);
  frontier = max q.frontier (peak frontier m);
  plans = max q.plans (peak plans m);
  visit = max q.visit (peak visit m);
  depth = max q.depth (peak depth m);
  output = max q.output (peak output m);
  spans = max q.spans (peak spans m);
}

module _ (b : Bounds) where
  same_test : (k : Counts) (q : Needs) (e : Event) → passes b (with_needs k q) e ≡ passes b k e
  same_test k q (Need x n) = refl
  same_test k q (Within r n) = refl
  same_test k q Hit = refl
  same_test k q Miss = refl
  same_test k q Generated = refl
  same_test k q Visit = refl
  same_test k q (Pruned n) = refl
  same_test k q (Peak n) = refl
  same_test k q (Entries n) = refl
  same_test k q (PlanNodes n) = refl
  same_test k q Never = refl

  -- an event makes the same of the counts, whatever the needs are
  same_counts : (k : Counts) (q : Needs) (e : Event) → counted (with_needs k q) e ≡ with_needs (counted k e) (counted (with_needs k q) e).needs
  same_counts k q (Need x n) = refl
  same_counts k q (Within r n) = refl
  same_counts k q Hit = refl
  same_counts k q Miss = refl
  same_counts k q Generated = refl
  same_counts k q Visit = refl
  same_counts k q (Pruned n) = refl
  same_counts k q (Peak n) = refl
  same_counts k q (Entries n) = refl
  same_counts k q (PlanNodes n) = refl
  same_counts k q Never = refl

  -- needs at the beginning change nothing else
  pub needless : {A : Type 0} (k : Counts) (q : Needs) (m : Prog A) → bare_out (run b (with_needs k q) m) ≡ bare_out (run b k m)
  needless k q (ret a) = refl
  needless {A} k q (emit e p) = rw (same_test k q e) (go (passes b k e) (rw (same_counts k q e) (needless (counted k e) (counted (with_needs k q) e).needs p)))
    where
      go : (t : Bool) → bare_out (run b (counted (with_needs k q) e) p) ≡ bare_out (run b (counted k e) p)
          → bare_out (cond t (run b (counted (with_needs k q) e) p) (stop (why e) (needed e) (bare k))) ≡ bare_out (cond t (run b (counted k e) p) (stop (why e) (needed e) (bare k)))
      go true h = h
      go false h = refl

  -- a stop tells no needs
  stop_bare : {A : Type 0} (k : Counts) (m : Prog A) {w : Why} {n : ℕ} {j : Counts} → run b k m ≡ stop w n j → bare j ≡ j
  stop_bare k (ret a) h = let z : ◌≡◌ {A = ℕ} 0 1 = cc in absurd (omega arith)
  stop_bare {A} k (emit e p) {w} {n} {j} h = go (passes b k e) h (λ r. stop_bare (counted k e) p r)
    where
      go : (t : Bool) → cond t (run b (counted k e) p) (stop (why e) (needed e) (bare k)) ≡ stop w n j → (run b (counted k e) p ≡ stop w n j → bare j ≡ j) → bare j ≡ j
      go true r f = f r
      go false r f = let c : bare k ≡ j = cc in rw (← c) refl

  pub stops_with : {A : Type 0} (k : Counts) (m : Prog A) (w : Why) (n : ℕ) (j : Counts) → bare_out (run b k m) ≡ stop w n j → run b k m ≡ stop w n j
  stops_with {A} k m w n j h = go (run b k m) refl h
    where
      go : (o : Out A) → run b k m ≡ o → bare_out o ≡ stop w n j → run b k m ≡ stop w n j
      go (done i x) r e = let z : ◌≡◌ {A = ℕ} 0 1 = cc in absurd (omega arith)
      go (stop v y i) r e = r ∙ ap (λ (c : Counts). stop v y c) (sym (stop_bare k m r)) ∙ e

-- ---- a run that lacks one kind alone stops for want of it

-- the others suffice
pub record Lacks {A : Type 0} (d : Bounds) (x : Kind) (k : Counts) (m : Prog A) : Type 0 where
  pub others : (y : Kind) → (index y ≡ index x → ⊥) → peak y m ≤ size d y
  pub works_le : k.work_items + work m ≤ d.work_limit
  pub visits_le : k.visits + visited m ≤ d.visit_limit
  pub domain : InDomain m

-- the size told is more than there is and at most `most`
pub record Stops {A : Type 0} (d : Bounds) (x : Kind) (most : ℕ) (o : Out A) : Type 0 where
  pub at : ℕ
  pub counts : Counts
  pub is : o ≡ stop (too_small x) at counts
  pub more : size d x < at
  pub within : at ≤ most

kinds : List Kind
kinds = stack ∷ memo ∷ kept ∷ frontier ∷ plans ∷ visit ∷ depth ∷ output ∷ spans ∷ []

kind_at : (x : Kind) → get_or kinds (index x) stack ≡ x
unfolding kinds
kind_at stack = refl
kind_at memo = refl
kind_at kept = refl
kind_at frontier = refl
kind_at plans = refl
kind_at visit = refl
kind_at depth = refl
kind_at output = refl
kind_at spans = refl

pub same_kind : (x y : Kind) → index x ≡ index y → x ≡ y
same_kind x y e = sym (kind_at x) ∙ (ap (λ (i : ℕ). get_or kinds i stack) e ∙ kind_at y)

-- ---- a run under just these sizes, and under less

-- the sizes that are reported, with the limits of b
abbrev pub just : Needs → Bounds → Bounds
just q b = record {
  stack = q.stack;
  memo = q.memo;
  kept = q.kept;
  frontier = q.frontier;
  plans = q.plans;
  visit = q.visit;
  depth = q.depth;
  output = q.output;
  spans = q.spans;
  work_limit = b.work_limit;
  visit_limit = b.visit_limit;
}

pub just_size : (q : Needs) (b : Bounds) (x : Kind) → size (just q b) x ≡ need_of q x
just_size q b stack = refl
just_size q b memo = refl
just_size q b kept = refl
just_size q b frontier = refl
just_size q b plans = refl
just_size q b visit = refl
just_size q b depth = refl
just_size q b output = refl
just_size q b spans = refl

-- d has exactly one size smaller than reported, the others as reported, and the limits of b
pub record Smaller (x : Kind) (q : Needs) (b d : Bounds) : Type 0 where
  pub less : size d x < need_of q x
  pub others : (y : Kind) → (index y ≡ index x → ⊥) → size d y ≡ need_of q y
  pub work_limit_is : d.work_limit ≡ b.work_limit
  pub visit_limit_is : d.visit_limit ≡ b.visit_limit

-- d has less of one kind than reported, and of everything else enough
pub record Short (x : Kind) (q : Needs) (b d : Bounds) : Type 0 where
  pub less : size d x < need_of q x
  pub others : (y : Kind) → (index y ≡ index x → ⊥) → need_of q y ≤ size d y
  pub work_limit_le : b.work_limit ≤ d.work_limit
  pub visit_limit_le : b.visit_limit ≤ d.visit_limit

-- counts that a run may begin with: within the limits, and nothing needed yet
pub record Fresh (b : Bounds) (o : Counts) : Type 0 where
  pub works_le : o.work_items ≤ b.work_limit
  pub visits_le : o.visits ≤ b.visit_limit
  pub none_yet : o.needs ≡ no_needs

-- ---- the answer

-- refused by that kind's own number; the size told is more than there is and at most the need reported
pub record RefusedBy (x : Kind) (q : Needs) (d : Bounds) (a : Answer) : Type 0 where
  pub needed : ℕ
  pub counts : Counts
  pub is : a ≡ refused (number (too_small x)) needed counts
  pub more : size d x < needed
  pub within : needed ≤ need_of q x

module _ (R : Rules) (P : Prepared) (b : Bounds) (page : Rendered) (k : Counts) (h : answer R P b ≡ paged page k) where
  pub ended : run b no_counts (render R P) ≡ done k page
  unfolding answer
  ended = go (run b no_counts (render R P)) refl h
    where
      go : (o : Out Rendered) → run b no_counts (render R P) ≡ o → answer_of o ≡ paged page k → run b no_counts (render R P) ≡ done k page
      go (done j x) e q = let f : j ≡ k = cc in let g : x ≡ page = cc in e ∙ rw (f, g)
      go (stop w n j) e q = let z : ◌≡◌ {A = ℕ} 0 1 = cc in absurd (omega arith)
