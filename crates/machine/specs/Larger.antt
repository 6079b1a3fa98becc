-- Under sizes and limits none smaller, what ends in a result ends in the same one, with the same counts.
use Rattle.std.proofs.Math.Path.{◌≡◌, refl, ap}
use Rattle.std.proofs.Common.{sym, ◌∙◌, arith, le-leb, lt-ltb, leb-true, ltb-true}
use Rattle.std.specs.Prelude.{true, ℕ, ◌≤◌, ltb}
use Rattle.layout.specs.Rules.{Rules}
use Rattle.machine.specs.Events.{Bounds, Counts, no_counts, Kind, size, passes, counted, Prog, ret, emit, Out, done, stop, run}
use Rattle.machine.specs.Events.{Event, Need, Within, Hit, Miss, Generated, Visit, Pruned, Peak, Entries, PlanNodes, Never}
use Rattle.machine.specs.Programs.{Passes, run_passes, done_passes, done_is}
use Rattle.machine.specs.Model.{Prepared}
use Rattle.machine.specs.Materializer.{Rendered, render}
use Rattle.machine.specs.Answer.{paged, answer, answer_of}

-- none of them is smaller
pub record Larger (b d : Bounds) : Type 0 where
  pub sizes : (x : Kind) → size b x ≤ size d x
  pub work_limit_le : b.work_limit ≤ d.work_limit
  pub visit_limit_le : b.visit_limit ≤ d.visit_limit

module _ (b d : Bounds) (L : Larger b d) where
  work_larger : (n : ℕ) → ltb n b.work_limit ≡ true → ltb n d.work_limit ≡ true
  work_larger n h = lt-ltb n d.work_limit (omega (arith, ltb-true n b.work_limit h, L.work_limit_le))

  passes_larger : (k : Counts) (e : Event) → passes b k e ≡ true → passes d k e ≡ true
  passes_larger k (Need x n) h = le-leb n (size d x) (omega (arith, leb-true n (size b x) h, L.sizes x))
  passes_larger k (Within r n) h = h
  passes_larger k Hit h = work_larger k.work_items h
  passes_larger k Miss h = work_larger k.work_items h
  passes_larger k Generated h = work_larger k.work_items h
  passes_larger k Visit h = lt-ltb k.visits d.visit_limit (omega (arith, ltb-true k.visits b.visit_limit h, L.visit_limit_le))
  passes_larger k (Pruned n) h = refl
  passes_larger k (Peak n) h = refl
  passes_larger k (Entries n) h = refl
  passes_larger k (PlanNodes n) h = refl
  passes_larger k Never h = h

  all_larger : {A : Type 0} (k : Counts) (m : Prog A) → Passes b k m → Passes d k m
  all_larger k (ret a) h = tt
  all_larger k (emit e p) h = (passes_larger k e h.0, all_larger (counted k e) p h.1)

  pub larger : {A : Type 0} (k : Counts) (m : Prog A) {j : Counts} {a : A} → run b k m ≡ done j a → run d k m ≡ done j a
  larger k m h = run_passes d k m (all_larger k m (done_passes b k m h)) ∙ sym (done_is b k m h)

  -- the same page, the same counts
  pub larger_answer : (R : Rules) (P : Prepared) (page : Rendered) (k : Counts) → answer R P b ≡ paged page k → answer R P d ≡ paged page k
  unfolding answer
  larger_answer R P page k h = go (run b no_counts (render R P)) refl h
    where
      go : (o : Out Rendered) → run b no_counts (render R P) ≡ o → answer_of o ≡ paged page k → answer_of (run d no_counts (render R P)) ≡ paged page k
      go (done j x) e q = ap answer_of (larger no_counts (render R P) e) ∙ q
      go (stop w n j) e q = let z : ◌≡◌ {A = ℕ} 0 1 = cc in absurd (omega arith)
