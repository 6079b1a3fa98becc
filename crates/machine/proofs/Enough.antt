-- The greatest need of each kind, the work and the visits are what a program takes: that with as much it ends, and with less it does not.
use Rattle.std.specs.Prelude.{◌≡◌, true, ◌+◌, ◌≤◌, ◌^◌}
use Rattle.std.proofs.Math.Path.{refl}
use Rattle.std.proofs.Common.{arith}
use Rattle.std.proofs.lemmas.Bool.{false≢true}
use borrow.Author.Tests.{le-leb, lt-ltb, ltb-true}
use Rattle.machine.specs.Events.{Bounds, Counts, size, bits, passes, counted, Prog, ret, emit, done, run}
use Rattle.machine.specs.Events.{Event, Need, Within, Hit, Miss, Generated, Visit, Pruned, Peak, Entries, PlanNodes, Never}
use Rattle.machine.specs.Programs.{value, counts_after, Passes, run_passes, done_passes}
use Rattle.machine.specs.Enough.{asks, works, visits_of, Fine, peak, work, visited, InDomain, Holds, own, asked}

tail : {A : Type 0} (b : Bounds) (k : Counts) (e : Event) (p : Prog A) → (counted k e).work_items ≡ k.work_items + works e → (counted k e).visits ≡ k.visits + visits_of e
    → Holds b k (emit e p) → Holds b (counted k e) p
unfolding peak work visited InDomain
tail b k e p w v h = record {
  sizes = λ x. omega (arith, h.sizes x);
  works_le = omega (arith, h.works_le, w);
  visits_le = omega (arith, h.visits_le, v);
  domain = h.domain.1;
}

pub works_counted : (k : Counts) (e : Event) → (counted k e).work_items ≡ k.work_items + works e
works_counted k (Need x n) = omega arith
works_counted k (Within r n) = omega arith
works_counted k Hit = refl
works_counted k Miss = refl
works_counted k Generated = refl
works_counted k Visit = omega arith
works_counted k (Pruned n) = omega arith
works_counted k (Peak n) = omega arith
works_counted k (Entries n) = omega arith
works_counted k (PlanNodes n) = omega arith
works_counted k Never = omega arith

pub visits_counted : (k : Counts) (e : Event) → (counted k e).visits ≡ k.visits + visits_of e
visits_counted k (Need x n) = omega arith
visits_counted k (Within r n) = omega arith
visits_counted k Hit = omega arith
visits_counted k Miss = omega arith
visits_counted k Generated = omega arith
visits_counted k Visit = refl
visits_counted k (Pruned n) = omega arith
visits_counted k (Peak n) = omega arith
visits_counted k (Entries n) = omega arith
visits_counted k (PlanNodes n) = omega arith
visits_counted k Never = omega arith

fine : (b : Bounds) (k : Counts) (e : Event) → passes b k e ≡ true → Fine e
fine b k (Need x n) t = tt
fine b k (Within r n) t = ltb-true n (2 ^ bits r) t
fine b k Hit t = tt
fine b k Miss t = tt
fine b k Generated t = tt
fine b k Visit t = tt
fine b k (Pruned n) t = tt
fine b k (Peak n) t = tt
fine b k (Entries n) t = tt
fine b k (PlanNodes n) t = tt
fine b k Never t = absurd (false≢true t)

spent : (b : Bounds) (k : Counts) (e : Event) → passes b k e ≡ true → k.work_items ≤ b.work_limit → (counted k e).work_items ≤ b.work_limit
spent b k (Need x n) t h = h
spent b k (Within r n) t h = h
spent b k Hit t h = omega (arith, ltb-true k.work_items b.work_limit t)
spent b k Miss t h = omega (arith, ltb-true k.work_items b.work_limit t)
spent b k Generated t h = omega (arith, ltb-true k.work_items b.work_limit t)
spent b k Visit t h = h
spent b k (Pruned n) t h = h
spent b k (Peak n) t h = h
spent b k (Entries n) t h = h
spent b k (PlanNodes n) t h = h
spent b k Never t h = h

viewed : (b : Bounds) (k : Counts) (e : Event) → passes b k e ≡ true → k.visits ≤ b.visit_limit → (counted k e).visits ≤ b.visit_limit
viewed b k (Need x n) t h = h
viewed b k (Within r n) t h = h
viewed b k Hit t h = h
viewed b k Miss t h = h
viewed b k Generated t h = h
viewed b k Visit t h = omega (arith, ltb-true k.visits b.visit_limit t)
viewed b k (Pruned n) t h = h
viewed b k (Peak n) t h = h
viewed b k (Entries n) t h = h
viewed b k (PlanNodes n) t h = h
viewed b k Never t h = h

-- ---- as much is enough

module _ {A : Type 0} (b : Bounds) where
  first_passes : (k : Counts) (e : Event) (p : Prog A) → Holds b k (emit e p) → passes b k e ≡ true
  unfolding peak work visited InDomain
  first_passes k (Need x n) p h = le-leb n (size b x) (omega (arith, h.sizes x, own x n))
  first_passes k (Within r n) p h = lt-ltb n (2 ^ bits r) h.domain.0
  first_passes k Hit p h = lt-ltb k.work_items b.work_limit (omega (arith, h.works_le))
  first_passes k Miss p h = lt-ltb k.work_items b.work_limit (omega (arith, h.works_le))
  first_passes k Generated p h = lt-ltb k.work_items b.work_limit (omega (arith, h.works_le))
  first_passes k Visit p h = lt-ltb k.visits b.visit_limit (omega (arith, h.visits_le))
  first_passes k (Pruned n) p h = refl
  first_passes k (Peak n) p h = refl
  first_passes k (Entries n) p h = refl
  first_passes k (PlanNodes n) p h = refl
  first_passes k Never p h = absurd h.domain.0

  pub holds_passes : (k : Counts) (m : Prog A) → Holds b k m → Passes b k m
  holds_passes k (ret a) h = tt
  holds_passes k (emit e p) h = (first_passes k e p h, holds_passes (counted k e) p (tail b k e p (works_counted k e) (visits_counted k e) h))

  pub enough : (k : Counts) (m : Prog A) → Holds b k m → run b k m ≡ done (counts_after k m) (value m)
  enough k m h = run_passes b k m (holds_passes k m h)

  -- ---- and less is not

  head_holds : (k : Counts) (e : Event) (p : Prog A) → passes b k e ≡ true → Holds b (counted k e) p → Holds b k (emit e p)
  unfolding peak work visited InDomain
  head_holds k e p t h = record {
    sizes = λ x. let g : asks x e ≤ size b x = asked b k e x t in omega (arith, h.sizes x);
    works_le = omega (arith, h.works_le, works_counted k e);
    visits_le = omega (arith, h.visits_le, visits_counted k e);
    domain = (fine b k e t, h.domain);
  }

  pub passes_holds : (k : Counts) (m : Prog A) → k.work_items ≤ b.work_limit → k.visits ≤ b.visit_limit → Passes b k m → Holds b k m
  unfolding peak work visited InDomain
  passes_holds k (ret a) w v h = record { sizes = λ x. omega arith; works_le = omega arith; visits_le = omega arith; domain = tt }
  passes_holds k (emit e p) w v h = head_holds k e p h.0 (passes_holds (counted k e) p (spent b k e h.0 w) (viewed b k e h.0 v) h.1)

  -- what ends had all that it asks for
  pub necessary : (k : Counts) (m : Prog A) {j : Counts} {a : A} → k.work_items ≤ b.work_limit → k.visits ≤ b.visit_limit → run b k m ≡ done j a → Holds b k m
  necessary k m w v h = passes_holds k m w v (done_passes b k m h)
