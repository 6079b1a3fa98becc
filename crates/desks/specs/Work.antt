-- Work under a limit: it is never more than the limit; a limit that is just met changes nothing, and one that is just missed is 12, with the work up to it.
use Rattle.std.proofs.Math.Path.{◌≡◌, sym, ap}
use Rattle.std.specs.Prelude.{refl, Bool, true, false, cond, ℕ, ◌+◌, ◌≤◌, ◌<◌, min, leb}
use Rattle.std.proofs.Common.{◌∙◌, arith, lt-ltb, le-ltb, ltb-true}
use Rattle.std.proofs.lemmas.Bool.{false≢true}
use Rattle.std.proofs.Math.Logic.{by_cases}
use Rattle.std.proofs.Math.Decide.{dec_lt}
use Rattle.layout.specs.Rules.{Rules}
use Rattle.machine.specs.Events.{Bounds, Counts, Kind, size, no_counts, passes, counted, bare, why, needed, work_spent, Prog, ret, emit, Out, done, stop, run}
use Rattle.machine.specs.Events.{stack, memo, kept, frontier, plans, visit, depth, output, spans}
use Rattle.machine.specs.Events.{Event, Need, Within, Hit, Miss, Generated, Visit, Pruned, Peak, Entries, PlanNodes, Never}
use Rattle.machine.specs.Programs.{Passes, counts_after, done_passes, done_is}
use Rattle.machine.specs.Enough.{Holds}
use Rattle.machine.proofs.Enough.{works_counted, necessary, enough}
use Rattle.machine.specs.Enough.{work as works_in}
use Rattle.machine.specs.Model.{Prepared}
use Rattle.machine.specs.Materializer.{Rendered, render}
use Rattle.machine.specs.Answer.{Answer, paged, refused, answer, answer_of}
use Rattle.machine.specs.Balance.{counts_of}
use Rattle.machine.specs.Just.{ended}
use Rattle.desks.specs.Desks.{at_most, work}

-- ---- never more than the limit

worked : (b : Bounds) (k : Counts) (e : Event) → passes b k e ≡ true → k.work_items ≤ b.work_limit → (counted k e).work_items ≤ b.work_limit
worked b k (Need x n) t h = h
worked b k (Within r n) t h = h
worked b k Hit t h = omega (arith, ltb-true k.work_items b.work_limit t)
worked b k Miss t h = omega (arith, ltb-true k.work_items b.work_limit t)
worked b k Generated t h = omega (arith, ltb-true k.work_items b.work_limit t)
worked b k Visit t h = h
worked b k (Pruned n) t h = h
worked b k (Peak n) t h = h
worked b k (Entries n) t h = h
worked b k (PlanNodes n) t h = h
worked b k Never t h = h

within_run : {A : Type 0} (b : Bounds) (k : Counts) (m : Prog A) → k.work_items ≤ b.work_limit → (counts_of (run b k m)).work_items ≤ b.work_limit
within_run b k (ret a) h = h
within_run b k (emit e p) h = go (passes b k e) refl (λ l. within_run b (counted k e) p l)
  where
    go : (t : Bool) → passes b k e ≡ t → ((counted k e).work_items ≤ b.work_limit → (counts_of (run b (counted k e) p)).work_items ≤ b.work_limit)
        → (counts_of (cond t (run b (counted k e) p) (stop (why e) (needed e) (bare k)))).work_items ≤ b.work_limit
    go true q f = f (worked b k e q h)
    go false q f = h

pub work_within : (R : Rules) (P : Prepared) (b : Bounds) → work (answer R P b) ≤ b.work_limit
unfolding answer
work_within R P b = go (run b no_counts (render R P)) (within_run b no_counts (render R P) (omega arith))
  where
    go : (o : Out Rendered) → (counts_of o).work_items ≤ b.work_limit → work (answer_of o) ≤ b.work_limit
    go (done k a) h = h
    go (stop w n k) h = h

-- ---- just met

pub at_most_size : (n : ℕ) (b : Bounds) (x : Kind) → size (at_most n b) x ≡ size b x
at_most_size n b stack = refl
at_most_size n b memo = refl
at_most_size n b kept = refl
at_most_size n b frontier = refl
at_most_size n b plans = refl
at_most_size n b visit = refl
at_most_size n b depth = refl
at_most_size n b output = refl
at_most_size n b spans = refl

works_after : {A : Type 0} (k : Counts) (m : Prog A) → (counts_after k m).work_items ≡ k.work_items + works_in m
unfolding works_in
works_after k (ret a) = omega arith
works_after k (emit e p) = omega (arith, works_after (counted k e) p, works_counted k e)

-- ---- just missed

-- stopped by 12, with just so much work
record Missed {A : Type 0} (n : ℕ) (o : Out A) : Type 0 where
  pub counts : Counts
  pub is : o ≡ stop work_spent 0 counts
  pub spent : counts.work_items ≡ n

module _ {A : Type 0} (b : Bounds) (n : ℕ) where
  further : (k : Counts) (e : Event) (p : Prog A) → passes (at_most n b) k e ≡ true → Missed n (run (at_most n b) (counted k e) p) → Missed n (run (at_most n b) k (emit e p))
  further k e p t s = record { counts = s.counts; is = rw t s.is; spent = s.spent }

  -- an event that is work
  tries : (k : Counts) (e : Event) (p : Prog A) → why e ≡ work_spent → needed e ≡ 0
      → (k.work_items < min b.work_limit n → passes (at_most n b) k e ≡ true) → (min b.work_limit n ≤ k.work_items → passes (at_most n b) k e ≡ false)
      → k.work_items ≤ n → k.work_items < b.work_limit → (k.work_items < n → Missed n (run (at_most n b) (counted k e) p)) → Missed n (run (at_most n b) k (emit e p))
  tries k e p w z yes_if no_if h l f =
      by_cases (dec_lt k.work_items n)
      (λ q. further k e p (yes_if (omega (arith, q, l))) (f q))
      (λ q. record { counts = bare k; is = rw (no_if (omega (arith, q)), w, z) refl; spent = omega (arith, q, h) })

  misses : (k : Counts) (m : Prog A) → Passes b k m → k.work_items ≤ n → n < (counts_after k m).work_items → Missed n (run (at_most n b) k m)
  misses k (ret a) h i l = absurd (omega (arith, i, l))
  misses k (emit (Need x r) p) h i l = further k (Need x r) p (ap (λ (z : ℕ). leb r z) (at_most_size n b x) ∙ h.0) (misses (counted k (Need x r)) p h.1 i l)
  misses k (emit (Within r q) p) h i l = further k (Within r q) p h.0 (misses (counted k (Within r q)) p h.1 i l)
  misses k (emit Hit p) h i l = tries k Hit p refl refl (λ q. lt-ltb _ _ q) (λ q. le-ltb _ _ q) i (ltb-true k.work_items b.work_limit h.0) (λ q. misses (counted k Hit) p h.1 (omega (arith, q)) l)
  misses k (emit Miss p) h i l = tries k Miss p refl refl (λ q. lt-ltb _ _ q) (λ q. le-ltb _ _ q) i (ltb-true k.work_items b.work_limit h.0) (λ q. misses (counted k Miss) p h.1 (omega (arith, q)) l)
  misses k (emit Generated p) h i l = tries k Generated p refl refl (λ q. lt-ltb _ _ q) (λ q. le-ltb _ _ q) i (ltb-true k.work_items b.work_limit h.0) (λ q. misses (counted k Generated) p h.1 (omega (arith, q)) l)
  misses k (emit Visit p) h i l = further k Visit p h.0 (misses _ p h.1 i l)
  misses k (emit (Pruned r) p) h i l = further k (Pruned r) p refl (misses _ p h.1 i l)
  misses k (emit (Peak r) p) h i l = further k (Peak r) p refl (misses _ p h.1 i l)
  misses k (emit (Entries r) p) h i l = further k (Entries r) p refl (misses _ p h.1 i l)
  misses k (emit (PlanNodes r) p) h i l = further k (PlanNodes r) p refl (misses _ p h.1 i l)
  misses k (emit Never p) h i l = let z : false ≡ true = h.0 in absurd (false≢true z)

-- ---- the answer

-- 12, with just so much work
pub record SpentAt (n : ℕ) (a : Answer) : Type 0 where
  pub counts : Counts
  pub is : a ≡ refused 12 0 counts
  pub work_is : counts.work_items ≡ n

module _ (R : Rules) (P : Prepared) (b : Bounds) (page : Rendered) (k : Counts) (h : answer R P b ≡ paged page k) (n : ℕ) where
  pub work_met : k.work_items ≤ n → answer R P (at_most n b) ≡ paged page k
  unfolding answer
  work_met l =
      let r = ended R P b page k h in
      let z = necessary b no_counts (render R P) (omega arith) (omega arith) r in
      let e : ◌≡◌ {A = Out Rendered} (done k page) (done (counts_after no_counts (render R P)) _) = done_is b no_counts (render R P) r in
      let c : k ≡ counts_after no_counts (render R P) = cc in
      let w = ap (λ (j : Counts). j.work_items) c in
      let y : Holds (at_most n b) no_counts (render R P) = record {
        sizes = λ x. omega (arith, z.sizes x, at_most_size n b x);
        works_le = omega (arith, z.works_le, w, works_after no_counts (render R P), l);
        visits_le = z.visits_le;
        domain = z.domain;
      } in
      ap answer_of (enough (at_most n b) no_counts (render R P) y ∙ sym e)

  pub work_missed : n < k.work_items → SpentAt n (answer R P (at_most n b))
  unfolding answer
  work_missed l =
      let r = ended R P b page k h in
      let e : ◌≡◌ {A = Out Rendered} (done k page) (done (counts_after no_counts (render R P)) _) = done_is b no_counts (render R P) r in
      let c : k ≡ counts_after no_counts (render R P) = cc in
      let w = ap (λ (j : Counts). j.work_items) c in
      let t = misses b n no_counts (render R P) (done_passes b no_counts (render R P) r) (omega arith) (omega (arith, l, w)) in
      record { counts = t.counts; is = ap answer_of t.is; work_is = t.spent }
