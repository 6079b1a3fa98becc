-- Document 02, change 10: that the needs that a result comes with are the greatest of each kind, that with just these sizes the same result comes, and that with one of them smaller the run stops for want of that kind.
use Rattle.std.proofs.Math.Path.{◌≡◌, refl, sym, ap, subst}
use Rattle.std.proofs.Common.{◌∙◌, arith, get_or-set_same, get_or-set_other}
use Rattle.std.proofs.Math.Decide.{ℕ_discrete}
use Rattle.std.specs.Prelude.{Bool, cond, List, [], ◌∷◌, ℕ, ◌≤◌, ◌<◌, ◌^◌, max, eqb, get_or, set}
use Rattle.std.proofs.Math.Bool.{true, false}
use borrow.Author.Tests.{lt-ltb, leb-false, eqb-true, eqb-false}
use Rattle.std.proofs.Math.Dec.{leb}
use Rattle.layout.specs.Rules.{Rules}
use Rattle.machine.specs.Events.{Bounds, Counts, Needs, need_of, no_needs, no_counts, Kind, stack, memo, kept, frontier, plans, visit, depth, output, spans, size, bits, passes, counted, raised, with_needs, bare, Prog, ret, emit, Out, done, stop, run}
use Rattle.machine.specs.Events.{Event, Need, Within, Hit, Miss, Generated, Visit, Pruned, Peak, Entries, PlanNodes, Never}
use Rattle.machine.specs.Programs.{value, counts_after, done_is}
use Rattle.machine.specs.Model.{Prepared}
use Rattle.machine.specs.Materializer.{Rendered, render}
use Rattle.machine.specs.Answer.{paged, answer, answer_of}
use Rattle.machine.specs.Enough.{index, own, asked, asks, works, peak, work, visited, InDomain, Holds}
use Rattle.machine.specs.Just.{bare_out, needs_after, Lacks, Stops, same_kind, just, just_size, Smaller, Short, Fresh, RefusedBy, ended}
use Rattle.machine.proofs.Enough.{works_counted, visits_counted, necessary, enough}

-- ---- what is reported is the greatest need

abbrev needs_list : Needs → List ℕ
needs_list q = q.stack ∷ q.memo ∷ q.kept ∷ q.frontier ∷ q.plans ∷ q.visit ∷ q.depth ∷ q.output ∷ q.spans ∷ []

need_at : (q : Needs) (x : Kind) → need_of q x ≡ get_or (needs_list q) (index x) 0
need_at q stack = refl
need_at q memo = refl
need_at q kept = refl
need_at q frontier = refl
need_at q plans = refl
need_at q visit = refl
need_at q depth = refl
need_at q output = refl
need_at q spans = refl

raised_list : (q : Needs) (y : Kind) (n : ℕ) → needs_list (raised q y n) ≡ set (needs_list q) (index y) (max (need_of q y) n)
raised_list q stack n = refl
raised_list q memo n = refl
raised_list q kept n = refl
raised_list q frontier n = refl
raised_list q plans n = refl
raised_list q visit n = refl
raised_list q depth n = refl
raised_list q output n = refl
raised_list q spans n = refl

index_small : (x : Kind) → index x < 9
index_small stack = omega arith
index_small memo = omega arith
index_small kept = omega arith
index_small frontier = omega arith
index_small plans = omega arith
index_small visit = omega arith
index_small depth = omega arith
index_small output = omega arith
index_small spans = omega arith

raised_is : (q : Needs) (x y : Kind) (n : ℕ) → need_of (raised q y n) x ≡ max (need_of q x) (asks x (Need y n))
raised_is q x y n = need_at (raised q y n) x ∙ (ap (λ (l : List ℕ). get_or l (index x) 0) (raised_list q y n) ∙ go (eqb (index x) (index y)) refl)
  where
    go : (t : Bool) → eqb (index x) (index y) ≡ t → get_or (set (needs_list q) (index y) (max (need_of q y) n)) (index x) 0 ≡ max (need_of q x) (cond t n 0)
    go true e =
        let i : index x ≡ index y = eqb-true (index x) (index y) e in
        let same : need_of q x ≡ need_of q y = need_at q x ∙ (ap (λ (j : ℕ). get_or (needs_list q) j 0) i ∙ sym (need_at q y)) in
        let there = get_or-set_same (needs_list q) (index y) (max (need_of q y) n) 0 (index_small y) in
        ap (λ (j : ℕ). get_or (set (needs_list q) (index y) (max (need_of q y) n)) j 0) i ∙ (there ∙ omega (arith, same))
    go false e = get_or-set_other (needs_list q) (index y) (index x) (max (need_of q y) n) 0 (λ i. eqb-false (index x) (index y) e i) ∙ omega (arith, need_at q x)

event_need : (k : Counts) (e : Event) (x : Kind) → need_of (counted k e).needs x ≡ max (need_of k.needs x) (asks x e)
event_need k (Need y n) x = raised_is k.needs x y n
event_need k (Within r n) x = omega arith
event_need k Hit x = omega arith
event_need k Miss x = omega arith
event_need k Generated x = omega arith
event_need k Visit x = omega arith
event_need k (Pruned n) x = omega arith
event_need k (Peak n) x = omega arith
event_need k (Entries n) x = omega arith
event_need k (PlanNodes n) x = omega arith
event_need k Never x = omega arith

pub needs_peak : {A : Type 0} (k : Counts) (m : Prog A) (x : Kind) → need_of (counts_after k m).needs x ≡ max (need_of k.needs x) (peak x m)
unfolding peak
needs_peak k (ret a) x = omega arith
needs_peak k (emit e p) x = omega (arith, needs_peak (counted k e) p x, event_need k e x)

-- ---- runs without their needs

module _ (b : Bounds) where
  -- where a run ends, its needs are those of the program
  pub ends_with : {A : Type 0} (k j : Counts) (m : Prog A) (a : A) → bare_out (run b k m) ≡ done j a → run b k m ≡ done (with_needs j (needs_after k.needs m)) a
  ends_with {A} k j m a h = go (run b k m) refl h
    where
      all_needs : {i : Counts} {x : A} → run b k m ≡ done i x → i.needs ≡ needs_after k.needs m
      all_needs {i} {x} r =
          let e : ◌≡◌ {A = Out A} (done i x) (done (counts_after k m) (value m)) = done_is b k m r in
          let c : i ≡ counts_after k m = cc in
          let n : (y : Kind) → need_of i.needs y ≡ max (need_of k.needs y) (peak y m) = λ y. ap (λ (z : Counts). need_of z.needs y) c ∙ needs_peak k m y in
          rw (← n stack, ← n memo, ← n kept, ← n frontier, ← n plans, ← n visit, ← n depth, ← n output, ← n spans)

      go : (o : Out A) → run b k m ≡ o → bare_out o ≡ done j a → run b k m ≡ done (with_needs j (needs_after k.needs m)) a
      go (done i x) r e =
          let c : bare i ≡ j = cc in
          let d : x ≡ a = cc in
          r ∙ rw (← c, d, ← all_needs r)
      go (stop w n i) r e = let z : ◌≡◌ {A = ℕ} 0 1 = cc in absurd (omega arith)

-- ---- a run that lacks one kind alone stops for want of it

module _ {A : Type 0} (d : Bounds) (x : Kind) where
  lacks_tail : (k : Counts) (e : Event) (p : Prog A) → Lacks d x k (emit e p) → Lacks d x (counted k e) p
  unfolding peak work visited InDomain
  lacks_tail k e p h = record {
    others = λ y ne. omega (arith, h.others y ne);
    works_le = omega (arith, h.works_le, works_counted k e);
    visits_le = omega (arith, h.visits_le, visits_counted k e);
    domain = h.domain.1;
  }

  here : (k : Counts) (n : ℕ) (p : Prog A) → leb n (size d x) ≡ false → Stops d x (peak x (emit (Need x n) p)) (run d k (emit (Need x n) p))
  unfolding peak
  here k n p f = record { at = n; counts = bare k; is = rw f; more = leb-false n (size d x) f; within = omega (arith, own x n) }

  further : (k : Counts) (e : Event) (p : Prog A) → passes d k e ≡ true → Stops d x (peak x p) (run d (counted k e) p) → Stops d x (peak x (emit e p)) (run d k (emit e p))
  unfolding peak
  further k e p t s = record { at = s.at; counts = s.counts; is = rw t s.is; more = s.more; within = omega (arith, s.within) }

  worked : (k : Counts) (e : Event) (p : Prog A) → Lacks d x k (emit e p) → works e ≡ 1 → k.work_items < d.work_limit
  unfolding work
  worked k e p h q = omega (arith, h.works_le, q)

  seen : (k : Counts) (p : Prog A) → Lacks d x k (emit Visit p) → k.visits < d.visit_limit
  unfolding visited
  seen k p h = omega (arith, h.visits_le)

  pub stops : (k : Counts) (m : Prog A) → Lacks d x k m → size d x < peak x m → Stops d x (peak x m) (run d k m)
  unfolding peak InDomain
  stops k (ret a) h l = absurd (omega arith)
  stops k (emit (Need y n) p) h l = go (leb n (size d y)) refl (ℕ_discrete (index y) (index x)) (λ q. stops (counted k (Need y n)) p (lacks_tail k (Need y n) p h) q)
    where
      go : (t : Bool) → leb n (size d y) ≡ t → Dec (index y ≡ index x) → (size d x < peak x p → Stops d x (peak x p) (run d (counted k (Need y n)) p)) → Stops d x (peak x (emit (Need y n) p)) (run d k (emit (Need y n) p))
      go true f g r = further k (Need y n) p f (r (omega (arith, l, asked d k (Need y n) x f)))
      go false f (yes e) r =
          let z : x ≡ y = sym (same_kind y x e) in
          subst (λ (w : Kind). Stops d x (peak x (emit (Need w n) p)) (run d k (emit (Need w n) p))) z (here k n p (subst (λ (w : Kind). leb n (size d w) ≡ false) (sym z) f))
      go false f (no ne) r = absurd (omega (arith, h.others y ne, leb-false n (size d y) f, own y n))
  stops k (emit (Within r n) p) h l = further k (Within r n) p (lt-ltb n (2 ^ bits r) h.domain.0) (stops k p (lacks_tail k (Within r n) p h) (omega arith))
  stops k (emit Hit p) h l = further k Hit p (lt-ltb k.work_items d.work_limit (worked k Hit p h refl)) (stops _ p (lacks_tail k Hit p h) (omega arith))
  stops k (emit Miss p) h l = further k Miss p (lt-ltb k.work_items d.work_limit (worked k Miss p h refl)) (stops _ p (lacks_tail k Miss p h) (omega arith))
  stops k (emit Generated p) h l = further k Generated p (lt-ltb k.work_items d.work_limit (worked k Generated p h refl)) (stops _ p (lacks_tail k Generated p h) (omega arith))
  stops k (emit Visit p) h l = further k Visit p (lt-ltb k.visits d.visit_limit (seen k p h)) (stops _ p (lacks_tail k Visit p h) (omega arith))
  stops k (emit (Pruned n) p) h l = further k (Pruned n) p refl (stops _ p (lacks_tail k (Pruned n) p h) (omega arith))
  stops k (emit (Peak n) p) h l = further k (Peak n) p refl (stops _ p (lacks_tail k (Peak n) p h) (omega arith))
  stops k (emit (Entries n) p) h l = further k (Entries n) p refl (stops _ p (lacks_tail k (Entries n) p h) (omega arith))
  stops k (emit (PlanNodes n) p) h l = further k (PlanNodes n) p refl (stops _ p (lacks_tail k (PlanNodes n) p h) (omega arith))
  stops k (emit Never p) h l = absurd h.domain.0

-- ---- a run under just these sizes, and under less

no_need : (x : Kind) → need_of no_needs x ≡ 0
no_need stack = refl
no_need memo = refl
no_need kept = refl
no_need frontier = refl
no_need plans = refl
no_need visit = refl
no_need depth = refl
no_need output = refl
no_need spans = refl

short_of : {x : Kind} {q : Needs} {b d : Bounds} → Smaller x q b d → Short x q b d
short_of s = record { less = s.less; others = λ y ne. omega (arith, s.others y ne); work_limit_le = omega (arith, s.work_limit_is); visit_limit_le = omega (arith, s.visit_limit_is) }

module _ {A : Type 0} (b : Bounds) (o : Counts) (F : Fresh b o) (m : Prog A) {k : Counts} {a : A} (h : run b o m ≡ done k a) where
  held : Holds b o m
  held = necessary b o m F.works_le F.visits_le h

  pub need_is : (x : Kind) → need_of k.needs x ≡ peak x m
  need_is x =
      let e : ◌≡◌ {A = Out A} (done k a) (done (counts_after o m) (value m)) = done_is b o m h in
      let c : k ≡ counts_after o m = cc in
      let n = ap (λ (j : Counts). need_of j.needs x) c in
      let z = ap (λ (q : Needs). need_of q x) F.none_yet in
      omega (arith, n, needs_peak o m x, z, no_need x)

  -- the nine are sizes that were lent
  pub need_within : (x : Kind) → need_of k.needs x ≤ size b x
  need_within x = omega (arith, need_is x, held.sizes x)

  pub just_run : run (just k.needs b) o m ≡ done k a
  just_run =
      let z = held in
      let y : Holds (just k.needs b) o m = record { sizes = λ x. omega (arith, need_is x, just_size k.needs b x); works_le = z.works_le; visits_le = z.visits_le; domain = z.domain } in
      enough (just k.needs b) o m y ∙ sym (done_is b o m h)

  pub short_run : (x : Kind) (d : Bounds) → Short x k.needs b d → Stops d x (need_of k.needs x) (run d o m)
  short_run x d s =
      let z = held in
      let l : Lacks d x o m = record {
        others = λ y ne. omega (arith, s.others y ne, need_is y);
        works_le = omega (arith, z.works_le, s.work_limit_le);
        visits_le = omega (arith, z.visits_le, s.visit_limit_le);
        domain = z.domain;
      } in
      let t = stops d x o m l (omega (arith, s.less, need_is x)) in
      record { at = t.at; counts = t.counts; is = t.is; more = t.more; within = omega (arith, t.within, need_is x) }

  pub less_run : (x : Kind) (d : Bounds) → Smaller x k.needs b d → Stops d x (need_of k.needs x) (run d o m)
  less_run x d s = short_run x d (short_of s)

-- ---- the answer

module _ (R : Rules) (P : Prepared) (b : Bounds) (page : Rendered) (k : Counts) (h : answer R P b ≡ paged page k) where
  fresh : Fresh b no_counts
  fresh = record { works_le = omega arith; visits_le = omega arith; none_yet = refl }

  pub answer_need : (x : Kind) → need_of k.needs x ≡ peak x (render R P)
  answer_need = need_is b no_counts fresh (render R P) (ended R P b page k h)

  pub within_answer : (x : Kind) → need_of k.needs x ≤ size b x
  within_answer = need_within b no_counts fresh (render R P) (ended R P b page k h)

  pub just_answer : answer R P (just k.needs b) ≡ paged page k
  unfolding answer
  just_answer = ap answer_of (just_run b no_counts fresh (render R P) (ended R P b page k h))

  pub short_answer : (x : Kind) (d : Bounds) → Short x k.needs b d → RefusedBy x k.needs d (answer R P d)
  unfolding answer
  short_answer x d s =
      let t = short_run b no_counts fresh (render R P) (ended R P b page k h) x d s in
      record { needed = t.at; counts = t.counts; is = ap answer_of t.is; more = t.more; within = t.within }

  pub less_answer : (x : Kind) (d : Bounds) → Smaller x k.needs b d → RefusedBy x k.needs d (answer R P d)
  less_answer x d s = short_answer x d (short_of s)
