-- What each kind of layout emits first. An event, run: it goes on, or it stops. And n bytes tested one by one are one test.
use Rattle.std.specs.Prelude.{Err}
use mathlib.Core.Path.{◌≡◌, refl, ap, ◌∙◌}
use mathlib.Core.Bool.{Bool, true, false}
use Prim.Native.Nat.{ℕ, zero, suc, ◌+◌, ◌≤◌, ◌<◌}
use native.Mathlib.Omega.{arith}
use native.Mathlib.Numerals.{add-one}
use lib.Dec.{leb}
use lib.ListN.{length}
use borrow.Author.Tests.{le-ltb, lt-ltb, le-leb, lt-leb, leb-true, leb-false}
use Rattle.layout.specs.Document.{Word}
use Rattle.layout.specs.Layout.{Plan, blank, put, line, join, mark, fee, page}
use Rattle.machine.specs.Events.{Kind, visit, depth, output, spans, no_needs, raised, Need, Visit, Prog, emit, ◌>>◌, say, stop, size, too_small}
use Rattle.machine.specs.Programs.{bind_assoc}
use Rattle.machine.specs.Materializer.{marks, append_each, visit_plan}
use Rattle.machine.specs.Just.{needless}
use Rattle.materialize.specs.declared.Capacity.{Capacity}
use Rattle.materialize.specs.declared.Exhausted.TheVariants.{Output, Visits}
use Rattle.materialize.specs.Answer.{passed_with, with_visits, told}
use Rattle.materialize.specs.Walks.{Around, limits, ran}

abbrev pub Program : Type 0
Program = Prog (Unit {0})

module _ (v d at n : ℕ) (r : Program) where
  pub plan_blank : (visit_plan blank v d at n >> r) ≡ emit Visit r
  unfolding visit_plan
  plan_blank = refl

  pub plan_put : (t : Word) → (visit_plan (put t) v d at n >> r) ≡ emit Visit (emit (Need output (at + length t.bytes)) r)
  unfolding visit_plan
  plan_put t = refl

  pub plan_line : (i : ℕ) → (visit_plan (line i) v d at n >> r) ≡ emit Visit (append_each at (i + 1) >> r)
  unfolding visit_plan
  plan_line i = refl

  pub plan_join : (p q : Plan)
      → (visit_plan (join p q) v d at n >> r)
      ≡ emit Visit (emit (Need visit (v + 1)) (emit (Need visit (v + 2)) (visit_plan p (suc v) d at n >> (visit_plan q v d (at + length (page p)) (n + marks p) >> r))))
  unfolding visit_plan
  plan_join p q =
      rw (← add-one v) (ap (λ (m : Program). emit Visit (emit (Need visit (v + 1)) (emit (Need visit (v + 2)) m)))
      (bind_assoc (visit_plan p (v + 1) d at n) (λ _. visit_plan q v d (at + length (page p)) (n + marks p)) (λ _. r)))

  pub plan_mark : (k : ℕ) (p : Plan)
      → (visit_plan (mark k p) v d at n >> r)
      ≡ emit Visit (emit (Need spans (n + 1)) (emit (Need depth (d + 1)) (emit (Need visit (v + 1)) (emit (Need visit (v + 2)) (visit_plan p (suc v) (d + 1) at (n + 1) >> emit Visit r)))))
  unfolding visit_plan
  plan_mark k p =
      rw (← add-one v) (ap (λ (m : Program). emit Visit (emit (Need spans (n + 1)) (emit (Need depth (d + 1)) (emit (Need visit (v + 1)) (emit (Need visit (v + 2)) m)))))
      (bind_assoc (visit_plan p (v + 1) (d + 1) at (n + 1)) (λ _. say Visit) (λ _. r)))

  pub plan_fee : (a : ℕ) (p : Plan) → (visit_plan (fee a p) v d at n >> r) ≡ emit Visit (emit (Need visit (v + 1)) (visit_plan p v d at n >> r))
  unfolding visit_plan
  plan_fee a p = refl

module _ (c : Capacity) (o : Around) where
  pub visit_go : (v : ℕ) (p : Program) → v < c.visit_limit → ran c o v (emit Visit p) ≡ ran c o (v + 1) p
  unfolding ran
  visit_go v p h = rw (lt-ltb v c.visit_limit h)

  pub visit_stop : (v : ℕ) (p : Program) → c.visit_limit ≤ v → ran c o v (emit Visit p) ≡ told o.counts (Err (passed_with Visits 0 v))
  unfolding ran
  visit_stop v p h = rw (le-ltb v c.visit_limit h)

  pub need_go : (x : Kind) (v n : ℕ) (p : Program) → n ≤ size (limits c o.bounds) x → ran c o v (emit (Need x n) p) ≡ ran c o v p
  unfolding ran
  need_go x v n p h = rw (le-leb n (size (limits c o.bounds) x) h) (needless (limits c o.bounds) (with_visits o.counts v) (raised no_needs x n) p)

  pub need_stop : (x : Kind) (v n : ℕ) (p : Program) → size (limits c o.bounds) x < n
      → ran c o v (emit (Need x n) p) ≡ stop (too_small x) n (with_visits o.counts v)
  unfolding ran
  need_stop x v n p h = rw (lt-leb n (size (limits c o.bounds) x) h)

  pub each_go : (v at n : ℕ) (p : Program) → at + n ≤ c.output → ran c o v (append_each at n >> p) ≡ ran c o v p
  unfolding append_each
  each_go v at zero p h = refl
  each_go v at (suc n) p h = need_go output v (at + 1) (append_each (at + 1) n >> p) (omega arith) ∙ each_go v (at + 1) n p (omega arith)

  abbrev Stops : ℕ → Program → Type 0
  Stops v q = ran c o v q ≡ told o.counts (Err (passed_with Output (c.output + 1) v))

  pub each_stop : (v at n : ℕ) (p : Program) → at ≤ c.output → c.output < at + n → Stops v (append_each at n >> p)
  unfolding append_each
  each_stop v at zero p h m = absurd (omega arith)
  each_stop v at (suc n) p h m = go (leb (at + 1) c.output) refl (λ g. each_stop v (at + 1) n p g (omega arith))
    where
      go : (t : Bool) → leb (at + 1) c.output ≡ t → (at + 1 ≤ c.output → Stops v (append_each (at + 1) n >> p)) → Stops v (emit (Need output (at + 1)) (append_each (at + 1) n >> p))
      go true e f = let g : at + 1 ≤ c.output = leb-true _ _ e in need_go output v (at + 1) (append_each (at + 1) n >> p) g ∙ f g
      go false e f =
          let g : c.output < at + 1 = leb-false _ _ e in
          let q : at + 1 ≡ c.output + 1 = omega arith in
          need_stop output v (at + 1) (append_each (at + 1) n >> p) g ∙ ap (λ (m : ℕ). told o.counts (Err (passed_with Output m v))) q
