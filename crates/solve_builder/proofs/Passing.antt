-- The two walks along the survivors: what is counted or committed of those passed, and those that are left.
use mathlib.Core.Path.{◌≡◌, refl, sym, ap, ◌∙◌, subst}
use mathlib.Core.List.{List, [], ◌∷◌, ◌++◌, map, map-append, append-nil, append_assoc}
use Prim.Native.Nat.{ℕ, suc, ◌+◌, ◌-◌, ◌≤◌, ◌<◌, ◌^◌}
use native.Mathlib.Omega.{arith}
use lib.ListN.{length, length-map, length-append}
use Rattle.layout.specs.Frontier.{Cand}
use Rattle.std.specs.Prelude.{Option, Some, None}
use Rattle.frontier.specs.Passed.{link_of}
use Rattle.plan.specs.declared.PendingPlan.{PendingPlan as Pended}
use Rattle.plan.specs.Arena.{view, additions}
use Rattle.frontier.specs.Candidates.{Pending, candidate_at, next, Going, Stands}
use Rattle.frontier.specs.Candidates.{survivors}
use Rattle.frontier.specs.Walk.{survive_length, meets, goes_on, ends, Met}
use Rattle.machine.specs.Model.{Scratch, PendingPlan, Existing, Made}
use Rattle.machine.specs.Solver.{additional, additional_plans}
use Rattle.solve_workspace.specs.declared.Bounds.{Bounds}
use Rattle.solve_workspace.specs.declared.Registers.{Registers}
use Rattle.solve_workspace.specs.Rows.{Row, plan_of, survivor}
use Rattle.solve_builder.specs.Building.{Building}
use Rattle.solve_builder.specs.Committing.{Commits, CommittableOne}
use Rattle.solve_builder.proofs.Plans.{additional_append, length_view, commits_none, commits_then}

-- what one survivor adds
abbrev pub adds : Cand Pending → ℕ
adds x = length (additional (survivor x).plan.plan)

pub adds_is : (p : Pended) (x y : Cand Pending) (n : ℕ) → n ≡ length (additions (view p)) → plan_of p ≡ (survivor x).plan.plan → x ≡ y → n ≡ adds y
adds_is p x y n e q r = e ∙ (length_view p ∙ (ap (λ z. length (additional z)) q ∙ ap adds r))

adds_more : (x : Cand Pending) (l : List (Cand Pending)) → length (additional_plans (map survivor (x ∷ l))) ≡ adds x + length (additional_plans (map survivor l))
unfolding additional_plans
adds_more x l = length-append (additional (survivor x).plan.plan) (additional_plans (map survivor l))

adds_append : (l m : List (Cand Pending)) → length (additional_plans (map survivor (l ++ m))) ≡ length (additional_plans (map survivor l)) + length (additional_plans (map survivor m))
adds_append l m = ap (λ (z : List Scratch). length (additional_plans z)) (map-append survivor l m)
    ∙ (ap length (additional_append (map survivor l) (map survivor m)) ∙ length-append (additional_plans (map survivor l)) (additional_plans (map survivor m)))

adds_none : length (additional_plans (map survivor [])) ≡ 0
unfolding additional_plans
adds_none = refl

-- at most one each
one_at_most : (p : PendingPlan) → length (additional p) ≤ 1
one_at_most (Existing i) = omega arith
one_at_most (Made p) = omega arith

adds_few : (l : List (Cand Pending)) → length (additional_plans (map survivor l)) ≤ length l
adds_few [] = omega (arith, adds_none)
adds_few (x ∷ l) = omega (arith, adds_more x l, one_at_most (survivor x).plan.plan, adds_few l)

pub plans_few : {b : Bounds} {s : Registers} {fs : List ℕ} → Building b s fs → length (additional_plans (map survivor (survivors fs s.builder))) ≤ s.builder.live
plans_few {s = s} {fs = fs} h = omega (arith, adds_few (survivors fs s.builder), survive_length h.frontier.sound.kept)

-- those passed, and those left from the link on
pub record Along (fs : List ℕ) (cursor : Option ℕ) (all : List (Cand Pending)) : Type 0 where
  pub past : List (Cand Pending)
  pub more : List (Cand Pending)
  pub whole : past ++ more ≡ all
  pub rest : Going fs cursor more

abbrev pub along_start : (fs : List ℕ) (cursor : Option ℕ) (all : List (Cand Pending)) → Going fs cursor all → Along fs cursor all
along_start fs cursor all r = record { past = []; more = all; whole = refl; rest = r }

abbrev pub met : {fs : List ℕ} {cursor : Option ℕ} {all : List (Cand Pending)} (g : Along fs cursor all) (s : ℕ) → cursor ≡ Some s → Met fs s g.more
met g s q = meets g.rest q

abbrev pub along_next : {fs : List ℕ} {cursor : Option ℕ} {all : List (Cand Pending)} (g : Along fs cursor all) (s : ℕ) (q : cursor ≡ Some s) (after : Option ℕ) → after ≡ link_of (next fs s) → Along fs after all
along_next {fs = fs} g s q after e =
    let m = met g s q in
    record {
      past = g.past ++ (candidate_at fs s ∷ []);
      more = m.more;
      whole = append_assoc g.past (candidate_at fs s ∷ []) m.more
          ∙ (ap (λ (z : Cand Pending). g.past ++ (z ∷ m.more)) m.here ∙ (ap (λ (z : List (Cand Pending)). g.past ++ z) (sym m.is) ∙ g.whole));
      rest = goes_on m e;
    }

along_length : {fs : List ℕ} {cursor : Option ℕ} {all : List (Cand Pending)} (g : Along fs cursor all) → length g.past + length g.more ≡ length all
along_length g = sym (length-append g.past g.more) ∙ ap length g.whole

more_length : {fs : List ℕ} {cursor : Option ℕ} {all : List (Cand Pending)} (g : Along fs cursor all) (s : ℕ) (q : cursor ≡ Some s) → length g.more ≡ suc (length (met g s q).more)
more_length g s q = ap length (met g s q).is

pub along_room : {fs : List ℕ} {cursor : Option ℕ} {all : List (Cand Pending)} (g : Along fs cursor all) (s : ℕ) → cursor ≡ Some s → length g.past + 1 ≤ length all
along_room g s q = omega (arith, along_length g, more_length g s q)

along_end : {fs : List ℕ} {cursor : Option ℕ} {all : List (Cand Pending)} (g : Along fs cursor all) → cursor ≡ None → g.past ≡ all
along_end g q =
    sym (append-nil g.past) ∙ (ap (λ (z : List (Cand Pending)). g.past ++ z) (sym (ends g.rest q)) ∙ g.whole)

past_length : (l : List (Cand Pending)) (x : Cand Pending) → length (l ++ (x ∷ [])) ≡ length l + 1
past_length l x = length-append l (x ∷ [])

-- ---- counting

pub record Counting (fs : List ℕ) (cursor : Option ℕ) (all : List (Cand Pending)) (left count : ℕ) : Type 0 where
  pub along : Along fs cursor all
  pub left_is : left ≡ length along.more
  pub count_is : count ≡ length (additional_plans (map survivor along.past))
  pub few : count ≤ length along.past

pub counting_start : (fs : List ℕ) (cursor : Option ℕ) (all : List (Cand Pending)) (left : ℕ) → Going fs cursor all → left ≡ length all → Counting fs cursor all left 0
counting_start fs cursor all left r e = record { along = along_start fs cursor all r; left_is = e; count_is = sym adds_none; few = omega arith }

pub counting_next : {fs : List ℕ} {cursor : Option ℕ} {all : List (Cand Pending)} {left count : ℕ} (g : Counting fs cursor all left count) (s : ℕ) (q : cursor ≡ Some s) (after : Option ℕ) (n : ℕ)
    → after ≡ link_of (next fs s) → n ≡ adds (candidate_at fs s) → n ≤ 1 → Counting fs after all (left - 1) (count + n)
counting_next {fs = fs} g s q after n e h i =
    let a = g.along in
    let x = candidate_at fs s in
    record {
      along = along_next a s q after e;
      left_is = omega (arith, g.left_is, more_length a s q);
      count_is = omega (arith, g.count_is, h, adds_append a.past (x ∷ []), adds_more x [], adds_none);
      few = omega (arith, g.few, past_length a.past x);
    }

pub counting_left : {fs : List ℕ} {cursor : Option ℕ} {all : List (Cand Pending)} {left count : ℕ} (g : Counting fs cursor all left count) (s : ℕ) → cursor ≡ Some s → 1 ≤ left
counting_left g s q = omega (arith, g.left_is, more_length g.along s q)

pub counting_fits : {fs : List ℕ} {cursor : Option ℕ} {all : List (Cand Pending)} {left count : ℕ} (g : Counting fs cursor all left count) (s : ℕ) → cursor ≡ Some s → count + 1 ≤ length all
counting_fits g s q = omega (arith, g.few, along_room g.along s q)

pub counting_stands : {fs : List ℕ} {cursor : Option ℕ} {all : List (Cand Pending)} {left count : ℕ} (g : Counting fs cursor all left count) (s : ℕ) → cursor ≡ Some s → Stands fs s
counting_stands g s q = (met g.along s q).stands

pub counting_end : {fs : List ℕ} {cursor : Option ℕ} {all : List (Cand Pending)} {left count : ℕ} (g : Counting fs cursor all left count) → cursor ≡ None
    → (count ≡ length (additional_plans (map survivor all))) × (count ≤ length all)
counting_end g q =
    let e = along_end g.along q in
    (g.count_is ∙ ap (λ (z : List (Cand Pending)). length (additional_plans (map survivor z))) e, omega (arith, g.few, ap length e))

-- ---- committing

pub record Passing (fs : List ℕ) (cursor : Option ℕ) (all : List (Cand Pending)) (ks ns ks' ns' : List Row) (k n k' n' : ℕ) : Type 0 where
  pub along : Along fs cursor all
  pub commits : Commits (map survivor along.past) ks ns ks' ns' k n k' n'

pub passing_start : (fs : List ℕ) (cursor : Option ℕ) (all : List (Cand Pending)) (ks ns : List Row) (k n : ℕ) → Going fs cursor all → Passing fs cursor all ks ns ks ns k n k n
passing_start fs cursor all ks ns k n r = record { along = along_start fs cursor all r; commits = commits_none ks ns k n }

module _ {fs : List ℕ} {cursor : Option ℕ} {all : List (Cand Pending)} {ks ns ks' ns' : List Row} {k n k' n' : ℕ} (g : Passing fs cursor all ks ns ks' ns' k n k' n') where
  pub passing_stands : (s : ℕ) → cursor ≡ Some s → Stands fs s
  passing_stands s q = (met g.along s q).stands

  number_is : k' ≡ k + length g.along.past
  number_is = omega (arith, g.commits.number, length-map g.along.past survivor)

  pub passing_one : (s : ℕ) (q : cursor ≡ Some s) (x : Cand Pending) → x ≡ candidate_at fs s → k + length all ≤ length ks' → n + length (additional_plans (map survivor all)) ≤ length ns'
      → n + length (additional_plans (map survivor all)) < 2 ^ 32 → CommittableOne (survivor x) ks' ns' k' n'
  passing_one s q x e h i j =
      let m = met g.along s q in
      let w : x ≡ m.x = e ∙ m.here in
      let a : adds x ≡ adds m.x = ap adds w in
      let t : length (additional_plans (map survivor all)) ≡ length (additional_plans (map survivor g.along.past)) + (adds m.x + length (additional_plans (map survivor m.more)))
      = sym (ap (λ (z : List (Cand Pending)). length (additional_plans (map survivor z))) g.along.whole)
      ∙ (adds_append g.along.past g.along.more
      ∙ (ap (λ (z : List (Cand Pending)). length (additional_plans (map survivor g.along.past)) + length (additional_plans (map survivor z))) m.is
      ∙ ap (λ z. length (additional_plans (map survivor g.along.past)) + z) (adds_more m.x m.more))) in
      record { kept = omega (arith, number_is, along_room g.along s q); plans = omega (arith, a, t, g.commits.count); small = omega (arith, a, t, g.commits.count) }

  pub passing_less : (s : ℕ) → cursor ≡ Some s → k + length all ≤ length ks' → k' < length ks'
  passing_less s q h = omega (arith, number_is, along_room g.along s q)

  pub passing_next : (s : ℕ) (q : cursor ≡ Some s) (x : Cand Pending) (after : Option ℕ) (ks₂ ns₂ : List Row) (n₂ : ℕ) → x ≡ candidate_at fs s → after ≡ link_of (next fs s)
      → Commits (survivor x ∷ []) ks' ns' ks₂ ns₂ k' n' (k' + 1) n₂ → Passing fs after all ks ns ks₂ ns₂ k n (k' + 1) n₂
  passing_next s q x after ks₂ ns₂ n₂ e i c =
      record {
        along = along_next g.along s q after i;
        commits = subst (λ (z : List Scratch). Commits z ks ns ks₂ ns₂ k n (k' + 1) n₂) (sym (map-append survivor g.along.past (candidate_at fs s ∷ [])))
            (commits_then (map survivor g.along.past) (survivor (candidate_at fs s) ∷ []) ks ns ks' ns' ks₂ ns₂ k n k' n' (k' + 1) n₂ g.commits
            (subst (λ (z : Cand Pending). Commits (survivor z ∷ []) ks' ns' ks₂ ns₂ k' n' (k' + 1) n₂) e c));
      }

  pub passing_end : (e : ℕ) → cursor ≡ None → e ≡ k + length all → Commits (map survivor all) ks ns ks' ns' k n e n'
  passing_end e q h =
      let p = along_end g.along q in
      let w : k' ≡ e = omega (arith, number_is, ap length p) in
      subst (λ z. Commits (map survivor all) ks ns ks' ns' k n z n') w (subst (λ (z : List (Cand Pending)). Commits (map survivor z) ks ns ks' ns' k n k' n') p g.commits)
