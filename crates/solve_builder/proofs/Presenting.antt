-- Laws of `present`: the slots' candidates are the machine's, and one presented is what the machine presents.
use mathlib.Core.Path.{◌≡◌, refl, sym, ap, ◌∙◌, subst}
use mathlib.Core.Bool.{Bool, true, false, not, ◌||◌, cond}
use mathlib.Core.List.{List, [], ◌∷◌, ◌++◌, map, map-append}
use Rattle.std.specs.Prelude.{Result, Ok, Err}
use Prim.Native.Nat.{ℕ, ◌+◌, ◌-◌, ◌≤◌, ◌<◌, ◌^◌, max}
use native.Mathlib.Omega.{arith}
use lib.ListN.{length, length-map, length-append}
use borrow.Author.Tests.{lt-ltb, le-ltb, le-leb, lt-leb}
use Rattle.layout.specs.Frontier.{Cand, covers, any, keep, cons_if}
use Rattle.layout.specs.Frontier.{present as presented}
use Rattle.stats.specs.declared.SolveStats.{SolveStats}
use Rattle.frontier.specs.declared.Builder.{Builder}
use Rattle.frontier.specs.declared.ScratchCandidate.{ScratchCandidate}
use Rattle.frontier.specs.declared.Presented.{Presented}
use Rattle.frontier.specs.declared.Full.{Full}
use Rattle.frontier.specs.Candidates.{Pending, carried, survivors}
use Rattle.frontier.specs.Kept.{Frontier, After, Refused, Presents}
use Rattle.frontier.specs.Walk.{survive_length, survive_few}
use Rattle.machine.specs.Events.{ret, emit, Generated, Pruned, Need, frontier}
use Rattle.machine.specs.Model.{State, Scratch, with_builder}
use Rattle.machine.specs.Solver.{present, ranked}
use Rattle.solve_workspace.specs.declared.Bounds.{Bounds}
use Rattle.solve_workspace.specs.declared.Registers.{Registers}
use Rattle.solve_workspace.specs.declared.Why.TheVariants.{Work, Frontier as Size}
use Rattle.solve_workspace.specs.declared.Reached.TheVariants.{Go, Stop}
use Rattle.solve_workspace.specs.Meets.{counts, Sound, Meets}
use Rattle.solve_workspace.specs.Rows.{Row, survivor, abs}
use Rattle.solve_workspace.specs.Work.{with_stats}
use Rattle.solve_builder.specs.Building.{with_builder_to}

-- ---- the rule looks at cost and column alone

survive_any : (l : List (Cand Pending)) (x : Cand Pending) → any (λ k. covers k (survivor x)) (map survivor l) ≡ any (λ k. covers k x) l
unfolding covers
survive_any [] x = refl
survive_any (k ∷ l) x = ap (λ (t : Bool). covers k x || t) (survive_any l x)

cons_map : (t : Bool) (x : Cand Pending) (l : List (Cand Pending)) → cons_if t (survivor x) (map survivor l) ≡ map survivor (cons_if t x l)
cons_map true x l = refl
cons_map false x l = refl

survive_keep : (l : List (Cand Pending)) (x : Cand Pending) → keep (λ k. not (covers (survivor x) k)) (map survivor l) ≡ map survivor (keep (λ k. not (covers x k)) l)
unfolding covers
survive_keep [] x = refl
survive_keep (k ∷ l) x = ap (λ (z : List Scratch). cons_if (not (covers x k)) (survivor k) z) (survive_keep l x) ∙ cons_map (not (covers x k)) k (keep (λ j. not (covers x j)) l)

cond_map : (t : Bool) (l m : List (Cand Pending)) → cond t (map survivor l) (map survivor m) ≡ map survivor (cond t l m)
cond_map true l m = refl
cond_map false l m = refl

pub survive_present : (l : List (Cand Pending)) (x : Cand Pending) → presented covers (map survivor l) (survivor x) ≡ map survivor (presented covers l x)
unfolding presented
survive_present l x =
    rw (survive_any l x, survive_keep l x, ← map-append survivor (keep (λ k. not (covers x k)) l) (x ∷ []))
    (cond_map (any (λ k. covers k x) l) l (keep (λ k. not (covers x k)) l ++ (x ∷ [])))

keep_length : {A : Type 0} (f : A → Bool) (l : List A) → length (keep f l) ≤ length l
keep_length f [] = omega arith
keep_length f (x ∷ l) = go (f x) (keep_length f l)
  where
    go : (t : Bool) → length (keep f l) ≤ length l → length (cons_if t x (keep f l)) ≤ length (x ∷ l)
    go true h = omega arith
    go false h = omega arith

cond_length : {A : Type 0} (t : Bool) (l m : List A) (n : ℕ) → length l ≤ n → length m ≤ n → length (cond t l m) ≤ n
cond_length true l m n h k = h
cond_length false l m n h k = k

pub present_few : (l : List (Cand Pending)) (x : Cand Pending) → length (presented covers l x) ≤ length l + 1
unfolding presented
present_few l x =
    cond_length (any (λ k. covers k x) l) l (keep (λ k. not (covers x k)) l ++ (x ∷ [])) (length l + 1) (omega arith)
    (omega (arith, length-append (keep (λ k. not (covers x k)) l) (x ∷ []), keep_length (λ k. not (covers x k)) l))

-- ---- the program

present_is : (c : Scratch) (S : State) (l : List Scratch) → presented covers S.builder (ranked S.generated c) ≡ l
    → present c S ≡ emit Generated (emit (Pruned (length S.builder + 1 - length l)) (emit (Need frontier (length l)) (ret (with_builder l (S.generated + 1) S))))
unfolding present
present_is c S l e = rw e

-- the counts with a candidate
abbrev pub one_counted : SolveStats → SolveStats
one_counted t = record {
  work_items = t.work_items + 1;
  fit_checks = t.fit_checks;
  memo_hits = t.memo_hits;
  memo_misses = t.memo_misses;
  candidates_generated = t.candidates_generated + 1;
  candidates_pruned = t.candidates_pruned;
  peak_frontier = t.peak_frontier;
  memo_entries = t.memo_entries;
  plan_nodes = t.plan_nodes;
  visits = t.visits;
}

-- the candidate with its precedence
abbrev pub numbered : ScratchCandidate → ℕ → ScratchCandidate
numbered c n = record { cost = c.cost; last = c.last; precedence = n; kind = c.kind; first = c.first; second = c.second }

abbrev pub more_pruned : SolveStats → ℕ → SolveStats
more_pruned t n = record {
  work_items = t.work_items;
  fit_checks = t.fit_checks;
  memo_hits = t.memo_hits;
  memo_misses = t.memo_misses;
  candidates_generated = t.candidates_generated;
  candidates_pruned = t.candidates_pruned + n;
  peak_frontier = t.peak_frontier;
  memo_entries = t.memo_entries;
  plan_nodes = t.plan_nodes;
  visits = t.visits;
}

abbrev pub with_frontier_to : Registers → SolveStats → Builder → Registers
with_frontier_to s t f = with_builder_to (with_stats s t) f

pub present_spent : (S : State) (b : Bounds) (s : Registers) (c : Scratch) (f : Registers → State) → b.work_limit ≤ s.stats.work_items → Meets b (counts s) (present c S) (Stop Work 0 s) f
unfolding present
present_spent S b s c f h = record { is = rw (le-ltb s.stats.work_items b.work_limit h); sound = tt }

pub pruned_fits : (b : Bounds) (s : Registers) (fs fs' : List ℕ) (d : Builder) (x : Cand Pending) (n : ℕ) → Sound b s
    → s.stats.work_items < b.work_limit → b.work_limit < 2 ^ 64 → Frontier fs b.frontier s.builder → After fs fs' b.frontier s.builder d x n
    → s.stats.candidates_pruned + n < 2 ^ 64
pruned_fits b s fs fs' d x n snd h l at a = omega (arith, snd.generated, snd.pruned, snd.work, a.pruned_is, survive_length at.sound.kept)

-- the counts stay in order
present_sound : (b : Bounds) (s : Registers) (d : Builder) (n l m : ℕ) → Sound b s
    → s.stats.work_items < b.work_limit → s.builder.live ≡ l → d.live ≡ m → m ≤ l + 1 → n ≡ l + 1 - m → Sound b (with_frontier_to s (more_pruned (one_counted s.stats) n) d)
present_sound b s d n l m snd h i j few k =
    record {
      hits = omega (arith, snd.hits);
      misses = omega (arith, snd.misses);
      generated = omega (arith, snd.generated);
      pruned = omega (arith, snd.pruned);
      work = omega arith;
      tasks = snd.tasks;
      results = snd.results;
      pending = snd.pending;
      memo = snd.memo;
      kept = snd.kept;
      plans = snd.plans;
      stack = snd.stack;
    }

module _ (b : Bounds) (s : Registers) (h : s.stats.work_items < b.work_limit) (c : ScratchCandidate) where
  pub present_go : (snd : Sound b s) (fs fs' : List ℕ) (d : Builder) (n : ℕ) → Frontier fs b.frontier s.builder
      → After fs fs' b.frontier s.builder d (carried (numbered c s.stats.candidates_generated)) n → (ts rs ps es ks ns : List Row)
      → Meets b (counts s) (present (survivor (carried c)) (abs s ts rs ps es ks fs ns)) (Go (with_frontier_to s (more_pruned (one_counted s.stats) n) d)) (λ z. abs z ts rs ps es ks fs' ns)
  unfolding abs
  present_go snd fs fs' d n at a ts rs ps es ks ns =
      let x = carried (numbered c s.stats.candidates_generated) in
      let old = survivors fs s.builder in
      let new = survivors fs' d in
      let i : presented covers (map survivor old) (survivor x) ≡ map survivor new = survive_present old x ∙ ap (λ (z : List (Cand Pending)). map survivor z) (sym a.survivors_are) in
      let j : length (map survivor new) ≤ b.frontier = omega (arith, length-map new survivor, survive_few a.frontier) in
      let k : length (map survivor old) + 1 - length (map survivor new) ≡ n = omega (arith, length-map new survivor, length-map old survivor, a.pruned_is, ap length a.survivors_are) in
      let m : length (map survivor new) ≡ d.live = length-map new survivor ∙ survive_length a.frontier.sound.kept in
      let u : max (max s.peaks.frontier s.builder.used) d.live ≡ max s.peaks.frontier d.used = omega (arith, a.most) in
      record {
        is = rw (present_is (survivor (carried c)) (abs s ts rs ps es ks fs ns) (map survivor new) i, lt-ltb s.stats.work_items b.work_limit h, le-leb (length (map survivor new)) b.frontier j, k, m, u);
        sound = present_sound b s d n (length old) (length new) snd h (sym (survive_length at.sound.kept)) (sym (survive_length a.frontier.sound.kept))
            (rw a.survivors_are (present_few old x)) (rw a.survivors_are a.pruned_is);
      }

  pub present_stop : (fs fs' : List ℕ) (n : ℕ) → Refused fs fs' b.frontier s.builder (carried (numbered c s.stats.candidates_generated)) n → (ts rs ps es ks ns : List Row) (f : Registers → State)
      → Meets b (counts s) (present (survivor (carried c)) (abs s ts rs ps es ks fs ns)) (Stop Size n (with_stats s (one_counted s.stats))) f
  unfolding abs
  present_stop fs fs' n r ts rs ps es ks ns f =
      let x = carried (numbered c s.stats.candidates_generated) in
      let old = survivors fs s.builder in
      let new = presented covers old x in
      let i : presented covers (map survivor old) (survivor x) ≡ map survivor new = survive_present old x in
      let j : length (map survivor new) ≡ n = length-map new survivor ∙ sym r.needed_is in
      let k : length (map survivor old) + 1 - n ≡ 0 = omega (arith, length-map old survivor, r.live_is) in
      let l : s.stats.candidates_pruned + 0 ≡ s.stats.candidates_pruned = omega arith in
      record {
        is = rw (present_is (survivor (carried c)) (abs s ts rs ps es ks fs ns) (map survivor new) i, lt-ltb s.stats.work_items b.work_limit h, j, lt-leb n b.frontier (omega (arith, r.more, r.needed_is)), k, l);
        sound = tt;
      }

-- what the frontier answered
pub after_by : {m n : List ℕ} {size : ℕ} {b : Builder} {d : Presented} {x : Cand Pending} {r : Result Presented Full} → Presents m n size b x r → r ≡ Ok d → After m n size b d.builder x d.pruned
after_by {m = m} {n = n} {size = size} {b = b} {x = x} h q = subst (λ (z : Result Presented Full). Presents m n size b x z) q h

pub refused_by : {m n : List ℕ} {size : ℕ} {b : Builder} {x : Cand Pending} {r : Result Presented Full} {e : Full} → Presents m n size b x r → r ≡ Err e → Refused m n size b x e.needed
refused_by {m = m} {n = n} {size = size} {b = b} {x = x} h q = subst (λ (z : Result Presented Full). Presents m n size b x z) q h
