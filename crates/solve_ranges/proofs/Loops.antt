-- Laws of loops that present candidates: what is left to present, and what stays as it was.
use mathlib.Core.Path.{◌≡◌, refl, ◌∙◌, subst}
use mathlib.Core.List.{List, [], ◌∷◌, map}
use Prim.Native.Nat.{ℕ, zero, suc, ◌+◌, ◌-◌, ◌≤◌, ◌<◌}
use native.Mathlib.Numerals.{add-one}
use native.Mathlib.Omega.{arith}
use lib.ListN.{length, take, drop, get_or, drop_of_length-le, get_or-map}
use lib.Seq.{drop-cons, get_or-take}
use Rattle.layout.specs.Rules.{Rules}
use Rattle.machine.specs.Events.{Counts, Prog, ◌>>=◌}
use Rattle.machine.specs.Model.{State, Prepared, Candidate, Scratch, no_candidate, part, range}
use Rattle.machine.specs.Solver.{present, present_all, present_range, present_ranges, existing}
use Rattle.solve_workspace.specs.declared.Bounds.{Bounds}
use Rattle.solve_workspace.specs.declared.Registers.{Registers}
use Rattle.solve_workspace.specs.declared.Why.{Why}
use Rattle.solve_workspace.specs.declared.Reached.{Reached}
use Rattle.solve_workspace.specs.declared.Reached.TheVariants.{Go, Stop}
use Rattle.solve_workspace.specs.Meets.{counts, Sound, Meets, Leads}
use Rattle.solve_workspace.specs.Rows.{Row, abs, candidate_of, scratch_of, range_of, row_list, pile}
use Rattle.solve_workspace.specs.Stacks.{row_list_length, pile_length}
use Rattle.solve_workspace.specs.Frames.{Kept, Keeps}
use Rattle.std.specs.Prelude.{Ok}
use Rattle.solve_workspace.specs.Turns.{Turn, reached}
use Rattle.solve_workspace.specs.TurnLaws.{went, held_on}
use Rattle.solve_workspace.specs.Runs.{seq, halt, kept_by, kept_trans, leads_seq, ended}
use Rattle.solve_builder.specs.Building.{Building, BuildingAt}
use Rattle.solve_builder.specs.Opening.{building_by}
use Rattle.solve_ranges.specs.Wrapping.{pending_from, results_from}

-- ---- what stays

-- the registers o at the loop's start, and g now
pub record Underway (b : Bounds) (o g : Registers) (fs : List ℕ) : Type 0 where
  pub building : Building b g fs
  pub sound : Sound b g
  pub kept : Kept o g

pub underway : {b : Bounds} {g : Registers} {fs : List ℕ} → Building b g fs → Sound b g → Underway b g g fs
underway h k = record { building = h; sound = k; kept = record { memo = refl; results = refl; pending = omega arith } }

pub still_underway : {A : Type 0} {b : Bounds} {o g h : Registers} {fs fs' : List ℕ} {k : Counts} {p : Prog A} {t : Turn} {x : Unit} {f : Registers → A} → Underway b o g fs → Meets b k p (reached t h) f → BuildingAt b fs' (reached t h)
    → Keeps g (reached t h) → t ≡ Ok x → Underway b o h fs'
still_underway {h = h} u m x r q = record { building = building_by x (went h q); sound = held_on m q; kept = kept_trans u.kept (kept_by r (went h q)) }

-- ---- what is left

pub all_go : {b : Bounds} {k : Counts} {a : Reached} {f : Registers → State} {z : Registers} (x y : Scratch) (xs l : List Scratch) (S : State) → l ≡ y ∷ xs → x ≡ y → Meets b k (present x S) a f → a ≡ Go z
    → Leads b k (present_all l S) (counts z) (present_all xs (f z))
unfolding present_all
all_go x y xs l S e i m q = rw (e, ← i) (leads_seq (λ S₁. present_all xs S₁) m q)

pub all_halt : {b : Bounds} {k : Counts} {a : Reached} {f h : Registers → State} {w : Why} {n : ℕ} {z : Registers} (x y : Scratch) (xs l : List Scratch) (S : State) → l ≡ y ∷ xs → x ≡ y → Meets b k (present x S) a f
    → a ≡ Stop w n z → Meets b k (present_all l S) a h
unfolding present_all
all_halt x y xs l S e i m q = rw (e, ← i) (halt (λ S₁. present_all xs S₁) m q)

pub all_end : {b : Bounds} (s : Registers) (l : List Scratch) (f : Registers → State) → l ≡ [] → Sound b s → Meets b (counts s) (present_all l (f s)) (Go s) f
unfolding present_all
all_end s l f e h = rw e (ended f h)

-- the rest of a range
pub part_next : (R : List Candidate) (i n m : ℕ) → n ≡ suc m → map existing (part R i n) ≡ existing (get_or R i no_candidate) ∷ map existing (part R (i + 1) m)
part_next R i n m e = rw e

pub part_end : (R : List Candidate) (i n : ℕ) → n ≡ 0 → map existing (part R i n) ≡ []
part_end R i n e = rw e

-- the machine's lists in registers and slices
pub range_is : (s : Registers) (ts rs ps es ks : List Row) (fs : List ℕ) (ns : List Row) (i n : ℕ)
    → present_range (range i n) (abs s ts rs ps es ks fs ns) ≡ present_all (map existing (part (row_list candidate_of ks s.kept) i n)) (abs s ts rs ps es ks fs ns)
unfolding present_range abs
range_is s ts rs ps es ks fs ns i n = refl

pub pending_is : (s : Registers) (ts rs ps es ks : List Row) (fs : List ℕ) (ns : List Row) (i : ℕ)
    → pending_from i (abs s ts rs ps es ks fs ns) ≡ present_all (drop i (row_list scratch_of ps s.pending)) (abs s ts rs ps es ks fs ns)
unfolding abs
pending_is s ts rs ps es ks fs ns i = refl

pub results_is : (R : Rules) (P : Prepared) (s : Registers) (ts rs ps es ks : List Row) (fs : List ℕ) (ns : List Row) (i : ℕ)
    → results_from R P i (abs s ts rs ps es ks fs ns) ≡ present_ranges R P (take (s.results - i) (pile range_of rs s.results)) (abs s ts rs ps es ks fs ns)
unfolding abs
results_is R P s ts rs ps es ks fs ns i = rw (pile_length range_of rs s.results)

-- the rest of what is pending
pub pending_next : (ps : List Row) (n i : ℕ) → n ≤ length ps → i < n → drop i (row_list scratch_of ps n) ≡ scratch_of (get_or ps i []) ∷ drop (i + 1) (row_list scratch_of ps n)
pending_next ps n i h l =
    let e : i < length (row_list scratch_of ps n) = omega (arith, row_list_length scratch_of ps n h) in
    drop-cons (row_list scratch_of ps n) i (scratch_of []) e
    ∙ rw (get_or-map scratch_of (take n ps) i [], get_or-take n ps i [] l, ← add-one i)

pub pending_end : (ps : List Row) (n i : ℕ) → n ≤ length ps → n ≤ i → drop i (row_list scratch_of ps n) ≡ []
pending_end ps n i h l = drop_of_length-le (row_list scratch_of ps n) {i = i} (omega (arith, row_list_length scratch_of ps n h))

-- ---- the results

module _ (R : Rules) (P : Prepared) (rs : List Row) (S : State) where
  ranges_is : (i i' j j' : ℕ) → i' ≡ suc i → j' ≡ suc j → present_ranges R P (take j' (pile range_of rs i')) S ≡ (present_ranges R P (take j (pile range_of rs i)) S >>= present_range (range_of (get_or rs i [])))
  unfolding present_ranges
  ranges_is i i' j j' e q = rw (e, q)

  pub ranges_start : {b : Bounds} (s : Registers) (f : Registers → State) (i j : ℕ) → j ≡ 0 → S ≡ f s → Sound b s → Meets b (counts s) (present_ranges R P (take j (pile range_of rs i)) S) (Go s) f
  unfolding present_ranges
  ranges_start s f i j e q h = rw (e, q) (ended f h)

  pub ranges_go : {b : Bounds} {k : Counts} {s : Registers} {a : Reached} {f g : Registers → State} (i i' j j' : ℕ) → i' ≡ suc i → j' ≡ suc j
      → Meets b k (present_ranges R P (take j (pile range_of rs i)) S) (Go s) f → Meets b (counts s) (present_range (range_of (get_or rs i [])) (f s)) a g
      → Meets b k (present_ranges R P (take j' (pile range_of rs i')) S) a g
  ranges_go i i' j j' e q m r = rw (ranges_is i i' j j' e q) (seq (present_range (range_of (get_or rs i []))) m refl r)

  -- a stop stays, whatever would have been next
  pub ranges_halt : {b : Bounds} {k : Counts} {a : Reached} {w : Why} {n : ℕ} {z : Registers} {f : Registers → State} (d i i' j j' : ℕ) → i' ≡ i + d → j' ≡ j + d
      → Meets b k (present_ranges R P (take j (pile range_of rs i)) S) a f → a ≡ Stop w n z → Meets b k (present_ranges R P (take j' (pile range_of rs i')) S) a f
  ranges_halt zero i i' j j' e q m h = let x : i' ≡ i = omega arith in let y : j' ≡ j = omega arith in rw (x, y) m
  ranges_halt (suc d) i i' j j' e q m h =
      rw (ranges_is (i + d) i' (j + d) j' (omega arith) (omega arith)) (halt (present_range (range_of (get_or rs (i + d) []))) (ranges_halt d i (i + d) j (j + d) refl refl m h) h)

  pub ranges_end : {b : Bounds} {k : Counts} {a : Reached} {f : Registers → State} (i n o : ℕ) → i ≡ n → Meets b k (present_ranges R P (take (i - o) (pile range_of rs i)) S) a f
      → Meets b k (present_ranges R P (take (n - o) (pile range_of rs n)) S) a f
  ranges_end {b = b} {k = k} {a = a} {f = f} i n o e m = subst (λ z. Meets b k (present_ranges R P (take (z - o) (pile range_of rs z)) S) a f) e m

pub gone_on : {b : Bounds} {k : Counts} {A : Type 0} {p : Prog A} {a : Reached} {f : Registers → A} {z : Registers} → Meets b k p a f → a ≡ Go z → Meets b k p (Go z) f
gone_on {b = b} {k = k} {p = p} {f = f} m q = subst (λ x. Meets b k p x f) q m
