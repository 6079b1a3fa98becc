-- The greatest need of each kind, the work and the visits are what a program takes: with as much it ends, with less it does not.
use Rattle.std.specs.Prelude.{◌≡◌, Bool, true, false, cond, List, [], ◌∷◌, get_or, ℕ, ◌+◌, ◌≤◌, ◌<◌, ◌^◌, max, eqb}
use Rattle.std.proofs.Math.Path.{refl}
use Rattle.std.proofs.Common.{sym, ap, ◌∙◌, arith}
use borrow.Author.Tests.{leb-true, eq-eqb, eqb-true}
use Rattle.machine.specs.Events.{Bounds, Counts, Kind, stack, memo, kept, frontier, plans, visit, depth, output, spans, size, bits, passes, Prog, ret, emit, ◌>>=◌}
use Rattle.machine.specs.Events.{Event, Need, Within, Hit, Miss, Generated, Visit, Pruned, Peak, Entries, PlanNodes, Never}
use Rattle.machine.specs.Programs.{value}

-- the place of a size among 13 to 21
abbrev pub index : Kind → ℕ
index stack = 0
index memo = 1
index kept = 2
index frontier = 3
index plans = 4
index visit = 5
index depth = 6
index output = 7
index spans = 8

-- what an event asks of a size, of the work and of the visits
abbrev pub asks : Kind → Event → ℕ
asks x (Need y n) = cond (eqb (index x) (index y)) n 0
asks x (Within r n) = 0
asks x Hit = 0
asks x Miss = 0
asks x Generated = 0
asks x Visit = 0
asks x (Pruned n) = 0
asks x (Peak n) = 0
asks x (Entries n) = 0
asks x (PlanNodes n) = 0
asks x Never = 0

abbrev pub works : Event → ℕ
works (Need y n) = 0
works (Within r n) = 0
works Hit = 1
works Miss = 1
works Generated = 1
works Visit = 0
works (Pruned n) = 0
works (Peak n) = 0
works (Entries n) = 0
works (PlanNodes n) = 0
works Never = 0

abbrev pub visits_of : Event → ℕ
visits_of (Need y n) = 0
visits_of (Within r n) = 0
visits_of Hit = 0
visits_of Miss = 0
visits_of Generated = 0
visits_of Visit = 1
visits_of (Pruned n) = 0
visits_of (Peak n) = 0
visits_of (Entries n) = 0
visits_of (PlanNodes n) = 0
visits_of Never = 0

-- no size helps where a number is past its width
abbrev pub Fine : Event → Type 0
Fine (Need y n) = Unit {0}
Fine (Within r n) = n < 2 ^ bits r
Fine Hit = Unit {0}
Fine Miss = Unit {0}
Fine Generated = Unit {0}
Fine Visit = Unit {0}
Fine (Pruned n) = Unit {0}
Fine (Peak n) = Unit {0}
Fine (Entries n) = Unit {0}
Fine (PlanNodes n) = Unit {0}
Fine Never = ⊥

module _ {A : Type 0} where
  -- the greatest need of a kind
  unfoldable pub peak : Kind → Prog A → ℕ
  peak x (ret a) = 0
  peak x (emit e p) = max (asks x e) (peak x p)

  unfoldable pub work : Prog A → ℕ
  work (ret a) = 0
  work (emit e p) = works e + work p

  unfoldable pub visited : Prog A → ℕ
  visited (ret a) = 0
  visited (emit e p) = visits_of e + visited p

  unfoldable pub InDomain : Prog A → Type 0
  InDomain (ret a) = Unit {0}
  InDomain (emit e p) = Fine e × InDomain p

-- of two programs, one behind the other, the greater need; both in their widths
pub peak_bind : {A B : Type 0} (x : Kind) (m : Prog A) (f : A → Prog B) → peak x (m >>= f) ≡ max (peak x m) (peak x (f (value m)))
unfolding peak
peak_bind x (ret a) f = omega arith
peak_bind x (emit e p) f = omega (arith, peak_bind x p f)

module _ {A B : Type 0} where
  pub domain_first : (m : Prog A) (f : A → Prog B) → InDomain (m >>= f) → InDomain m
  unfolding InDomain
  domain_first (ret a) f h = tt
  domain_first (emit e p) f h = (h.0, domain_first p f h.1)

  pub domain_then : (m : Prog A) (f : A → Prog B) → InDomain (m >>= f) → InDomain (f (value m))
  unfolding InDomain
  domain_then (ret a) f h = h
  domain_then (emit e p) f h = domain_then p f h.1

-- the bounds hold what the program asks for, from these counts on
pub record Holds {A : Type 0} (b : Bounds) (k : Counts) (m : Prog A) : Type 0 where
  pub sizes : (x : Kind) → peak x m ≤ size b x
  pub works_le : k.work_items + work m ≤ b.work_limit
  pub visits_le : k.visits + visited m ≤ b.visit_limit
  pub domain : InDomain m

abbrev listed : Bounds → List ℕ
listed b = b.stack ∷ b.memo ∷ b.kept ∷ b.frontier ∷ b.plans ∷ b.visit ∷ b.depth ∷ b.output ∷ b.spans ∷ []

at_index : (b : Bounds) (x : Kind) → size b x ≡ get_or (listed b) (index x) 0
at_index b stack = refl
at_index b memo = refl
at_index b kept = refl
at_index b frontier = refl
at_index b plans = refl
at_index b visit = refl
at_index b depth = refl
at_index b output = refl
at_index b spans = refl

-- an event that asks n of a size passes if, and only if, it asks no more of any
asks_le : (b : Bounds) (x y : Kind) (n : ℕ) → n ≤ size b y → asks x (Need y n) ≤ size b x
asks_le b x y n h = go (eqb (index x) (index y)) refl
  where
    go : (t : Bool) → eqb (index x) (index y) ≡ t → cond t n 0 ≤ size b x
    go true e =
        let q : size b x ≡ size b y = at_index b x ∙ ap (λ (i : ℕ). get_or (listed b) i 0) (eqb-true (index x) (index y) e) ∙ sym (at_index b y) in
        omega (arith, q)
    go false e = omega arith

pub own : (x : Kind) (n : ℕ) → asks x (Need x n) ≡ n
own x n = ap (λ t. cond t n 0) (eq-eqb (index x) (index x) refl)

pub asked : (b : Bounds) (k : Counts) (e : Event) (x : Kind) → passes b k e ≡ true → asks x e ≤ size b x
asked b k (Need x n) y t = asks_le b y x n (leb-true n (size b x) t)
asked b k (Within r n) y t = omega arith
asked b k Hit y t = omega arith
asked b k Miss y t = omega arith
asked b k Generated y t = omega arith
asked b k Visit y t = omega arith
asked b k (Pruned n) y t = omega arith
asked b k (Peak n) y t = omega arith
asked b k (Entries n) y t = omega arith
asked b k (PlanNodes n) y t = omega arith
asked b k Never y t = omega arith
