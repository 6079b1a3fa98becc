-- The frontier in memory: the tree, the order of presentation of the same slots, and the slots that are free again; what the functions are asked and what they give.
use Rattle.std.specs.Prelude.{◌≡◌, ◌≢◌, Bool, true, false, not, ◌||◌, List, [], ◌∷◌, ◌++◌, ℕ, suc, ◌+◌, ◌*◌, ◌≤◌, ◌<◌, max, length, eqb, Result, Ok, Err}
use Rattle.cost.specs.Cost.{Cost, cheap}
use Rattle.cost.specs.Order.{Cheap}
use Rattle.layout.specs.Frontier.{Cand, covers, any, keep, present}
use Rattle.avl.specs.Mem.{word, At}
use Rattle.avl.specs.Tree.{Tree, Ord, Avl, On, Off, slot_of, slots, Seen}
use Rattle.avl.specs.Members.{In, Out, Once, Apart, Same, Place}
use Rattle.avl.specs.Holds.{nil, top, Holds}
use Rattle.avl.specs.declared.Way.{Way}
use Rattle.frontier.specs.declared.Builder.{Builder}
use Rattle.frontier.specs.declared.Effect.{Effect}
use Rattle.frontier.specs.declared.Effect.TheVariants.{Pruned, Beside, Removing}
use Rattle.frontier.specs.declared.Presented.{Presented}
use Rattle.frontier.specs.declared.Full.{Full}
use Rattle.frontier.specs.Candidates.{Pending, cost_at, candidate_at, survivors, pruned_by}
use Rattle.frontier.specs.Chain.{Seg}

pub record Spared (m : List ℕ) (p x : ℕ) (R : Type 0) : Type 0 where
  pub is : p ≡ x
  pub at : At m x
  pub some : x < nil
  pub rest : R

-- the free slots, linked by their field 10
abbrev pub Spare : List ℕ → ℕ → List ℕ → Type 0
Spare m p [] = p ≡ nil
Spare m p (x ∷ xs) = Spared m p x (Spare m (word m x 10) xs)

-- the words m hold a frontier with the registers b: the slots used are those of the tree and of the order, and the free ones
pub record Kept (m : List ℕ) (b : Builder) : Type 0 where
  pub t : Tree
  pub order : List ℕ
  pub frees : List ℕ
  pub holds : Holds m b.root t
  pub ord : Ord 0 t top
  pub avl : Avl t
  pub seg : Seg m nil b.head order b.tail nil
  pub spare : Spare m b.free frees
  pub once_t : Once (slots t)
  pub once : Once order
  pub once_free : Once frees
  pub apart : Apart order frees
  pub agree : Same (slots t) order
  pub count : b.live ≡ length order
  pub sum : b.used ≡ length order + length frees
  pub low : (x : ℕ) → In x order → x < b.used
  pub low_free : (x : ℕ) → In x frees → x < b.used
  pub fit : b.used * 14 ≤ length m
  pub small : b.used < top

-- and a higher column costs no more
pub record Sound (m : List ℕ) (b : Builder) : Type 0 where
  pub kept : Kept m b
  pub falls : (x y : ℕ) → In x kept.order → In y kept.order → word m x 3 ≤ word m y 3 → Cheap (cost_at m y) (cost_at m x)

-- a frontier of a size, in words that are enough for it
pub record Frontier (m : List ℕ) (size : ℕ) (b : Builder) : Type 0 where
  pub sound : Sound m b
  pub within : b.used ≤ size
  pub room : size * 14 ≤ length m
  pub bound : size < top

-- an empty frontier, in any words
pub record Opened (b : Builder) : Type 0 where
  pub frontier : (m : List ℕ) (size : ℕ) → size * 14 ≤ length m → size < top → Frontier m size b
  pub empty : (m : List ℕ) → survivors m b ≡ []

-- ---- one candidate out
pub record Drop (m : List ℕ) (b : Builder) (column : ℕ) : Type 0 where
  pub kept : Kept m b
  pub on : On column kept.t

pub record Dropped (m n : List ℕ) (b b' : Builder) (column : ℕ) (t : Tree) (order : List ℕ) : Type 0 where
  pub kept : Kept n b'
  pub place : Place order kept.order (slot_of column t)
  pub used_is : b'.used ≡ b.used
  pub len : length n ≡ length m
  pub rest : (s j : ℕ) → j < 8 → word n s j ≡ word m s j

-- ---- one candidate in
-- a frontier with less than its size
pub record Roomy (m : List ℕ) (b : Builder) : Type 0 where
  pub size : ℕ
  pub kept : Kept m b
  pub few : b.live < size
  pub within : b.used ≤ size
  pub room : size * 14 ≤ length m
  pub bound : size < top

-- slot s is taken, a free one or the first that was not used, after the first `was`
pub record Taken (m : List ℕ) (size : ℕ) (order : List ℕ) (s free used was : ℕ) : Type 0 where
  pub frees : List ℕ
  pub at : At m s
  pub some : s < nil
  pub out : Out s order
  pub spare : Spare m free frees
  pub once : Once (s ∷ frees)
  pub apart : Apart order frees
  pub sum : used ≡ suc (length order + length frees)
  pub most : used ≡ max was (suc (length order))
  pub own : s < used
  pub low : (x : ℕ) → In x order → x < used
  pub low_free : (x : ℕ) → In x frees → x < used
  pub within : used ≤ size

-- slot s has the candidate and is a tree of its own; the other slots are as they were
pub record Filled (m n : List ℕ) (s : ℕ) (x : Cand Pending) : Type 0 where
  pub len : length n ≡ length m
  pub own : candidate_at n s ≡ x
  pub l_is : word n s 11 ≡ nil
  pub r_is : word n s 12 ≡ nil
  pub h_is : word n s 13 ≡ 1
  pub other : (u j : ℕ) → u ≢ s → j < 14 → word n u j ≡ word m u j

pub record Admit (m : List ℕ) (b : Builder) (column : ℕ) : Type 0 where
  pub roomy : Roomy m b
  pub off : Off column roomy.kept.t

pub record Admitted (m n : List ℕ) (size : ℕ) (b b' : Builder) (x : Cand Pending) (order : List ℕ) : Type 0 where
  pub kept : Kept n b'
  pub s : ℕ
  pub out : Out s order
  pub order_is : kept.order ≡ order ++ s ∷ []
  pub own : candidate_at n s ≡ x
  pub most : b'.used ≡ max b.used b'.live
  pub within : b'.used ≤ size
  pub len : length n ≡ length m
  pub rest : (u j : ℕ) → u ≢ s → j < 8 → word n u j ≡ word m u j

-- ---- the rule on slots: which of them prune x, and which stay beside it
abbrev pub prunes : List ℕ → Cand Pending → ℕ → Bool
prunes m x s = covers (candidate_at m s) x

abbrev pub stays_by : List ℕ → Cand Pending → ℕ → Bool
stays_by m x s = not (covers x (candidate_at m s))

-- s is no slot, or its candidate costs no more than c
unfoldable pub none_dearer : List ℕ → ℕ → Cost → Bool
none_dearer m s c = eqb s nil || cheap (cost_at m s) c

-- what a search of a frontier for the column found
pub record Looked (m : List ℕ) (column : ℕ) (way : Way) : Type 0 where
  pub b : Builder
  pub sound : Sound m b
  pub seen : Seen column sound.kept.t nil nil nil way.same way.before way.from

-- what x does to the candidates of the order
abbrev pub Effects : List ℕ → Cand Pending → List ℕ → Effect → Type 0
Effects m x order Pruned = any (prunes m x) order ≡ true
Effects m x order Beside = (any (prunes m x) order ≡ false) × (keep (stays_by m x) order ≡ order)
Effects m x order Removing = (any (prunes m x) order ≡ false) × (length (keep (stays_by m x) order) < length order)

-- none that is kept prunes x
pub record Fresh (m : List ℕ) (b : Builder) (x : Cand Pending) : Type 0 where
  pub sound : Sound m b
  pub none : any (prunes m x) sound.kept.order ≡ false

-- those that x removes are out, and nothing of any candidate changed
pub record Sifted (m n : List ℕ) (b b' : Builder) (x : Cand Pending) (order : List ℕ) : Type 0 where
  pub sound : Sound n b'
  pub order_is : sound.kept.order ≡ keep (stays_by m x) order
  pub used_is : b'.used ≡ b.used
  pub fewer : b'.live ≤ b.live
  pub len : length n ≡ length m
  pub rest : (s j : ℕ) → j < 8 → word n s j ≡ word m s j

-- ---- the answer to a presented candidate
-- no more slots are used than were ever kept at once
pub record After (m n : List ℕ) (size : ℕ) (b b' : Builder) (x : Cand Pending) (pruned : ℕ) : Type 0 where
  pub frontier : Frontier n size b'
  pub most : b'.used ≡ max b.used b'.live
  pub survivors_are : survivors n b' ≡ present covers (survivors m b) x
  pub pruned_is : pruned ≡ pruned_by (survivors m b) x

-- nothing is changed: the frontier after insertion would have more than its size
pub record Refused (m n : List ℕ) (size : ℕ) (b : Builder) (x : Cand Pending) (needed : ℕ) : Type 0 where
  pub same : n ≡ m
  pub more : size < length (present covers (survivors m b) x)
  pub needed_is : needed ≡ length (present covers (survivors m b) x)
  pub live_is : needed ≡ length (survivors m b) + 1

abbrev pub Presents : List ℕ → List ℕ → ℕ → Builder → Cand Pending → Result Presented Full → Type 0
Presents m n size b x (Ok d) = After m n size b d.builder x d.pruned
Presents m n size b x (Err e) = Refused m n size b x e.needed
