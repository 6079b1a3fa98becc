-- The frontier's tree as a value: a node has its left subtree, its slot, its column and its right subtree. The shapes are those of laidout's kernel.rs.
use Rattle.std.specs.Prelude.{◌≡◌, ◌≢◌, ◌⊎◌, List, [], ◌∷◌, ◌++◌, ℕ, ◌≤◌, ◌<◌, suc, max, Bool, true, false, ltb}

pub data Tree : Type 0 where
  leaf : Tree
  node : Tree → ℕ → ℕ → Tree → Tree

-- the height
abbrev pub ht : Tree → ℕ
ht leaf = 0
ht (node l s k r) = suc (max (ht l) (ht r))

-- the columns of t rise from left to right, from lo on and below hi
abbrev pub Ord : ℕ → Tree → ℕ → Type 0
Ord lo leaf hi = Unit {0}
Ord lo (node l s k r) hi = (lo ≤ k) × (k < hi) × Ord lo l k × Ord (suc k) r hi

-- document 01: at each node left height minus right height is −1, 0 or 1
abbrev pub Avl : Tree → Type 0
Avl leaf = Unit {0}
Avl (node l s k r) = (ht l ≤ suc (ht r)) × (ht r ≤ suc (ht l)) × Avl l × Avl r

-- no node has the column k
abbrev pub Off : ℕ → Tree → Type 0
Off k leaf = Unit {0}
Off k (node l s j r) = (k ≢ j) × Off k l × Off k r

abbrev pub pick : Bool → Tree → Tree → Tree
pick true a b = a
pick false a b = b

-- rotate_right and rotate_left
abbrev pub rot_r : Tree → Tree
rot_r leaf = leaf
rot_r (node leaf y j c) = node leaf y j c
rot_r (node (node a x k b) y j c) = node a x k (node b y j c)

abbrev pub rot_l : Tree → Tree
rot_l leaf = leaf
rot_l (node a x k leaf) = node a x k leaf
rot_l (node a x k (node b y j c)) = node (node a x k b) y j c

-- a left child that is higher on its right is turned to the left first, and a right child the other way
abbrev pub tilt_l : Tree → Tree
tilt_l leaf = leaf
tilt_l (node a x k b) = pick (ltb (ht a) (ht b)) (rot_l (node a x k b)) (node a x k b)

abbrev pub tilt_r : Tree → Tree
tilt_r leaf = leaf
tilt_r (node b y j c) = pick (ltb (ht c) (ht b)) (rot_r (node b y j c)) (node b y j c)

-- rebalance: a tree of l, the slot s with the column k, and r, turned where one side is higher than the other by two
unfoldable pub bal : Tree → ℕ → ℕ → Tree → Tree
bal l s k r =
    pick (ltb (suc (ht r)) (ht l))
    (rot_r (node (tilt_l l) s k r))
    (pick (ltb (suc (ht l)) (ht r)) (rot_l (node l s k (tilt_r r))) (node l s k r))

-- insert the slot s with the column k
unfoldable pub ins : ℕ → ℕ → Tree → Tree
ins s k leaf = node leaf s k leaf
ins s k (node l t j r) = pick (ltb k j) (bal (ins s k l) t j r) (bal l t j (ins s k r))

-- ---- the least column, its slot, and the tree without it
abbrev pub min_key : Tree → ℕ
min_key leaf = 0
min_key (node leaf s k r) = k
min_key (node (node a x i b) s k r) = min_key (node a x i b)

abbrev pub min_slot : Tree → ℕ
min_slot leaf = 0
min_slot (node leaf s k r) = s
min_slot (node (node a x i b) s k r) = min_slot (node a x i b)

abbrev pub cut_min : Tree → Tree
cut_min leaf = leaf
cut_min (node leaf s k r) = r
cut_min (node (node a x i b) s k r) = bal (cut_min (node a x i b)) s k r

-- ---- the tree without the column k: both trees of its slot in one, and the descent to it
unfoldable pub join : Tree → Tree → Tree
join leaf r = r
join (node a x i b) leaf = node a x i b
join (node a x i b) (node c y j d) = bal (node a x i b) (min_slot (node c y j d)) (min_key (node c y j d)) (cut_min (node c y j d))

unfoldable pub del : ℕ → Tree → Tree
del k leaf = leaf
del k (node l s j r) = pick (ltb k j) (bal (del k l) s j r) (pick (ltb j k) (bal l s j (del k r)) (join l r))

-- ---- the slot of a column
abbrev pub case : Bool → Type 0 → Type 0 → Type 0
case true A B = A
case false A B = B

abbrev pub choose : Bool → ℕ → ℕ → ℕ
choose true a b = a
choose false a b = b

-- the column k is in t
unfoldable pub On : ℕ → Tree → Type 0
On k leaf = ⊥
On k (node l s j r) = case (ltb k j) (On k l) (case (ltb j k) (On k r) (Unit {0}))

unfoldable pub slot_of : ℕ → Tree → ℕ
slot_of k leaf = 0
slot_of k (node l s j r) = choose (ltb k j) (slot_of k l) (choose (ltb j k) (slot_of k r) s)

-- ---- a search: the slot of the column k, of the last column below it on the way, of the last above it or at it. d is what stands for none
unfoldable pub same_of : ℕ → Tree → ℕ → ℕ
same_of k leaf d = d
same_of k (node l s j r) d = choose (ltb k j) (same_of k l d) (choose (ltb j k) (same_of k r d) s)

unfoldable pub before_of : ℕ → Tree → ℕ → ℕ
before_of k leaf d = d
before_of k (node l s j r) d = choose (ltb k j) (before_of k l d) (choose (ltb j k) (before_of k r s) d)

unfoldable pub from_of : ℕ → Tree → ℕ → ℕ
from_of k leaf d = d
from_of k (node l s j r) d = choose (ltb k j) (from_of k l s) (choose (ltb j k) (from_of k r d) s)

pub record Seen (k : ℕ) (t : Tree) (d b f x y z : ℕ) : Type 0 where
  pub same : same_of k t d ≡ x
  pub before : before_of k t b ≡ y
  pub from : from_of k t f ≡ z

abbrev pub slots : Tree → List ℕ
slots leaf = []
slots (node l s k r) = slots l ++ s ∷ slots r

-- t has the slot x with the column j
abbrev pub Entry : ℕ → ℕ → Tree → Type 0
Entry x j leaf = ⊥
Entry x j (node l s i r) = ((x ≡ s) × (j ≡ i)) ⊎ (Entry x j l ⊎ Entry x j r)
