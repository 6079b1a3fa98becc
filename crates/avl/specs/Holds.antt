-- The words hold a tree at a link; what the functions are asked and what they give.
use Rattle.std.specs.Prelude.{◌≡◌, List, ℕ, ◌≤◌, ◌<◌, suc, length}
use Rattle.avl.specs.Mem.{word, put, At}
use Rattle.avl.specs.Tree.{Tree, ht, Ord, Off, min_key, min_slot, cut_min, del, On, slot_of}
use Rattle.avl.specs.Tree.Tree.{leaf, node}

-- the mark of no slot
abbrev pub nil : ℕ
nil = 18446744073709551615

-- one more than the largest column
abbrev pub top : ℕ
top = 4294967296

abbrev pub key : List ℕ → ℕ → ℕ
key m s = word m s 3

abbrev pub left : List ℕ → ℕ → ℕ
left m s = word m s 11

abbrev pub right : List ℕ → ℕ → ℕ
right m s = word m s 12

abbrev pub tall : List ℕ → ℕ → ℕ
tall m s = word m s 13

pub record Node (m : List ℕ) (p s k h : ℕ) (L R : Type 0) : Type 0 where
  pub is : p ≡ s
  pub at : At m s
  pub some : s < nil
  pub key_is : key m s ≡ k
  pub tall_is : tall m s ≡ h
  pub l_held : L
  pub r_held : R

abbrev pub Holds : List ℕ → ℕ → Tree → Type 0
Holds m p leaf = p ≡ nil
Holds m p (node l s k r) = Node m p s k (ht (node l s k r)) (Holds m (left m s) l) (Holds m (right m s) r)

-- the words with slot s as a tree of its own
abbrev pub cleared : List ℕ → ℕ → List ℕ
cleared m s = put (put (put m s 11 nil) s 12 nil) s 13 1

-- a link and what it holds
pub record Held (m : List ℕ) (p : ℕ) : Type 0 where
  pub tree : Tree
  pub holds : Holds m p tree

-- slot s, with the trees of its links; its own height may be stale
pub record Open (m : List ℕ) (s : ℕ) (l : Tree) (k : ℕ) (r : Tree) (lo hi : ℕ) : Type 0 where
  pub at : At m s
  pub some : s < nil
  pub key_is : key m s ≡ k
  pub l_held : Holds m (left m s) l
  pub r_held : Holds m (right m s) r
  pub from : lo ≤ k
  pub to : k < hi
  pub bound : hi ≤ top
  pub l_ord : Ord lo l k
  pub r_ord : Ord (suc k) r hi

-- ---- frames: n is m but for the tree fields of slots whose column is from lo on and below hi
pub record Frame (m n : List ℕ) (lo hi : ℕ) : Type 0 where
  pub len : length n ≡ length m
  pub rest : (t j : ℕ) → j < 11 → word n t j ≡ word m t j
  pub below : (t j : ℕ) → j < 14 → key m t < lo → word n t j ≡ word m t j
  pub above : (t j : ℕ) → j < 14 → hi ≤ key m t → word n t j ≡ word m t j

-- ---- what the functions are asked and give
-- n holds t at p, and is m but for columns from lo on and below hi
pub record Made (m n : List ℕ) (p : ℕ) (t : Tree) (lo hi : ℕ) : Type 0 where
  pub holds : Holds n p t
  pub frame : Frame m n lo hi

pub record Spot (m : List ℕ) (s : ℕ) : Type 0 where
  pub l : Tree
  pub k : ℕ
  pub r : Tree
  pub lo : ℕ
  pub hi : ℕ
  pub held : Open m s l k r lo hi

-- a slot that has a left child, and one that has a right child
pub record SpotL (m : List ℕ) (s : ℕ) : Type 0 where
  pub l : Tree
  pub k : ℕ
  pub r : Tree
  pub lo : ℕ
  pub hi : ℕ
  pub held : Open m s l k r lo hi
  pub has : 0 < ht l

pub record SpotR (m : List ℕ) (s : ℕ) : Type 0 where
  pub l : Tree
  pub k : ℕ
  pub r : Tree
  pub lo : ℕ
  pub hi : ℕ
  pub held : Open m s l k r lo hi
  pub has : 0 < ht r

-- slot s of n has the trees l and r, and n is m but for columns from lo on and below hi
pub record Laid (m n : List ℕ) (s : ℕ) (l : Tree) (k : ℕ) (r : Tree) (lo hi : ℕ) : Type 0 where
  pub held : Open n s l k r lo hi
  pub frame : Frame m n lo hi

-- a tree at root and a new slot s that goes into it
pub record Room (m : List ℕ) (root s : ℕ) : Type 0 where
  pub t : Tree
  pub k : ℕ
  pub lo : ℕ
  pub hi : ℕ
  pub holds : Holds m root t
  pub ord : Ord lo t hi
  pub off : Off k t
  pub from : lo ≤ k
  pub to : k < hi
  pub bound : hi ≤ top
  pub fresh : Holds m s (node leaf s k leaf)

-- one half of an open slot: what a change of the other half leaves
pub record Right (m : List ℕ) (s k : ℕ) (r : Tree) (hi : ℕ) : Type 0 where
  pub at : At m s
  pub some : s < nil
  pub key_is : key m s ≡ k
  pub r_held : Holds m (right m s) r
  pub to : k < hi
  pub bound : hi ≤ top
  pub r_ord : Ord (suc k) r hi

pub record Left (m : List ℕ) (s : ℕ) (l : Tree) (k lo : ℕ) : Type 0 where
  pub at : At m s
  pub some : s < nil
  pub key_is : key m s ≡ k
  pub l_held : Holds m (left m s) l
  pub from : lo ≤ k
  pub l_ord : Ord lo l k

-- a slot with its right tree, and a tree at child that goes to its left; and the other way round
pub record GraftL (m : List ℕ) (s child : ℕ) : Type 0 where
  pub t : Tree
  pub k : ℕ
  pub r : Tree
  pub lo : ℕ
  pub hi : ℕ
  pub half : Right m s k r hi
  pub from : lo ≤ k
  pub ord : Ord lo t k
  pub holds : Holds m child t

pub record GraftR (m : List ℕ) (s child : ℕ) : Type 0 where
  pub l : Tree
  pub k : ℕ
  pub t : Tree
  pub lo : ℕ
  pub hi : ℕ
  pub half : Left m s l k lo
  pub to : k < hi
  pub bound : hi ≤ top
  pub ord : Ord (suc k) t hi
  pub holds : Holds m child t

-- a tree that is not empty
pub record Full (m : List ℕ) (root : ℕ) : Type 0 where
  pub t : Tree
  pub lo : ℕ
  pub hi : ℕ
  pub holds : Holds m root t
  pub ord : Ord lo t hi
  pub bound : hi ≤ top
  pub has : 0 < ht t

-- slot s has the column k; its tree fields are anything
pub record Lone (m : List ℕ) (s k : ℕ) : Type 0 where
  pub at : At m s
  pub some : s < nil
  pub key_is : key m s ≡ k

-- the least slot of t is out: rest holds what is left
pub record Cut (m n : List ℕ) (rest least : ℕ) (t : Tree) (lo hi : ℕ) : Type 0 where
  pub made : Made m n rest (cut_min t) lo hi
  pub is : least ≡ min_slot t
  pub lone : Lone n (min_slot t) (min_key t)

-- two trees, left and right of a column k that neither has
pub record Pair (m : List ℕ) (p q : ℕ) : Type 0 where
  pub l : Tree
  pub k : ℕ
  pub r : Tree
  pub lo : ℕ
  pub hi : ℕ
  pub l_held : Holds m p l
  pub r_held : Holds m q r
  pub from : lo ≤ k
  pub to : k < hi
  pub bound : hi ≤ top
  pub l_ord : Ord lo l k
  pub r_ord : Ord (suc k) r hi

-- a tree that has the column k
pub record Has (m : List ℕ) (root k : ℕ) : Type 0 where
  pub t : Tree
  pub lo : ℕ
  pub hi : ℕ
  pub holds : Holds m root t
  pub ord : Ord lo t hi
  pub bound : hi ≤ top
  pub on : On k t

-- the slot of the column k is out of t
pub record Gone (m n : List ℕ) (root slot k : ℕ) (t : Tree) (lo hi : ℕ) : Type 0 where
  pub made : Made m n root (del k t) lo hi
  pub is : slot ≡ slot_of k t
  pub lone : Lone n slot k

-- a tree, perhaps empty
pub record Whole (m : List ℕ) (root : ℕ) : Type 0 where
  pub t : Tree
  pub lo : ℕ
  pub hi : ℕ
  pub holds : Holds m root t
  pub ord : Ord lo t hi
  pub bound : hi ≤ top
