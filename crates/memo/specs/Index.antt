-- The index of the entries, in slots that may hold anything: `Sound` says that the first n entries are found in it, and nothing of what else the memory holds.
use Rattle.std.specs.Prelude.{◌≡◌, ℕ, ◌+◌, ◌%◌, ◌^◌, ◌<◌, ◌≤◌, Bool, true, false, List, length, ◌≢◌, slice_index, slice_index_or, Option, Some, None, Result, Ok, Err}
use Rattle.memo.specs.Hash.{hash_of}
use Rattle.memo.specs.Entries.{Entry, stored, word, key_at, listed}
use Rattle.memo.specs.declared.MemoKey.{MemoKey}
use Rattle.memo.specs.declared.Full.{Full}
use Rattle.memo.specs.declared.Spot.{Spot}
use Rattle.memo.specs.declared.Spot.TheVariants.{Free, Taken, Nowhere}

-- a power of two: the remainder by it is a mask
pub record Power (m : ℕ) : Type 0 where
  pub exponent : ℕ
  pub is : m ≡ 2 ^ exponent

-- slot s names one of the first n entries, which names it back
pub record Live (ss : List ℕ) (es : List (List ℕ)) (n s : ℕ) : Type 0 where
  pub number : slice_index_or ss s 0 < n
  pub back : word es (slice_index ss s) 5 ≡ s

-- the slot at turn t of a search for hash h among m slots
unfoldable pub place : ℕ → ℕ → ℕ → ℕ
place h t m = (h % m + t) % m

-- a search for hash h comes to slot s over live slots alone
pub record Path (ss : List ℕ) (es : List (List ℕ)) (n m h s : ℕ) : Type 0 where
  pub far : ℕ
  pub short : far < m
  pub ends : place h far m ≡ s
  pub full : (j : ℕ) → j < far → Live ss es n (place h j m)

-- each of the first n entries stands at its slot, a search comes there, and no key has two; and the number of slots is 0 or a power of two
pub record Sound (ss : List ℕ) (es : List (List ℕ)) (n : ℕ) : Type 0 where
  pub room : n ≤ length es
  pub within : (k : ℕ) → k < n → word es k 5 < length ss
  pub named : (k : ℕ) → k < n → slice_index ss (word es k 5) ≡ k
  pub path : (k : ℕ) → k < n → Path ss es n (length ss) (hash_of (key_at es k)) (word es k 5)
  pub single : (k j : ℕ) → k < n → j < n → key_at es k ≡ key_at es j → k ≡ j
  pub power : 0 < length ss → Power (length ss)

-- ---- what an insertion leaves

-- it holds the entry
pub record Entered (ss : List ℕ) (es : List (List ℕ)) (n size : ℕ) (ss' : List ℕ) (es' : List (List ℕ)) (e : Entry) (m : ℕ) : Type 0 where
  pub small : n < size
  pub sound : Sound ss' es' m
  pub list : listed es' m ≡ stored (listed es n) e

-- refusal 14: the size is reached, and nothing is altered
pub record Refused (ss : List ℕ) (es : List (List ℕ)) (n size : ℕ) (ss' : List ℕ) (es' : List (List ℕ)) (needed : ℕ) : Type 0 where
  pub reached : size ≤ n
  pub more : needed ≡ n + 1
  pub slots : ss' ≡ ss
  pub entries : es' ≡ es

abbrev pub InsertionIs : List ℕ → List (List ℕ) → ℕ → ℕ → List ℕ → List (List ℕ) → Entry → Result ℕ Full → Type 0
InsertionIs ss es n size ss' es' e (Ok m) = Entered ss es n size ss' es' e m
InsertionIs ss es n size ss' es' e (Err d) = Refused ss es n size ss' es' d.needed

pub record Insertion (ss : List ℕ) (es : List (List ℕ)) (n size : ℕ) (ss' : List ℕ) (es' : List (List ℕ)) (e : Entry) (r : Result ℕ Full) : Type 0 where
  pub is : InsertionIs ss es n size ss' es' e r

-- ---- what the search's parts find

-- slot s is live and names entry k
pub record Names (ss : List ℕ) (es : List (List ℕ)) (n s k : ℕ) : Type 0 where
  pub live : Live ss es n s
  pub same : slice_index ss s ≡ k

-- r is the entry that slot s names, and none if the slot is not live
abbrev pub Named : List ℕ → List (List ℕ) → ℕ → ℕ → Option ℕ → Type 0
Named ss es n s (Some k) = Names ss es n s k
Named ss es n s None = Live ss es n s → ⊥

pub record Told (es : List (List ℕ)) (k : ℕ) (key : MemoKey) (r : Bool) : Type 0 where
  pub yes : r ≡ true → key_at es k ≡ key
  pub no : r ≡ false → key_at es k ≢ key

-- slot s is live and names an entry of another key
pub record Passed (ss : List ℕ) (es : List (List ℕ)) (n : ℕ) (key : MemoKey) (s : ℕ) : Type 0 where
  pub live : Live ss es n s
  pub other : key_at es (slice_index ss s) ≡ key → ⊥

-- slot s ends the search at turn t, not live
pub record Gap (ss : List ℕ) (es : List (List ℕ)) (n : ℕ) (key : MemoKey) (s : ℕ) : Type 0 where
  pub t : ℕ
  pub turns : t < length ss
  pub slot : s < length ss
  pub ends : place (hash_of key) t (length ss) ≡ s
  pub dead : Live ss es n s → ⊥
  pub passed : (j : ℕ) → j < t → Passed ss es n key (place (hash_of key) j (length ss))

pub record Hit (es : List (List ℕ)) (n : ℕ) (key : MemoKey) (k : ℕ) : Type 0 where
  pub low : k < n
  pub keyed : key_at es k ≡ key

pub record Round (ss : List ℕ) (es : List (List ℕ)) (n : ℕ) (key : MemoKey) : Type 0 where
  pub passed : (j : ℕ) → j < length ss → Passed ss es n key (place (hash_of key) j (length ss))

abbrev pub Spotted : List ℕ → List (List ℕ) → ℕ → MemoKey → Spot → Type 0
Spotted ss es n key (Free s) = Gap ss es n key s
Spotted ss es n key (Taken k) = Hit es n key k
Spotted ss es n key Nowhere = Round ss es n key
