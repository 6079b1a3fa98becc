-- What a memo holds: a list of entries, a key and its range each. (Document 01, Memo.)
use Rattle.std.specs.Prelude.{ℕ, zero, suc, Bool, true, false, ◌&&◌, List, [], ◌∷◌, ◌++◌, ◌==◌, slice_index, slice_index_or, Option, Some, None}
use Rattle.memo.specs.declared.MemoKey.{MemoKey}
use Rattle.memo.specs.declared.CandidateRange.{CandidateRange}

pub record Entry : Type 0 where
  pub key : MemoKey
  pub range : CandidateRange

abbrev pub pick : {A : Type 0} → Bool → A → A → A
pick true a b = a
pick false a b = b

-- node, column and indent are the same
unfoldable pub same : MemoKey → MemoKey → Bool
same a b = a.node == b.node && (a.column == b.column && a.indent == b.indent)

-- what a search of the memo answers
abbrev pub MemoLookup : Type 0
MemoLookup = Option CandidateRange

-- the range that was entered for the key
abbrev pub lookup : List Entry → MemoKey → MemoLookup
lookup [] k = None
lookup (e ∷ es) k = pick (same e.key k) (Some e.range) (lookup es k)

-- with e at the end, or in the place of the entry of its key if there is one
abbrev pub stored : List Entry → Entry → List Entry
stored [] e = e ∷ []
stored (x ∷ xs) e = pick (same x.key e.key) (e ∷ xs) (x ∷ stored xs e)

-- ---- in the lent rows

-- word j of row k: node, column, indent, start and length of the range, the entry's slot
unfoldable pub word : List (List ℕ) → ℕ → ℕ → ℕ
word es k j = slice_index (slice_index_or es k []) j

abbrev pub key_at : List (List ℕ) → ℕ → MemoKey
key_at es k = record { node = word es k 0; column = word es k 1; indent = word es k 2 }

abbrev pub entry : List (List ℕ) → ℕ → Entry
entry es k = record { key = key_at es k; range = record { start = word es k 3; len = word es k 4 } }

-- the row of an entry at slot s
abbrev pub row_of : Entry → ℕ → List ℕ
row_of e s = e.key.node ∷ e.key.column ∷ e.key.indent ∷ e.range.start ∷ e.range.len ∷ s ∷ []

-- the first n rows
unfoldable pub listed : List (List ℕ) → ℕ → List Entry
listed es zero = []
listed es (suc n) = listed es n ++ (entry es n ∷ [])
