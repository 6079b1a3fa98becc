-- What a link tells of the word that stores it.
use Rattle.std.specs.Prelude.{◌≡◌, ◌≢◌, ℕ, Option, Some, None}
use Rattle.std.proofs.Common.{ap, subst, eq-eqb, ne_eqb}
use Rattle.avl.specs.Holds.{nil}
use Rattle.avl.specs.Links.{link_of}

pub link_nil : (x : ℕ) → x ≡ nil → link_of x ≡ None
unfolding link_of
link_nil x e = rw (eq-eqb x nil e)

pub link_slot : (x : ℕ) → x ≢ nil → link_of x ≡ Some x
unfolding link_of
link_slot x n = rw (ne_eqb x nil n)

-- the word of a link
abbrev pub word_of : Option ℕ → ℕ
word_of None = nil
word_of (Some x) = x

abbrev IsSlot : Option ℕ → Type 0
IsSlot None = ⊥
IsSlot (Some x) = Unit {0}

pub not_nothing : (s : ℕ) → Some s ≡ None → ⊥
not_nothing s e = subst IsSlot e tt

pub slot_same : (s t : ℕ) → Some s ≡ Some t → s ≡ t
slot_same s t e = ap word_of e
