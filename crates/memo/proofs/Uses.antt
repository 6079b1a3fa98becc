-- What a caller of the memo goes by: searches of the list after an entry was stored; one size for each number of entries.
use Rattle.std.proofs.Common.{◌≡◌, ℕ, zero, suc, ◌+◌, ◌*◌, ◌^◌, ◌<◌, ◌≤◌, Bool, true, false, List, [], ◌∷◌, ◌++◌, length, sym, refl, ap, ◌∙◌, subst, ⊎_elim, pow-suc, add-one, arith, length-append}
use mathlib.Core.List.Memᴰ.{head as here}
use mathlib.Core.List.Memᴰ.{tail as there}
use mathlib.Core.List.{Memᴰ as In}
use Rattle.memo.specs.declared.MemoKey.{MemoKey}
use Rattle.memo.specs.declared.CandidateRange.{CandidateRange}
use Rattle.memo.specs.declared.Full.{Full}
use Rattle.memo.specs.Sizes.{Least, SlotsFor}
use Rattle.std.specs.Prelude.{Some, None, Result, Ok, Err}
use Rattle.memo.specs.Entries.{MemoLookup, pick, Entry, same, lookup, stored, entry, listed}
use Rattle.memo.specs.Index.{Power, Sound, Entered, Refused, InsertionIs, Insertion}
use Rattle.memo.proofs.Pigeon.{less?, equal?}
use Rattle.memo.proofs.Lookup.{no_both, pick_none, same_self, same_key}
use Rattle.memo.proofs.Replace.{store_new}

pub range_of : (f : MemoLookup) (a b : CandidateRange) → f ≡ Some a → f ≡ Some b → a ≡ b
range_of f a b p q = cc

pub not_nothing : (f : MemoLookup) (a : CandidateRange) → f ≡ None → f ≡ Some a → ⊥
not_nothing f a p q = let z : ◌≡◌ {A = ℕ} 0 1 = cc in omega arith

entry_of : (x : Entry) (k : MemoKey) (r : CandidateRange) → x.key ≡ k → x.range ≡ r → record { key = k; range = r } ≡ x
entry_of x k r p q = rw (← p, ← q)

pub listed_length : (es : List (List ℕ)) (n : ℕ) → length (listed es n) ≡ n
unfolding listed
listed_length es zero = refl
listed_length es (suc n) = length-append (listed es n) (entry es n ∷ []) ∙ ap (λ z. z + 1) (listed_length es n) ∙ add-one n

-- the key of what was stored is found
pub lookup_stored : (xs : List Entry) (e : Entry) → lookup (stored xs e) e.key ≡ Some e.range
lookup_stored [] e = rw (same_self e.key e.key refl)
lookup_stored (x ∷ xs) e = go (same x.key e.key) refl (lookup_stored xs e)
  where
    go : (t : Bool) → same x.key e.key ≡ t → lookup (stored xs e) e.key ≡ Some e.range
        → lookup (pick t (e ∷ xs) (x ∷ stored xs e)) e.key ≡ Some e.range
    go true p ih = rw (same_self e.key e.key refl)
    go false p ih = rw (p, ih)

-- found iff the key was entered
pub found_entered : (xs : List Entry) (k : MemoKey) (r : CandidateRange) → lookup xs k ≡ Some r → In (record { key = k; range = r }) xs
found_entered [] k r e = absurd (not_nothing None r refl e)
found_entered (x ∷ xs) k r e = go (same x.key k) refl (found_entered xs k r) e
  where
    go : (t : Bool) → same x.key k ≡ t → (lookup xs k ≡ Some r → In (record { key = k; range = r }) xs)
        → pick t (Some x.range) (lookup xs k) ≡ Some r → In (record { key = k; range = r }) (x ∷ xs)
    go true p ih q = here (entry_of x k r (same_key x.key k p) (range_of (Some x.range) x.range r refl q))
    go false p ih q = there (ih q)

pub nothing_entered : (xs : List Entry) (k : MemoKey) → lookup xs k ≡ None → (e : Entry) → In e xs → e.key ≡ k → ⊥
nothing_entered [] k n e m q = elim m [ ]
nothing_entered (x ∷ xs) k n e (here p) q =
    no_both (sym (same_self x.key k (ap (λ (z : Entry). z.key) (sym p) ∙ q)) ∙ (pick_none (same x.key k) x.range (lookup xs k) n).0)
nothing_entered (x ∷ xs) k n e (there m) q = nothing_entered xs k (pick_none (same x.key k) x.range (lookup xs k) n).1 e m q

-- what an insertion left, by its answer
pub inserted : {ss : List ℕ} {es : List (List ℕ)} {n size : ℕ} {ss' : List ℕ} {es' : List (List ℕ)} {e : Entry} {r : Result ℕ Full} {m : ℕ}
    → Insertion ss es n size ss' es' e r → r ≡ Ok m → Entered ss es n size ss' es' e m
inserted {ss} {es} {n} {size} {ss'} {es'} {e} w q = subst (λ z. InsertionIs ss es n size ss' es' e z) q w.is

pub refused : {ss : List ℕ} {es : List (List ℕ)} {n size : ℕ} {ss' : List ℕ} {es' : List (List ℕ)} {e : Entry} {r : Result ℕ Full} {d : Full}
    → Insertion ss es n size ss' es' e r → r ≡ Err d → Refused ss es n size ss' es' d.needed
refused {ss} {es} {n} {size} {ss'} {es'} {e} w q = subst (λ z. InsertionIs ss es n size ss' es' e z) q w.is

-- an insertion under a key that was not entered appends exactly one entry
pub entered_new : {ss : List ℕ} {es : List (List ℕ)} {n size : ℕ} {ss' : List ℕ} {es' : List (List ℕ)} {e : Entry} {m : ℕ}
    → Entered ss es n size ss' es' e m → lookup (listed es n) e.key ≡ None → (m ≡ n + 1) × (listed es' m ≡ listed es n ++ (e ∷ []))
entered_new {es = es} {n = n} {es' = es'} {e = e} {m = m} w h =
    let q : listed es' m ≡ listed es n ++ (e ∷ []) = w.list ∙ store_new e (listed es n) h in
    (sym (listed_length es' m) ∙ ap (λ (z : List Entry). length z) q ∙ length-append (listed es n) (e ∷ []) ∙ ap (λ z. z + 1) (listed_length es n), q)

-- for any other key nothing changes
module _ (k : MemoKey) (e : Entry) (ne : same e.key k ≡ false) where
  apart : (x : Entry) → same x.key e.key ≡ true → same x.key k ≡ false
  apart x h = subst (λ (z : MemoKey). same z k ≡ false) (sym (same_key x.key e.key h)) ne

  pub lookup_other : (xs : List Entry) → lookup (stored xs e) k ≡ lookup xs k
  lookup_other [] = rw ne
  lookup_other (x ∷ xs) = go (same x.key e.key) refl (lookup_other xs)
    where
      go : (t : Bool) → same x.key e.key ≡ t → lookup (stored xs e) k ≡ lookup xs k
          → lookup (pick t (e ∷ xs) (x ∷ stored xs e)) k ≡ pick (same x.key k) (Some x.range) (lookup xs k)
      go true p ih = rw (ne, apart x p)
      go false p ih = rw ih

-- `Least` says one number
pub least_single : {e s t : ℕ} → Least e s → Least e t → s ≡ t
least_single {e} p q =
    ⊎_elim (λ h. omega (arith, p.room, q.least p.k h, p.power))
    (λ h. ⊎_elim (λ g. omega (arith, q.room, p.least q.k g, q.power))
    (λ g. let z : p.k ≡ q.k = omega arith in p.power ∙ ap (λ k. 8 * 2 ^ k) z ∙ sym q.power) (less? q.k p.k))
    (less? p.k q.k)

-- as many slots as `memo_slots_for` says are enough for `memo_insert`
pub slots_enough : {e s : ℕ} → SlotsFor e s → e ≤ s
slots_enough {e} p = ⊎_elim (λ z. omega arith) (λ ne. omega (arith, (p.some ne).room)) (equal? e 0)

-- eight times a power of two is one
slots_power : {e s : ℕ} → SlotsFor e s → 0 < s → Power s
slots_power {e} p h =
    ⊎_elim (λ z. absurd (omega (arith, p.none z)))
    (λ ne. let l = p.some ne in
    record { exponent = suc (suc (suc l.k)); is = omega (arith, l.power, pow-suc 2 l.k, pow-suc 2 (suc l.k), pow-suc 2 (suc (suc l.k))) })
    (equal? e 0)

-- in as many slots any memory is sound at 0 entries
pub fresh : {e : ℕ} (ss : List ℕ) (es : List (List ℕ)) → SlotsFor e (length ss) → Sound ss es 0
fresh ss es p = record {
  room = omega arith;
  within = λ k h. absurd (omega arith);
  named = λ k h. absurd (omega arith);
  path = λ k h. absurd (omega arith);
  single = λ k j h g q. absurd (omega arith);
  power = slots_power p;
}

-- ---- for the invariant of a caller: what holds of each entry

abbrev pub Every : (Entry → Type 0) → List Entry → Type 0
Every P [] = Unit
Every P (x ∷ xs) = P x × Every P xs

-- what is found has it
pub every_found : (P : Entry → Type 0) (xs : List Entry) (k : MemoKey) (r : CandidateRange) → Every P xs → lookup xs k ≡ Some r → P (record { key = k; range = r })
every_found P [] k r all e = absurd (not_nothing None r refl e)
every_found P (z ∷ xs) k r all e = go (same z.key k) refl (every_found P xs k r all.1) e
  where
    go : (t : Bool) → same z.key k ≡ t → (lookup xs k ≡ Some r → P (record { key = k; range = r }))
        → pick t (Some z.range) (lookup xs k) ≡ Some r → P (record { key = k; range = r })
    go true p ih q =
        subst (λ (w : MemoKey). P (record { key = w; range = r })) (same_key z.key k p)
        (subst (λ (w : CandidateRange). P (record { key = z.key; range = w })) (range_of (Some z.range) z.range r refl q) all.0)
    go false p ih q = ih q

-- what is stored keeps it
pub every_stored : (P : Entry → Type 0) (xs : List Entry) (e : Entry) → Every P xs → P e → Every P (stored xs e)
every_stored P [] e all own = (own, tt)
every_stored P (z ∷ xs) e all own = go (same z.key e.key) (every_stored P xs e all.1 own)
  where
    go : (t : Bool) → Every P (stored xs e) → Every P (pick t (e ∷ xs) (z ∷ stored xs e))
    go true ih = (own, all.1)
    go false ih = (all.0, ih)
