-- An entry stored: at the end, or in the place of the one of its key.
use Rattle.std.proofs.Common.{◌≡◌, ℕ, zero, suc, ◌+◌, ◌<◌, ◌≤◌, Bool, true, false, List, [], ◌∷◌, ◌++◌, length, get_or, set, sym, refl, ap, ◌∙◌, subst, ⊎_elim, arith, length-set}
use Rattle.memo.specs.Hash.{hash_of}
use Rattle.std.specs.Prelude.{None}
use Rattle.memo.specs.Entries.{pick, Entry, same, lookup, stored, word, key_at, entry, listed, row_of}
use Rattle.memo.specs.Index.{place, Live, Path, Sound, Gap, Hit, Round, Entered, Refused}
use Rattle.memo.proofs.Pigeon.{equal?}
use Rattle.memo.proofs.Lookup.{pick_none, same_self, absent, missing}
use Rattle.memo.proofs.Search.{never_round}
use Rattle.memo.proofs.Grow.{other, other_entry, new, new_entry, old_listed, grown, more}
use Rattle.memo.proofs.Answers.{nowhere}

module _ (e : Entry) where
  -- a key that has no entry: exactly one entry more
  pub store_new : (xs : List Entry) → lookup xs e.key ≡ None → stored xs e ≡ xs ++ (e ∷ [])
  store_new [] n = refl
  store_new (z ∷ xs) n =
      let p = pick_none (same z.key e.key) z.range (lookup xs e.key) n in
      rw p.0 (ap (λ w. z ∷ w) (store_new xs p.1))

  store_last : (xs : List Entry) (z : Entry) → lookup xs e.key ≡ None → same z.key e.key ≡ true → stored (xs ++ (z ∷ [])) e ≡ xs ++ (e ∷ [])
  store_last [] z n h = rw h
  store_last (w ∷ xs) z n h =
      let p = pick_none (same w.key e.key) w.range (lookup xs e.key) n in
      rw p.0 (ap (λ v. w ∷ v) (store_last xs z p.1 h))

  store_before : (xs : List Entry) (z : Entry) → (lookup xs e.key ≡ None → ⊥) → stored (xs ++ (z ∷ [])) e ≡ stored xs e ++ (z ∷ [])
  store_before [] z h = absurd (h refl)
  store_before (w ∷ xs) z h = go (same w.key e.key) refl (store_before xs z)
    where
      go : (t : Bool) → same w.key e.key ≡ t → ((lookup xs e.key ≡ None → ⊥) → stored (xs ++ (z ∷ [])) e ≡ stored xs e ++ (z ∷ []))
          → pick t (e ∷ (xs ++ (z ∷ []))) (w ∷ stored (xs ++ (z ∷ [])) e) ≡ pick t (e ∷ xs) (w ∷ stored xs e) ++ (z ∷ [])
      go true p ih = refl
      go false p ih = ap (λ v. w ∷ v) (ih (λ q. h (rw p q)))

  module _ (es : List (List ℕ)) (k s : ℕ) (lk : k < length es) (q : key_at es k ≡ e.key) where
    replaced : (m : ℕ) → k < m → ((j : ℕ) → j < m → key_at es j ≡ e.key → j ≡ k) → listed (set es k (row_of e s)) m ≡ stored (listed es m) e
    unfolding listed
    replaced zero l u = absurd (omega arith)
    replaced (suc m) l u =
        ⊎_elim
        (λ w.
        rw (
          old_listed es k (row_of e s) m (omega arith),
          subst (λ z. entry (set es k (row_of e s)) z ≡ e) (sym w) (new_entry es k e s lk),
          store_last (listed es m) (entry es m) (absent e.key es m (λ j h g. omega (arith, u j (omega arith) g)))
              (same_self (key_at es m) e.key (subst (λ z. key_at es z ≡ e.key) (sym w) q)),
        ))
        (λ ne.
        rw (
          replaced m (omega (arith, ne)) (λ j h. u j (omega arith)),
          other_entry es k (row_of e s) m ne,
          store_before (listed es m) (entry es m) (λ g. missing e.key es m g k (omega (arith, ne)) q),
        ))
        (equal? m k)

-- new rows that differ in no key or slot
module _ (ss : List ℕ) (es es' : List (List ℕ)) (n : ℕ) (len : length es' ≡ length es)
    (keys : (i : ℕ) → key_at es' i ≡ key_at es i) (at : (i : ℕ) → word es' i 5 ≡ word es i 5) where
  live : (s : ℕ) → Live ss es n s → Live ss es' n s
  live s l = record { number = l.number; back = at (get_or ss s 0) ∙ l.back }

  path : (h s : ℕ) → Path ss es n (length ss) h s → Path ss es' n (length ss) h s
  path h s p = record { far = p.far; short = p.short; ends = p.ends; full = λ j l. live (place h j (length ss)) (p.full j l) }

  still : Sound ss es n → Sound ss es' n
  still T = record {
    room = omega (arith, T.room);
    within = λ k l. rw (at k) (T.within k l);
    named = λ k l. rw (at k) (T.named k l);
    path = λ k l. rw (keys k, at k) (path (hash_of (key_at es k)) (word es k 5) (T.path k l));
    single = λ k j lk lj p. T.single k j lk lj (sym (keys k) ∙ p ∙ keys j);
    power = T.power;
  }

module _ (es : List (List ℕ)) (k : ℕ) (e : Entry) (lk : k < length es) (q : key_at es k ≡ e.key) where
  row : List ℕ
  row = row_of e (word es k 5)

  same_keys : (i : ℕ) → key_at (set es k row) i ≡ key_at es i
  unfolding row
  same_keys i =
      ⊎_elim (λ w. subst (λ z. key_at (set es k row) z ≡ key_at es z) (sym w) (ap (λ (z : Entry). z.key) (new_entry es k e (word es k 5) lk) ∙ sym q))
      (λ ne. ap (λ (z : Entry). z.key) (other_entry es k row i ne)) (equal? i k)

  same_slots : (i : ℕ) → word (set es k row) i 5 ≡ word es i 5
  unfolding row
  same_slots i =
      ⊎_elim (λ w. subst (λ z. word (set es k row) z 5 ≡ word es z 5) (sym w) (new es k row 5 lk)) (λ ne. other es k row i 5 ne) (equal? i k)

pub refused : (ss : List ℕ) (es : List (List ℕ)) (n size : ℕ) → size ≤ n → Refused ss es n size ss es (n + 1)
refused ss es n size h = record { reached = h; more = refl; slots = refl; entries = refl }

module _ (ss : List ℕ) (es : List (List ℕ)) (n size : ℕ) (e : Entry) where
  module _ (T : Sound ss es n) (small : n < size) (room : size ≤ length es) (free : size ≤ length ss) where
    pub added : {s : ℕ} → Gap ss es n e.key s → Entered ss es n size (set ss s n) (set es n (row_of e s)) e (n + 1)
    added {s} g =
        let none = nowhere ss es n e.key T g in
        let r : n < length es = omega arith in
        record {
          small = small;
          sound = grown ss es n e s T r g none;
          list = more ss es n e s T r g none ∙ sym (store_new e (listed es n) (absent e.key es n none));
        }

    pub anew : {k : ℕ} → Hit es n e.key k → Entered ss es n size ss (set es k (row_of e (word es k 5))) e n
    unfolding row
    anew {k} h =
        let lk : k < length es = omega (arith, h.low) in
        let q = h.keyed in
        record {
          small = small;
          sound = still ss es (set es k (row_of e (word es k 5))) n (length-set es k (row_of e (word es k 5))) (same_keys es k e lk q) (same_slots es k e lk q) T;
          list = replaced e es k (word es k 5) lk q n h.low (λ j l g. T.single j k l h.low (g ∙ sym q));
        }

    pub never : {m : ℕ} → Round ss es n e.key → Entered ss es n size ss es e m
    never w = absurd (never_round ss es n e.key (hash_of e.key) (omega arith) w.passed)
