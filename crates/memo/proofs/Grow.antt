-- A sound index stays sound with one entry more, in a slot that was not live.
use Rattle.std.proofs.Common.{◌≡◌, ℕ, zero, suc, ◌+◌, ◌<◌, ◌≤◌, List, [], ◌∷◌, ◌++◌, length, get_or, set, sym, refl, ap, ◌∙◌, subst, add-one, arith, length-set, get_or-set_other, get_or-set_same, below_more}
use Rattle.memo.specs.Hash.{hash_of}
use Rattle.memo.specs.Entries.{Entry, word, key_at, entry, listed, row_of}
use Rattle.memo.specs.Index.{place, Live, Path, Sound, Gap}
use Rattle.memo.proofs.Search.{own}

module _ (es : List (List ℕ)) (n : ℕ) (row : List ℕ) where
  pub other : (k j : ℕ) → (k ≡ n → ⊥) → word (set es n row) k j ≡ word es k j
  unfolding word
  other k j h = ap (λ z. get_or z j 0) (get_or-set_other es n k row [] h)

  pub other_entry : (k : ℕ) → (k ≡ n → ⊥) → entry (set es n row) k ≡ entry es k
  other_entry k h = rw (other k 0 h, other k 1 h, other k 2 h, other k 3 h, other k 4 h)

  pub new : (j : ℕ) → n < length es → word (set es n row) n j ≡ get_or row j 0
  unfolding word
  new j h = ap (λ z. get_or z j 0) (get_or-set_same es n row [] h)

  pub old_listed : (m : ℕ) → m ≤ n → listed (set es n row) m ≡ listed es m
  unfolding listed
  old_listed zero h = refl
  old_listed (suc m) h = rw (old_listed m (omega arith), other_entry m (λ e. omega arith))

pub new_entry : (es : List (List ℕ)) (n : ℕ) (e : Entry) (s : ℕ) → n < length es → entry (set es n (row_of e s)) n ≡ e
new_entry es n e s h =
    let r = row_of e s in
    let w : entry (set es n r) n ≡ record {
      key = record { node = e.key.node; column = e.key.column; indent = e.key.indent };
      range = record { start = e.range.start; len = e.range.len };
    } = rw (new es n r 0 h, new es n r 1 h, new es n r 2 h, new es n r 3 h, new es n r 4 h) in w

module _ (ss : List ℕ) (es : List (List ℕ)) (n : ℕ) (e : Entry) (s : ℕ) (T : Sound ss es n) (room : n < length es)
    (g : Gap ss es n e.key s) (none : (k : ℕ) → k < n → key_at es k ≡ e.key → ⊥) where
  row : List ℕ
  row = row_of e s

  ss' : List ℕ
  ss' = set ss s n

  es' : List (List ℕ)
  es' = set es n row

  old : (k : ℕ) → k < n → (j : ℕ) → word es' k j ≡ word es k j
  unfolding es'
  old k l j = other es n row k j (λ e. omega arith)

  old_key : (k : ℕ) → k < n → key_at es' k ≡ key_at es k
  unfolding es'
  old_key k l = ap (λ (z : Entry). z.key) (other_entry es n row k (λ e. omega arith))

  last : word es' n 5 ≡ s
  unfolding es' row
  last = new es n row 5 room

  last_key : key_at es' n ≡ e.key
  unfolding es' row
  last_key = ap (λ (z : Entry). z.key) (new_entry es n e s room)

  kept : (z : ℕ) → Live ss es n z → Live ss' es' (n + 1) z
  unfolding ss'
  kept z l =
      let e = get_or-set_other ss s z n 0 (λ e. g.dead (subst (λ w. Live ss es n w) e l)) in
      record {
        number = rw e (omega (arith, l.number));
        back = rw e (old (get_or ss z 0) l.number 5 ∙ l.back);
      }

  kept_path : (h z : ℕ) → Path ss es n (length ss) h z → Path ss' es' (n + 1) (length ss) h z
  kept_path h z p = record { far = p.far; short = p.short; ends = p.ends; full = λ j l. kept (place h j (length ss)) (p.full j l) }

  new_path : Path ss' es' (n + 1) (length ss) (hash_of e.key) s
  new_path = record { far = g.t; short = g.turns; ends = g.ends; full = λ j l. kept (place (hash_of e.key) j (length ss)) (g.passed j l).live }

  wide : length ss' ≡ length ss
  unfolding ss'
  wide = length-set ss s n

  pub grown : Sound (set ss s n) (set es n (row_of e s)) (n + 1)
  unfolding ss' es' row
  grown = record {
    room = rw length-set (omega arith);
    within = below_more (λ k. word es' k 5 < length ss') n (λ k l. rw (wide, old k l 5) (T.within k l)) (rw (wide, last) g.slot);
    named = below_more (λ k. get_or ss' (word es' k 5) 0 ≡ k) n
        (λ k l. rw (old k l 5)
        (get_or-set_other ss s (word es k 5) n 0 (λ e. g.dead (subst (λ w. Live ss es n w) e (own ss es n T k l))) ∙ T.named k l))
        (rw last (get_or-set_same ss s n 0 g.slot));
    path = below_more (λ k. Path ss' es' (n + 1) (length ss') (hash_of (key_at es' k)) (word es' k 5)) n
        (λ k l. rw (wide, old_key k l, old k l 5) (kept_path (hash_of (key_at es k)) (word es k 5) (T.path k l)))
        (rw (wide, last_key, last) new_path);
    single = λ k j hk hj. below_more (λ k. (j : ℕ) → j < n + 1 → key_at es' k ≡ key_at es' j → k ≡ j) n
        (λ k lk. below_more (λ j. key_at es' k ≡ key_at es' j → k ≡ j) n
        (λ j lj p. T.single k j lk lj (sym (old_key k lk) ∙ p ∙ old_key j lj))
        (λ p. absurd (none k lk (sym (old_key k lk) ∙ p ∙ last_key))))
        (below_more (λ j. key_at es' n ≡ key_at es' j → n ≡ j) n
        (λ j lj p. absurd (none j lj (sym (old_key j lj) ∙ sym p ∙ last_key)))
        (λ p. refl))
        k hk j hj;
    power = rw length-set T.power;
  }

  pub more : listed (set es n (row_of e s)) (n + 1) ≡ listed es n ++ (e ∷ [])
  unfolding listed
  more = rw (add-one, old_listed es n (row_of e s) n (omega arith), new_entry es n e s room)
