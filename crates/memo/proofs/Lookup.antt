-- The list of the first n entries, searched.
use Rattle.std.proofs.Common.{◌≡◌, ℕ, zero, suc, ◌<◌, Bool, true, false, ◌&&◌, eqb, List, [], ◌∷◌, ◌++◌, sym, refl, ap, ◌∙◌, subst, ⊎_elim, arith, eq-eqb, eqb-true}
use Rattle.memo.specs.declared.MemoKey.{MemoKey}
use Rattle.memo.specs.declared.CandidateRange.{CandidateRange}
use Rattle.std.specs.Prelude.{Some, None}
use Rattle.memo.specs.Entries.{MemoLookup, pick, Entry, same, lookup, key_at, entry, listed}
use Rattle.memo.proofs.Pigeon.{equal?}

pub no_both : true ≡ false → ⊥
no_both e = let z : ◌≡◌ {A = ℕ} 0 1 = cc in omega arith

pub pick_none : (t : Bool) (x : CandidateRange) (z : MemoLookup) → pick t (Some x) z ≡ None → (t ≡ false) × (z ≡ None)
pick_none true x z e = let w : ◌≡◌ {A = ℕ} 0 1 = cc in absurd (omega arith)
pick_none false x z e = (refl, e)

-- the words of a key make the key
pub key_of : (a b : MemoKey) → a.node ≡ b.node → a.column ≡ b.column → a.indent ≡ b.indent → a ≡ b
key_of a b p q r =
    let w : a ≡ record { node = b.node; column = b.column; indent = b.indent } = rw (← p, ← q, ← r) in w

pub same_self : (a b : MemoKey) → a ≡ b → same a b ≡ true
unfolding same
same_self a b e =
    rw (eq-eqb a.node b.node (ap (λ (z : MemoKey). z.node) e), eq-eqb a.column b.column (ap (λ (z : MemoKey). z.column) e), eq-eqb a.indent b.indent (ap (λ (z : MemoKey). z.indent) e))

pub same_key : (a b : MemoKey) → same a b ≡ true → a ≡ b
unfolding same
same_key a b h = go (eqb a.node b.node) (eqb a.column b.column) (eqb a.indent b.indent) refl refl refl h
  where
    go : (t u v : Bool) → eqb a.node b.node ≡ t → eqb a.column b.column ≡ u → eqb a.indent b.indent ≡ v
        → (t && (u && v)) ≡ true → a ≡ b
    go true true true p q r z = key_of a b (eqb-true a.node b.node p) (eqb-true a.column b.column q) (eqb-true a.indent b.indent r)
    go true true false p q r z = absurd (no_both (sym z))
    go true false v p q r z = absurd (no_both (sym z))
    go false u v p q r z = absurd (no_both (sym z))

pub not_same : (a b : MemoKey) → (a ≡ b → ⊥) → same a b ≡ false
not_same a b h = go (same a b) refl
  where
    go : (t : Bool) → same a b ≡ t → t ≡ false
    go true e = absurd (h (same_key a b e))
    go false e = refl

module _ (key : MemoKey) where
  snoc_miss : (xs : List Entry) (e : Entry) → same e.key key ≡ false → lookup (xs ++ (e ∷ [])) key ≡ lookup xs key
  snoc_miss [] e h = rw h
  snoc_miss (x ∷ xs) e h = ap (λ z. pick (same x.key key) (Some x.range) z) (snoc_miss xs e h)

  snoc_hit : (xs : List Entry) (e : Entry) → lookup xs key ≡ None → same e.key key ≡ true → lookup (xs ++ (e ∷ [])) key ≡ Some e.range
  snoc_hit [] e n h = rw h
  snoc_hit (x ∷ xs) e n h =
      let p = pick_none (same x.key key) x.range (lookup xs key) n in
      rw p.0 (snoc_hit xs e p.1 h)

  snoc_some : (xs : List Entry) (e : Entry) → same e.key key ≡ true → lookup (xs ++ (e ∷ [])) key ≡ None → ⊥
  snoc_some [] e h n = no_both (sym h ∙ (pick_none (same e.key key) e.range None n).0)
  snoc_some (x ∷ xs) e h n = snoc_some xs e h (pick_none (same x.key key) x.range (lookup (xs ++ (e ∷ [])) key) n).1

  snoc_none : (xs : List Entry) (e : Entry) → lookup (xs ++ (e ∷ [])) key ≡ None → lookup xs key ≡ None
  snoc_none [] e n = refl
  snoc_none (x ∷ xs) e n =
      let p = pick_none (same x.key key) x.range (lookup (xs ++ (e ∷ [])) key) n in
      rw p.0 (snoc_none xs e p.1)

  pub absent : (es : List (List ℕ)) (n : ℕ) → ((k : ℕ) → k < n → key_at es k ≡ key → ⊥) → lookup (listed es n) key ≡ None
  unfolding listed
  absent es zero h = refl
  absent es (suc n) h =
      snoc_miss (listed es n) (entry es n) (not_same (key_at es n) key (h n (omega arith))) ∙ absent es n (λ k l. h k (omega arith))

  pub present : (es : List (List ℕ)) (n k : ℕ) → k < n → key_at es k ≡ key → ((j : ℕ) → j < n → key_at es j ≡ key → j ≡ k)
      → lookup (listed es n) key ≡ Some (entry es k).range
  unfolding listed
  present es zero k l q u = absurd (omega arith)
  present es (suc n) k l q u =
      ⊎_elim
      (λ e. subst (λ z. lookup (listed es n ++ (entry es n ∷ [])) key ≡ Some (entry es z).range) e
      (snoc_hit (listed es n) (entry es n) (absent es n (λ j h w. omega (arith, u j (omega arith) w)))
      (same_self (key_at es n) key (subst (λ z. key_at es z ≡ key) (sym e) q))))
      (λ ne. snoc_miss (listed es n) (entry es n) (not_same (key_at es n) key (λ w. ne (u n (omega arith) w)))
      ∙ present es n k (omega (arith, ne)) q (λ j h. u j (omega arith)))
      (equal? n k)

  pub missing : (es : List (List ℕ)) (n : ℕ) → lookup (listed es n) key ≡ None → (k : ℕ) → k < n → key_at es k ≡ key → ⊥
  unfolding listed
  missing es zero e k l q = omega arith
  missing es (suc n) e k l q =
      ⊎_elim (λ w. snoc_some (listed es n) (entry es n) (same_self (key_at es n) key (subst (λ z. key_at es z ≡ key) w q)) e)
      (λ ne. missing es n (snoc_none (listed es n) (entry es n) e) k (omega arith) q) (equal? k n)
