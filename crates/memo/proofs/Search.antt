-- What a search shows of a sound index.
use Rattle.std.proofs.Common.{◌≡◌, ℕ, ◌+◌, ◌-◌, ◌%◌, ◌<◌, Bool, false, List, length, get_or, sym, ap, ◌∙◌, subst, ⊎_elim, mod-lt, arith, pow_pos, eqb, eqb-true}
use borrow.Author.Tests.{eqb-false}
use lib.Bits.{bit_and, and_mask}
use Rattle.memo.specs.declared.MemoKey.{MemoKey}
use Rattle.memo.specs.Hash.{hash_of}
use Rattle.memo.specs.Entries.{word, key_at}
use Rattle.memo.specs.Index.{Power, place, Live, Path, Sound, Names, Told, Passed}
use Rattle.memo.proofs.Pigeon.{less?, pigeon, place_single}
use Rattle.memo.proofs.Lookup.{no_both, key_of}

pub told_no : {es : List (List ℕ)} {k : ℕ} {key : MemoKey} → (key_at es k ≡ key → ⊥) → Told es k key false
told_no h = record { yes = λ e. absurd (no_both (sym e)); no = λ e. h }

-- where node and column are the same, the indent decides
pub told_by_indent : (es : List (List ℕ)) (k : ℕ) (key : MemoKey) → word es k 0 ≡ key.node → word es k 1 ≡ key.column → Told es k key (eqb (word es k 2) key.indent)
told_by_indent es k key p q = record {
  yes = λ e. key_of (key_at es k) key p q (eqb-true _ _ e);
  no = λ e w. eqb-false _ _ e (ap (λ (z : MemoKey). z.indent) w);
}

pub positive : {m : ℕ} → Power m → 0 < m
positive p = rw p.is (pow_pos p.exponent)

-- the mask that `find` takes is the remainder
masked : (h m : ℕ) → Power m → bit_and h (m - 1) ≡ h % m
masked h m p = subst (λ z. bit_and h (z - 1) ≡ h % z) (sym p.is) (and_mask h p.exponent)

pub masked_place : (r h t m : ℕ) → Power m → r ≡ h → bit_and (bit_and r (m - 1) + t) (m - 1) ≡ place h t m
unfolding place
masked_place r h t m p e = rw (e, masked h m p, masked (h % m + t) m p)

pub masked_low : (r m : ℕ) → Power m → bit_and r (m - 1) < m
masked_low r m p = rw (masked r m p) (mod-lt r (positive p))

pub passed_by : {ss : List ℕ} {es : List (List ℕ)} {n s k : ℕ} {key : MemoKey} {t : Bool}
    → Names ss es n s k → Told es k key t → t ≡ false → Passed ss es n key s
passed_by {es = es} {key = key} w told e = record {
  live = w.live;
  other = λ q. told.no e (subst (λ z. key_at es z ≡ key) w.same q);
}

module _ (ss : List ℕ) (es : List (List ℕ)) (n : ℕ) (T : Sound ss es n) where
  pub own : (k : ℕ) → k < n → Live ss es n (word es k 5)
  own k l = record { number = rw (T.named k l) l; back = ap (λ z. word es z 5) (T.named k l) }

  module _ (key : MemoKey) where
    way : (k : ℕ) → k < n → key_at es k ≡ key → Path ss es n (length ss) (hash_of key) (word es k 5)
    way k l q = subst (λ z. Path ss es n (length ss) (hash_of z) (word es k 5)) q (T.path k l)

    met : (k : ℕ) → k < n → key_at es k ≡ key → (t : ℕ) → ((j : ℕ) → j < t → Passed ss es n key (place (hash_of key) j (length ss)))
        → (p : Path ss es n (length ss) (hash_of key) (word es k 5)) → p.far < t → ⊥
    met k l q t f p h =
        (f p.far h).other
        (subst (λ z. key_at es z ≡ key) (sym (ap (λ z. get_or ss z 0) p.ends ∙ T.named k l)) q)

    pub none_free : (t : ℕ) → ((j : ℕ) → j < t → Passed ss es n key (place (hash_of key) j (length ss)))
        → (Live ss es n (place (hash_of key) t (length ss)) → ⊥) → (k : ℕ) → k < n → key_at es k ≡ key → ⊥
    none_free t f dead k l q =
        let p = way k l q in
        ⊎_elim (λ h. met k l q t f p h)
        (λ h. ⊎_elim (λ g. dead (p.full t g))
        (λ g. let e : p.far ≡ t = omega arith in
        dead (subst (λ z. Live ss es n z) (sym p.ends ∙ ap (λ z. place (hash_of key) z (length ss)) e) (own k l)))
        (less? t p.far))
        (less? p.far t)

    pub none_round : ((j : ℕ) → j < length ss → Passed ss es n key (place (hash_of key) j (length ss)))
        → (k : ℕ) → k < n → key_at es k ≡ key → ⊥
    none_round f k l q = let p = way k l q in met k l q (length ss) f p p.short

-- fewer entries than slots leave a slot that is not live
pub never_round : (ss : List ℕ) (es : List (List ℕ)) (n : ℕ) (key : MemoKey) (h : ℕ) → n < length ss
    → ((j : ℕ) → j < length ss → Passed ss es n key (place h j (length ss))) → ⊥
never_round ss es n key h l f =
    omega (
      arith,
      pigeon (length ss) n (λ j. get_or ss (place h j (length ss)) 0) (λ j g. (f j g).live.number)
          (λ i j gi gj e. place_single h i j (length ss) gi gj
          (sym (f i gi).live.back ∙ ap (λ z. word es z 5) e ∙ (f j gj).live.back)),
    )
