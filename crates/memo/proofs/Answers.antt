-- From where a search ended to what the memo answers.
use Rattle.std.proofs.Common.{◌≡◌, ℕ, ◌<◌, List, sym, ◌∙◌, subst, ◌⊎◌, ⊎_elim}
use Rattle.memo.specs.declared.MemoKey.{MemoKey}
use Rattle.std.specs.Prelude.{Some, None}
use Rattle.memo.specs.Entries.{lookup, key_at, entry, listed}
use Rattle.memo.specs.declared.Spot.{Spot}
use Rattle.memo.specs.declared.Spot.TheVariants.{Free, Taken, Nowhere}
use Rattle.memo.specs.Index.{Live, Sound, Gap, Hit, Round, Spotted}
use Rattle.memo.proofs.Lookup.{absent, present}
use Rattle.memo.proofs.Search.{none_free, none_round}

module _ (ss : List ℕ) (es : List (List ℕ)) (n : ℕ) (key : MemoKey) (T : Sound ss es n) where
  pub nowhere : {s : ℕ} → Gap ss es n key s → (k : ℕ) → k < n → key_at es k ≡ key → ⊥
  nowhere g = none_free ss es n T key g.t g.passed (λ l. g.dead (subst (λ z. Live ss es n z) g.ends l))

  pub get-taken : {k : ℕ} → Hit es n key k → Some (entry es k).range ≡ lookup (listed es n) key
  get-taken {k} h = sym (present key es n k h.low h.keyed (λ j l q. T.single j k l h.low (q ∙ sym h.keyed)))

  get-free : {s : ℕ} → Gap ss es n key s → None ≡ lookup (listed es n) key
  get-free g = sym (absent key es n (nowhere g))

  get-round : Round ss es n key → None ≡ lookup (listed es n) key
  get-round w = sym (absent key es n (none_round ss es n T key w.passed))

  pub get-none : {r : Spot} → Spotted ss es n key r → ((s : ℕ) × (r ≡ Free s)) ⊎ (r ≡ Nowhere) → None ≡ lookup (listed es n) key
  get-none h e = ⊎_elim (λ f. get-free (subst (λ z. Spotted ss es n key z) f.1 h)) (λ f. get-round (subst (λ z. Spotted ss es n key z) f h)) e

-- what the search says, read at the answer that it gave
pub hitAt : (ss : List ℕ) (es : List (List ℕ)) (n : ℕ) (key : MemoKey) {k : ℕ} {r : Spot} → r ≡ Taken k → Spotted ss es n key r → Hit es n key k
hitAt ss es n key e h = subst (λ z. Spotted ss es n key z) e h

pub gapAt : (ss : List ℕ) (es : List (List ℕ)) (n : ℕ) (key : MemoKey) {s : ℕ} {r : Spot} → r ≡ Free s → Spotted ss es n key r → Gap ss es n key s
gapAt ss es n key e h = subst (λ z. Spotted ss es n key z) e h
