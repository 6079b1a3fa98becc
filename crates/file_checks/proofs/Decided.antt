-- Whether some node leads back to itself can be found out; where none does, all that a node leads to comes to an end.
use mathlib.Core.Path.{◌≡◌, refl, sym, ap, ◌∙◌, subst}
use mathlib.Core.Logic.{◌⊎◌, inl, inr, ⊎_elim, by_cases}
use mathlib.Core.List.{List, [], ◌∷◌}
use Prim.Native.Nat.{ℕ, zero, suc, ◌≤◌, ◌<◌}
use native.Mathlib.Omega.{arith}
use native.Mathlib.Decide.{ℕ_discrete}
use lib.ListN.{length, get_or, set, length-set}
use lib.Seq.{get_or-set_other}
use Rattle.file_checks.specs.Circle.{Refers, Leads, one, more, Circle}
use Rattle.file_checks.specs.Descent.{Closed, Ends, ends}
use Rattle.file_checks.specs.Search.{degree, target, white}
use Rattle.file_checks.proofs.White.{white_set}
use Rattle.file_checks.proofs.Enumerated.{nth_of, nth_refers}
use Rattle.file_checks.proofs.Ways.{no_way_back}

-- no node marked
zeros : ℕ → List ℕ
zeros zero = []
zeros (suc n) = 0 ∷ zeros n

length_zeros : (n : ℕ) → length (zeros n) ≡ n
unfolding zeros
length_zeros zero = refl
length_zeros (suc n) = ap suc (length_zeros n)

get_or_zeros : (n x : ℕ) → get_or (zeros n) x 0 ≡ 0
unfolding zeros
get_or_zeros zero x = refl
get_or_zeros (suc n) zero = refl
get_or_zeros (suc n) (suc x) = get_or_zeros n x

-- every marked node leads to i
record Path (t : List (List ℕ)) (e cs : List ℕ) (i : ℕ) : Type 0 where
  long : length t ≤ length cs
  on : (x : ℕ) → (get_or cs x 0 ≡ 0 → ⊥) → (x < length t) × Leads t e x i

module _ (t : List (List ℕ)) (e : List ℕ) (closed : Closed t e) where
  -- what is to be found out of i, with at most w nodes not marked
  record Found (w : ℕ) : Type 0 where
    look : (cs : List ℕ) (i : ℕ) → i < length t → get_or cs i 0 ≡ 0 → white cs ≤ w → Path t e cs i → Circle t e ⊎ Ends t e i

  module _ (w : ℕ) (less : Found w) (cs : List ℕ) (i : ℕ) (hi : i < length t) (hz : get_or cs i 0 ≡ 0) (hw : white cs ≤ suc w) (p : Path t e cs i) where
    marked_cs : List ℕ
    marked_cs = set cs i 1

    fewer : white marked_cs ≤ w
    unfolding marked_cs
    fewer = omega (arith, white_set cs i 1 (omega (arith, p.long)) hz (λ q. omega arith))

    -- a marked node is i or leads to it
    way : (x : ℕ) → (get_or marked_cs x 0 ≡ 0 → ⊥) → (x < length t) × ((x ≡ i) ⊎ Leads t e x i)
    unfolding marked_cs
    way x nz =
        by_cases (ℕ_discrete x i) (λ ex. (omega arith, inl ex))
        (λ ne. let z = p.on x (λ q. nz (get_or-set_other cs i x 1 0 ne ∙ q)) in (z.0, inr z.1))

    further : (j : ℕ) → Refers t e i j → (x : ℕ) → (get_or marked_cs x 0 ≡ 0 → ⊥) → (x < length t) × Leads t e x j
    further j r x nz =
        let z = way x nz in
        (z.0, ⊎_elim (λ (ex : x ≡ i). one (subst (λ (y : ℕ). Refers t e y j) (sym ex) r)) (λ l. more l r) z.1)

    next : (j : ℕ) → Refers t e i j → Circle t e ⊎ Ends t e j
    unfolding marked_cs
    next j r =
        by_cases (ℕ_discrete (get_or marked_cs j 0) 0)
        (λ z. less.look marked_cs j (closed.within i j hi r) z fewer (record { long = subst (λ (m : ℕ). length t ≤ m) (sym (length-set cs i 1)) p.long; on = further j r }))
        (λ nz. let l = further j r j nz in inl (record { node = j; inside = l.0; back = l.1 }))

    each : (d : ℕ) → d ≤ degree t i → Circle t e ⊎ ((k : ℕ) → k < d → Ends t e (target t e i k))
    each zero h = inr (λ k l. absurd (omega arith))
    each (suc d) h =
        ⊎_elim (λ c. inl c)
        (λ all. ⊎_elim (λ c. inl c)
        (λ last. inr (λ k l. by_cases (ℕ_discrete k d) (λ ek. subst (λ (y : ℕ). Ends t e (target t e i y)) (sym ek) last) (λ ne. all k (omega arith))))
        (next (target t e i d) (nth_refers t e i d h)))
        (each d (omega arith))

    here : Circle t e ⊎ Ends t e i
    here =
        ⊎_elim (λ c. inl c)
        (λ all. inr (ends (λ j r. let q = nth_of t e i r in subst (λ (y : ℕ). Ends t e y) q.there (all q.nth q.below))))
        (each (degree t i) (omega arith))

  find : (w : ℕ) → Found w
  find zero =
      record { look = λ cs i hi hz hw p. absurd (omega (arith, white_set cs i 1 (omega (arith, p.long)) hz (λ q. omega arith))) }
  find (suc w) = let less = find w in record { look = λ cs i hi hz hw p. here w less cs i hi hz hw p }

  from_none : (i : ℕ) → i < length t → Circle t e ⊎ Ends t e i
  from_none i hi =
      let cs = zeros (length t) in
      (find (white cs)).look cs i hi (get_or_zeros (length t) i) (omega arith)
      (record { long = omega (arith, length_zeros (length t)); on = λ x nz. absurd (nz (get_or_zeros (length t) x)) })

  all_below : (n : ℕ) → n ≤ length t → Circle t e ⊎ ((i : ℕ) → i < n → Ends t e i)
  all_below zero h = inr (λ i l. absurd (omega arith))
  all_below (suc n) h =
      ⊎_elim (λ c. inl c)
      (λ all. ⊎_elim (λ c. inl c)
      (λ last. inr (λ i l. by_cases (ℕ_discrete i n) (λ ei. subst (λ (y : ℕ). Ends t e y) (sym ei) last) (λ ne. all i (omega arith))))
      (from_none n h))
      (all_below n (omega arith))

  pub circle_or_ends : Circle t e ⊎ ((i : ℕ) → i < length t → Ends t e i)
  circle_or_ends = all_below (length t) (omega arith)

  pub circle? : Dec (Circle t e)
  circle? = ⊎_elim (λ c. yes c) (λ all. no (λ c. no_way_back t e (all c.node c.inside) c.back)) circle_or_ends

  -- with no circle everything comes to an end
  pub all_end : (Circle t e → ⊥) → (i : ℕ) → i < length t → Ends t e i
  all_end nc i h = ⊎_elim (λ c. absurd (nc c)) (λ all. all i h) circle_or_ends
