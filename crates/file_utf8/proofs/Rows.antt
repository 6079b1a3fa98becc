-- The byte-by-byte test is the RFC's grammar, so the grammar can be decided.
use Rattle.std.specs.Prelude.{◌≡◌, refl, true, ◌↔◌, List, [], ◌∷◌, ℕ, zero, suc, ◌≤◌}
use Rattle.std.proofs.Common.{sym, ◌∙◌, true≢false, arith}
use Rattle.std.proofs.lemmas.Bool.{false≢true}
use Rattle.std.proofs.Math.Logic.{by_cases}
use Rattle.std.proofs.Math.Decide.{dec_lt}
use Rattle.file_utf8.specs.Tells.{tell_iff, told_dec}
use Rattle.file_utf8.specs.Utf8.{Between, Tail, Utf8, nothing, one, two, three_e0, three_e1, three_ed, three_ee, four_f0, four_f1, four_f4}
use Rattle.file_utf8.specs.Bytewise.{rest, well}
use Rattle.file_utf8.specs.Rows.{more_two, low_else, high_ed, rest_ascii, rest_none, rest_low, rest_high, rest_next, Lead, lead_two, lead_e0, lead_e1, lead_ee, lead_f0, lead_f1, lead_f4, leads, First, as_two, as_e0, as_e1, as_ed, as_ee, as_f0, as_f1, as_f4, as_none, first_of}

-- ---- the rows of the grammar by their first byte

lead_ed : {a : ℕ} → Between 237 237 a → Lead a 1 128 159
lead_ed {a = a} p =
    record { past = omega arith; more_is = more_two a (omega arith) (omega arith); low_is = low_else a (λ e. omega arith) (λ e. omega arith); high_is = high_ed a (omega arith) }

-- ---- what the grammar allows passes the test

record Passes (n i j : ℕ) (s : List ℕ) : Type 0 where
  yes : rest n i j s ≡ true

leading : {a n i j l h : ℕ} {s : List ℕ} → Lead a n i j → Passes (suc n) i j s → Passes zero l h (a ∷ s)
leading {l = l} {h = h} {s = s} z e = record { yes = leads l h s z ∙ e.yes }

further : {n i j b : ℕ} {s : List ℕ} → Between i j b → Passes n 128 191 s → Passes (suc n) i j (b ∷ s)
further {n = n} {i = i} {j = j} {b = b} {s = s} p e = record { yes = rest_next n i j b s p.least p.most ∙ e.yes }

allowed : {s : List ℕ} → Utf8 s → Passes zero 128 191 s
unfolding rest
allowed nothing = record { yes = refl }
allowed (one {a = a} {s = s} p u) = record { yes = rest_ascii 128 191 a s (omega arith) ∙ (allowed u).yes }
allowed (two p q u) = leading (lead_two p) (further q (allowed u))
allowed (three_e0 p q t u) = leading (lead_e0 p) (further q (further t (allowed u)))
allowed (three_e1 p q t u) = leading (lead_e1 p) (further q (further t (allowed u)))
allowed (three_ed p q t u) = leading (lead_ed p) (further q (further t (allowed u)))
allowed (three_ee p q t u) = leading (lead_ee p) (further q (further t (allowed u)))
allowed (four_f0 p q t v u) = leading (lead_f0 p) (further q (further t (further v (allowed u))))
allowed (four_f1 p q t v u) = leading (lead_f1 p) (further q (further t (further v (allowed u))))
allowed (four_f4 p q t v u) = leading (lead_f4 p) (further q (further t (further v (allowed u))))

-- ---- what passes the test the grammar allows

-- n more bytes, the next from i to j, and then what the grammar allows
data Goes : ℕ → ℕ → ℕ → List ℕ → Type 0 where
  whole : {i j : ℕ} {s : List ℕ} → Utf8 s → Goes zero i j s
  further_on : {n i j b : ℕ} {s : List ℕ} → Between i j b → Goes n 128 191 s → Goes (suc n) i j (b ∷ s)

whole_is : {i j : ℕ} {s : List ℕ} → Goes zero i j s → Utf8 s
whole_is (whole u) = u

by_two : {a i j : ℕ} {s : List ℕ} → ((b : ℕ) (s₁ : List ℕ) → Between i j b → Utf8 s₁ → Utf8 (a ∷ b ∷ s₁)) → Goes (suc zero) i j s → Utf8 (a ∷ s)
by_two f (further_on q (whole u)) = f _ _ q u

by_three : {a i j : ℕ} {s : List ℕ} → ((b c : ℕ) (s₁ : List ℕ) → Between i j b → Tail c → Utf8 s₁ → Utf8 (a ∷ b ∷ c ∷ s₁)) → Goes (suc (suc zero)) i j s → Utf8 (a ∷ s)
by_three f (further_on q (further_on t (whole u))) = f _ _ _ q t u

by_four : {a i j : ℕ} {s : List ℕ} → ((b c d : ℕ) (s₁ : List ℕ) → Between i j b → Tail c → Tail d → Utf8 s₁ → Utf8 (a ∷ b ∷ c ∷ d ∷ s₁)) → Goes (suc (suc (suc zero))) i j s → Utf8 (a ∷ s)
by_four f (further_on q (further_on t (further_on v (whole u)))) = f _ _ _ _ q t v u

module _ (l h a : ℕ) (s : List ℕ) (k : 128 ≤ a) (e : rest zero l h (a ∷ s) ≡ true) (go : (n i j : ℕ) → rest n i j s ≡ true → Goes n i j s) where
  led : {n i j : ℕ} → Lead a n i j → Goes (suc n) i j s
  led {n = n} {i = i} {j = j} z = go (suc n) i j (sym (leads l h s z) ∙ e)

  row : First a → Utf8 (a ∷ s)
  row (as_two p) = by_two (λ b s₁. two p) (led (lead_two p))
  row (as_e0 p) = by_three (λ b c s₁. three_e0 p) (led (lead_e0 p))
  row (as_e1 p) = by_three (λ b c s₁. three_e1 p) (led (lead_e1 p))
  row (as_ed p) = by_three (λ b c s₁. three_ed p) (led (lead_ed p))
  row (as_ee p) = by_three (λ b c s₁. three_ee p) (led (lead_ee p))
  row (as_f0 p) = by_four (λ b c d s₁. four_f0 p) (led (lead_f0 p))
  row (as_f1 p) = by_four (λ b c d s₁. four_f1 p) (led (lead_f1 p))
  row (as_f4 p) = by_four (λ b c d s₁. four_f4 p) (led (lead_f4 p))
  row (as_none m) = absurd (true≢false (sym e ∙ rest_none l h a s k m))

goes : (s : List ℕ) (n i j : ℕ) → rest n i j s ≡ true → Goes n i j s
unfolding rest
goes [] zero i j e = whole nothing
goes [] (suc n) i j e = absurd (false≢true e)
goes (a ∷ s) zero i j e =
    by_cases (dec_lt a 128) (λ p. whole (one (record { least = omega arith; most = omega (arith, p) }) (whole_is (goes s zero 128 191 (sym (rest_ascii i j a s p) ∙ e)))))
    (λ p. whole (row i j a s (omega (arith, p)) e (goes s) (first_of a)))
goes (b ∷ s) (suc n) i j e =
    by_cases (dec_lt b i) (λ p. absurd (true≢false (sym e ∙ rest_low n i j b s p)))
    (λ p. by_cases (dec_lt j b) (λ q. absurd (true≢false (sym e ∙ rest_high n i j b s (omega (arith, p)) q)))
    (λ q. further_on (record { least = omega (arith, p); most = omega (arith, q) }) (goes s n 128 191 (sym (rest_next n i j b s (omega (arith, p)) (omega (arith, q))) ∙ e))))

-- ---- so they are the same

pub utf8_well : (s : List ℕ) → Utf8 s ↔ (well s ≡ true)
utf8_well s = (λ u. (allowed u).yes, λ e. whole_is (goes s zero 128 191 e))

pub utf8? : (s : List ℕ) → Dec (Utf8 s)
utf8? s = told_dec (well s) (tell_iff (well s) (utf8_well s))
