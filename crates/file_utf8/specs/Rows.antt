-- The byte-by-byte test is the RFC's grammar, so the grammar can be decided.
use Rattle.std.specs.Prelude.{◌≡◌, false, List, ◌∷◌, ℕ, zero, suc, ◌≤◌, ◌<◌}
use Rattle.std.proofs.Common.{◌∙◌, arith, lt-ltb, le-ltb, eq-eqb, ne_eqb}
use Rattle.std.proofs.Math.Logic.{by_cases}
use Rattle.std.proofs.Math.Decide.{dec_lt}
use Rattle.file_utf8.specs.Utf8.{Between}
use Rattle.file_utf8.specs.Bytewise.{more, low, high, rest, well}

-- ---- the numbers of a first byte

pub more_none : (a : ℕ) → a < 194 → more a ≡ 0
unfolding more
more_none a h = rw (lt-ltb a 194 h)

pub more_one : (a : ℕ) → 194 ≤ a → a < 224 → more a ≡ 1
unfolding more
more_one a h k = rw (le-ltb a 194 h, lt-ltb a 224 k)

pub more_two : (a : ℕ) → 224 ≤ a → a < 240 → more a ≡ 2
unfolding more
more_two a h k = rw (le-ltb a 194 (omega arith), le-ltb a 224 h, lt-ltb a 240 k)

pub more_three : (a : ℕ) → 240 ≤ a → a < 245 → more a ≡ 3
unfolding more
more_three a h k = rw (le-ltb a 194 (omega arith), le-ltb a 224 (omega arith), le-ltb a 240 h, lt-ltb a 245 k)

pub more_past : (a : ℕ) → 245 ≤ a → more a ≡ 0
unfolding more
more_past a h = rw (le-ltb a 194 (omega arith), le-ltb a 224 (omega arith), le-ltb a 240 (omega arith), le-ltb a 245 h)

pub low_e0 : (a : ℕ) → a ≡ 224 → low a ≡ 160
unfolding low
low_e0 a e = rw e

pub low_f0 : (a : ℕ) → a ≡ 240 → low a ≡ 144
unfolding low
low_f0 a e = rw e

pub low_else : (a : ℕ) → (a ≡ 224 → ⊥) → (a ≡ 240 → ⊥) → low a ≡ 128
unfolding low
low_else a m n = rw (ne_eqb a 224 m, ne_eqb a 240 n)

pub high_ed : (a : ℕ) → a ≡ 237 → high a ≡ 159
unfolding high
high_ed a e = rw e

pub high_f4 : (a : ℕ) → a ≡ 244 → high a ≡ 143
unfolding high
high_f4 a e = rw e

pub high_else : (a : ℕ) → (a ≡ 237 → ⊥) → (a ≡ 244 → ⊥) → high a ≡ 191
unfolding high
high_else a m n = rw (ne_eqb a 237 m, ne_eqb a 244 n)

-- ---- what the test makes of one byte

pub rest_ascii : (l h a : ℕ) (s : List ℕ) → a < 128 → rest zero l h (a ∷ s) ≡ well s
unfolding rest
rest_ascii l h a s p = rw (lt-ltb a 128 p)

pub rest_none : (l h a : ℕ) (s : List ℕ) → 128 ≤ a → more a ≡ 0 → rest zero l h (a ∷ s) ≡ false
unfolding rest
rest_none l h a s p e = rw (le-ltb a 128 p, eq-eqb (more a) 0 e)

pub rest_first : (l h a : ℕ) (s : List ℕ) → 128 ≤ a → (more a ≡ 0 → ⊥) → rest zero l h (a ∷ s) ≡ rest (more a) (low a) (high a) s
unfolding rest
rest_first l h a s p n = rw (le-ltb a 128 p, ne_eqb (more a) 0 n)

pub rest_low : (n l h b : ℕ) (s : List ℕ) → b < l → rest (suc n) l h (b ∷ s) ≡ false
unfolding rest
rest_low n l h b s p = rw (lt-ltb b l p)

pub rest_high : (n l h b : ℕ) (s : List ℕ) → l ≤ b → h < b → rest (suc n) l h (b ∷ s) ≡ false
unfolding rest
rest_high n l h b s p q = rw (le-ltb b l p, lt-ltb h b q)

pub rest_next : (n l h b : ℕ) (s : List ℕ) → l ≤ b → b ≤ h → rest (suc n) l h (b ∷ s) ≡ rest n 128 191 s
unfolding rest
rest_next n l h b s p q = rw (le-ltb b l p, le-ltb h b q)

-- ---- the rows of the grammar by their first byte

-- a is a first byte, behind which come n more bytes and before them one from i to j
pub record Lead (a n i j : ℕ) : Type 0 where
  pub past : 128 ≤ a
  pub more_is : more a ≡ suc n
  pub low_is : low a ≡ i
  pub high_is : high a ≡ j

pub lead_two : {a : ℕ} → Between 194 223 a → Lead a 0 128 191
lead_two {a = a} p =
    record { past = omega arith; more_is = more_one a p.least (omega arith); low_is = low_else a (λ e. omega arith) (λ e. omega arith); high_is = high_else a (λ e. omega arith) (λ e. omega arith) }

pub lead_e0 : {a : ℕ} → Between 224 224 a → Lead a 1 160 191
lead_e0 {a = a} p =
    record { past = omega arith; more_is = more_two a p.least (omega arith); low_is = low_e0 a (omega arith); high_is = high_else a (λ e. omega arith) (λ e. omega arith) }

pub lead_e1 : {a : ℕ} → Between 225 236 a → Lead a 1 128 191
lead_e1 {a = a} p =
    record { past = omega arith; more_is = more_two a (omega arith) (omega arith); low_is = low_else a (λ e. omega arith) (λ e. omega arith); high_is = high_else a (λ e. omega arith) (λ e. omega arith) }

pub lead_ee : {a : ℕ} → Between 238 239 a → Lead a 1 128 191
lead_ee {a = a} p =
    record { past = omega arith; more_is = more_two a (omega arith) (omega arith); low_is = low_else a (λ e. omega arith) (λ e. omega arith); high_is = high_else a (λ e. omega arith) (λ e. omega arith) }

pub lead_f0 : {a : ℕ} → Between 240 240 a → Lead a 2 144 191
lead_f0 {a = a} p =
    record { past = omega arith; more_is = more_three a p.least (omega arith); low_is = low_f0 a (omega arith); high_is = high_else a (λ e. omega arith) (λ e. omega arith) }

pub lead_f1 : {a : ℕ} → Between 241 243 a → Lead a 2 128 191
lead_f1 {a = a} p =
    record { past = omega arith; more_is = more_three a (omega arith) (omega arith); low_is = low_else a (λ e. omega arith) (λ e. omega arith); high_is = high_else a (λ e. omega arith) (λ e. omega arith) }

pub lead_f4 : {a : ℕ} → Between 244 244 a → Lead a 2 128 143
lead_f4 {a = a} p =
    record { past = omega arith; more_is = more_three a (omega arith) (omega arith); low_is = low_else a (λ e. omega arith) (λ e. omega arith); high_is = high_f4 a (omega arith) }

pub leads : {a n i j : ℕ} (l h : ℕ) (s : List ℕ) → Lead a n i j → rest zero l h (a ∷ s) ≡ rest (suc n) i j s
leads {a = a} l h s z = rest_first l h a s z.past (λ e. omega (arith, z.more_is)) ∙ rw (z.more_is, z.low_is, z.high_is)

-- which row a byte above 127 begins, or that it begins none
pub data First (a : ℕ) : Type 0 where
  as_two : Between 194 223 a → First a
  as_e0 : Between 224 224 a → First a
  as_e1 : Between 225 236 a → First a
  as_ed : Between 237 237 a → First a
  as_ee : Between 238 239 a → First a
  as_f0 : Between 240 240 a → First a
  as_f1 : Between 241 243 a → First a
  as_f4 : Between 244 244 a → First a
  as_none : more a ≡ 0 → First a

pub first_of : (a : ℕ) → First a
first_of a =
    by_cases (dec_lt a 194) (λ x. as_none (more_none a x))
    (λ x₁. by_cases (dec_lt a 224) (λ x. as_two (record { least = omega (arith, x₁); most = omega (arith, x) }))
    (λ x₂. by_cases (dec_lt a 225) (λ x. as_e0 (record { least = omega (arith, x₂); most = omega (arith, x) }))
    (λ x₃. by_cases (dec_lt a 237) (λ x. as_e1 (record { least = omega (arith, x₃); most = omega (arith, x) }))
    (λ x₄. by_cases (dec_lt a 238) (λ x. as_ed (record { least = omega (arith, x₄); most = omega (arith, x) }))
    (λ x₅. by_cases (dec_lt a 240) (λ x. as_ee (record { least = omega (arith, x₅); most = omega (arith, x) }))
    (λ x₆. by_cases (dec_lt a 241) (λ x. as_f0 (record { least = omega (arith, x₆); most = omega (arith, x) }))
    (λ x₇. by_cases (dec_lt a 244) (λ x. as_f1 (record { least = omega (arith, x₇); most = omega (arith, x) }))
    (λ x₈. by_cases (dec_lt a 245) (λ x. as_f4 (record { least = omega (arith, x₈); most = omega (arith, x) }))
    (λ x₉. as_none (more_past a (omega (arith, x₉))))))))))))
