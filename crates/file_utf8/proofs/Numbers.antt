-- That the grammar allows just what RFC 3629, section 3, spells.
use Rattle.std.specs.Prelude.{◌≡◌, ◌↔◌, List, ◌∷◌, ℕ, ◌+◌, ◌-◌, ◌*◌, ◌≤◌, ◌<◌}
use Rattle.std.proofs.Common.{subst, arith}
use Rattle.std.proofs.Math.Logic.{by_cases}
use Rattle.std.proofs.Math.Decide.{dec_lt}
use Rattle.file_utf8.specs.Utf8.{Between, Tail, Utf8, three_e0, three_e1, three_ed, three_ee, four_f0, four_f1, four_f4}
use Rattle.file_utf8.specs.Utf8.{nothing as no_bytes}
use Rattle.file_utf8.specs.Utf8.{one as by_one}
use Rattle.file_utf8.specs.Utf8.{two as by_two}
use Rattle.file_utf8.specs.Numbers.{Six, Surrogate, Spelled, nothing, one, two, three, four}

-- ---- what is spelled the grammar allows

six_tail : {y : ℕ} → Six y → Tail (128 + y)
six_tail p = record { least = omega arith; most = omega arith }

three_row : (x y z : ℕ) {s : List ℕ} → Six y → Six z → Between 2048 65535 (4096 * x + 64 * y + z) → (Surrogate (4096 * x + 64 * y + z) → ⊥) → Utf8 s → Utf8 ((224 + x) ∷ (128 + y) ∷ (128 + z) ∷ s)
three_row x y z p q r n u =
    let t = six_tail q in
    by_cases (dec_lt x 1) (λ h. three_e0 (record { least = omega arith; most = omega (arith, h) }) (record { least = omega (arith, h, q.most, r.least); most = omega arith }) t u)
    (λ h₁. by_cases (dec_lt x 13) (λ h. three_e1 (record { least = omega (arith, h₁); most = omega (arith, h) }) (six_tail p) t u)
    (λ h₂. by_cases (dec_lt x 14) (λ h. three_ed (record { least = omega (arith, h₂); most = omega (arith, h) }) (record { least = omega arith; most = no_more h₂ h }) t u)
    (λ h₃. three_ee (record { least = omega (arith, h₃); most = omega arith }) (six_tail p) t u)))
  where
    no_more : (x < 13 → ⊥) → x < 14 → 128 + y ≤ 159
    no_more h k = by_cases (dec_lt y 32) (λ l. omega (arith, l)) (λ l. absurd (n (record { least = omega (arith, h, l); most = omega (arith, k, p.most, q.most) })))

four_row : (x y z w : ℕ) {s : List ℕ} → Six y → Six z → Six w → Between 65536 1114111 (262144 * x + 4096 * y + 64 * z + w) → Utf8 s → Utf8 ((240 + x) ∷ (128 + y) ∷ (128 + z) ∷ (128 + w) ∷ s)
four_row x y z w p q v r u =
    let t = six_tail q in let t₁ = six_tail v in
    by_cases (dec_lt x 1) (λ h. four_f0 (record { least = omega arith; most = omega (arith, h) }) (record { least = omega (arith, h, q.most, v.most, r.least); most = omega arith }) t t₁ u)
    (λ h₁. by_cases (dec_lt x 4) (λ h. four_f1 (record { least = omega (arith, h₁); most = omega (arith, h) }) (six_tail p) t t₁ u)
    (λ h₂. four_f4 (record { least = omega (arith, h₂); most = omega arith }) (record { least = omega arith; most = omega (arith, h₂, r.most) }) t t₁ u))

allowed : {s : List ℕ} → Spelled s → Utf8 s
allowed nothing = no_bytes
allowed (one p u) = by_one p (allowed u)
allowed (two x y p r u) = by_two {a = 192 + x} (record { least = omega arith; most = omega arith }) (six_tail p) (allowed u)
allowed (three x y z p q r n u) = three_row x y z p q r n (allowed u)
allowed (four x y z w p q v r u) = four_row x y z w p q v r (allowed u)

-- ---- what the grammar allows is spelled

back : (n b : ℕ) → n ≤ b → n + (b - n) ≡ b
back n b h = omega (arith, h)

tail_six : {b : ℕ} → Tail b → Six (b - 128)
tail_six t = record { least = omega arith; most = omega arith }

-- bytes of three, by their numbers
threes : {a b c : ℕ} {s : List ℕ} → Between 224 239 a → Tail b → Tail c → Between 2048 65535 (4096 * (a - 224) + 64 * (b - 128) + (c - 128)) → (Surrogate (4096 * (a - 224) + 64 * (b - 128) + (c - 128)) → ⊥) → Spelled s → Spelled (a ∷ b ∷ c ∷ s)
threes {a = a} {b = b} {c = c} {s = s} p q t r n u =
    subst (λ (i : ℕ). Spelled (i ∷ b ∷ c ∷ s)) (back 224 a p.least)
    (subst (λ (i : ℕ). Spelled ((224 + (a - 224)) ∷ i ∷ c ∷ s)) (back 128 b q.least)
    (subst (λ (i : ℕ). Spelled ((224 + (a - 224)) ∷ (128 + (b - 128)) ∷ i ∷ s)) (back 128 c t.least)
    (three (a - 224) (b - 128) (c - 128) (tail_six q) (tail_six t) r n u)))

fours : {a b c d : ℕ} {s : List ℕ} → Between 240 244 a → Tail b → Tail c → Tail d → Between 65536 1114111 (262144 * (a - 240) + 4096 * (b - 128) + 64 * (c - 128) + (d - 128)) → Spelled s → Spelled (a ∷ b ∷ c ∷ d ∷ s)
fours {a = a} {b = b} {c = c} {d = d} {s = s} p q t v r u =
    subst (λ (i : ℕ). Spelled (i ∷ b ∷ c ∷ d ∷ s)) (back 240 a p.least)
    (subst (λ (i : ℕ). Spelled ((240 + (a - 240)) ∷ i ∷ c ∷ d ∷ s)) (back 128 b q.least)
    (subst (λ (i : ℕ). Spelled ((240 + (a - 240)) ∷ (128 + (b - 128)) ∷ i ∷ d ∷ s)) (back 128 c t.least)
    (subst (λ (i : ℕ). Spelled ((240 + (a - 240)) ∷ (128 + (b - 128)) ∷ (128 + (c - 128)) ∷ i ∷ s)) (back 128 d v.least)
    (four (a - 240) (b - 128) (c - 128) (d - 128) (tail_six q) (tail_six t) (tail_six v) r u))))

twos : {a b : ℕ} {s : List ℕ} → Between 194 223 a → Tail b → Spelled s → Spelled (a ∷ b ∷ s)
twos {a = a} {b = b} {s = s} p q u =
    subst (λ (i : ℕ). Spelled (i ∷ b ∷ s)) (back 192 a (omega arith))
    (subst (λ (i : ℕ). Spelled ((192 + (a - 192)) ∷ i ∷ s)) (back 128 b q.least)
    (two (a - 192) (b - 128) (tail_six q) (record { least = omega arith; most = omega arith }) u))

narrow : {i j k l b : ℕ} → k ≤ i → j ≤ l → Between i j b → Between k l b
narrow m n p = record { least = omega (arith, m, p.least); most = omega (arith, n, p.most) }

spelled : {s : List ℕ} → Utf8 s → Spelled s
spelled no_bytes = nothing
spelled (by_one p u) = one p (spelled u)
spelled (by_two p q u) = twos p q (spelled u)
spelled (three_e0 p q t u) = threes (narrow (omega arith) (omega arith) p) (narrow (omega arith) (omega arith) q) t (record { least = omega arith; most = omega arith }) (λ g. omega arith) (spelled u)
spelled (three_e1 p q t u) = threes (narrow (omega arith) (omega arith) p) q t (record { least = omega arith; most = omega arith }) (λ g. omega arith) (spelled u)
spelled (three_ed p q t u) = threes (narrow (omega arith) (omega arith) p) (narrow (omega arith) (omega arith) q) t (record { least = omega arith; most = omega arith }) (λ g. omega arith) (spelled u)
spelled (three_ee p q t u) = threes (narrow (omega arith) (omega arith) p) q t (record { least = omega arith; most = omega arith }) (λ g. omega arith) (spelled u)
spelled (four_f0 p q t v u) = fours (narrow (omega arith) (omega arith) p) (narrow (omega arith) (omega arith) q) t v (record { least = omega arith; most = omega arith }) (spelled u)
spelled (four_f1 p q t v u) = fours (narrow (omega arith) (omega arith) p) q t v (record { least = omega arith; most = omega arith }) (spelled u)
spelled (four_f4 p q t v u) = fours (narrow (omega arith) (omega arith) p) (narrow (omega arith) (omega arith) q) t v (record { least = omega arith; most = omega arith }) (spelled u)

pub by_numbers : (s : List ℕ) → Utf8 s ↔ Spelled s
by_numbers s = (spelled, allowed)
