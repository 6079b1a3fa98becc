-- Into fewer places than there are numbers no map goes without meeting itself; turns of a search stand at different slots.
use Rattle.std.proofs.Common.{◌≡◌, ℕ, zero, suc, ◌+◌, ◌*◌, ◌/◌, ◌%◌, ◌<◌, ◌≤◌, Bool, true, false, eqb, ltb, ◌⊎◌, sym, refl, ap, ◌∙◌, inl, inr, ⊎_elim, mul-le-mul_right, suc-mul, div-add-mod', arith, ltb-false, ltb-true, eq-eqb, ne_eqb, eqb-true}
use borrow.Author.Tests.{eqb-false}
use Rattle.memo.specs.Entries.{pick}
use Rattle.memo.specs.Index.{place}

pub equal? : (a b : ℕ) → (a ≡ b) ⊎ (a ≡ b → ⊥)
equal? a b = go (eqb a b) refl
  where
    go : (t : Bool) → eqb a b ≡ t → (a ≡ b) ⊎ (a ≡ b → ⊥)
    go true e = inl (eqb-true a b e)
    go false e = inr (eqb-false a b e)

pub less? : (a b : ℕ) → (a < b) ⊎ (b ≤ a)
less? a b = go (ltb a b) refl
  where
    go : (t : Bool) → ltb a b ≡ t → (a < b) ⊎ (b ≤ a)
    go true e = inl (ltb-true a b e)
    go false e = inr (ltb-false a b e)

-- x, with y in the place of m
moved : ℕ → ℕ → ℕ → ℕ
moved m y x = pick (eqb x m) y x

moved_hit : (m y x : ℕ) → x ≡ m → moved m y x ≡ y
unfolding moved
moved_hit m y x e = rw (eq-eqb x m e)

moved_miss : (m y x : ℕ) → (x ≡ m → ⊥) → moved m y x ≡ x
unfolding moved
moved_miss m y x e = rw (ne_eqb x m e)

pub pigeon : (n m : ℕ) (f : ℕ → ℕ) → ((i : ℕ) → i < n → f i < m)
    → ((i j : ℕ) → i < n → j < n → f i ≡ f j → i ≡ j) → n ≤ m
pigeon zero m f b u = omega arith
pigeon (suc n) zero f b u = absurd (omega (arith, b 0 (omega arith)))
pigeon (suc n) (suc m) f b u = omega (arith, pigeon n m g gb gu)
  where
    g : ℕ → ℕ
    g i = moved m (f n) (f i)

    last : (i : ℕ) → i < n → f i ≡ f n → ⊥
    last i h e = omega (arith, u i n (omega arith) (omega arith) e)

    gb : (i : ℕ) → i < n → g i < m
    gb i h =
        ⊎_elim (λ e. let w : f n ≡ m → ⊥ = λ w. last i h (e ∙ sym w) in omega (arith, moved_hit m (f n) (f i) e, b n (omega arith)))
        (λ e. omega (arith, moved_miss m (f n) (f i) e, b i (omega arith))) (equal? (f i) m)

    gu : (i j : ℕ) → i < n → j < n → g i ≡ g j → i ≡ j
    gu i j hi hj q =
        ⊎_elim
        (λ e. ⊎_elim (λ w. u i j (omega arith) (omega arith) (e ∙ sym w))
        (λ w. absurd (last j hj (sym (moved_miss m (f n) (f j) w) ∙ sym q ∙ moved_hit m (f n) (f i) e))) (equal? (f j) m))
        (λ e. ⊎_elim (λ w. absurd (last i hi (sym (moved_miss m (f n) (f i) e) ∙ q ∙ moved_hit m (f n) (f j) w)))
        (λ w. u i j (omega arith) (omega arith) (sym (moved_miss m (f n) (f i) e) ∙ q ∙ moved_miss m (f n) (f j) w)) (equal? (f j) m))
        (equal? (f i) m)

apart : (m q r : ℕ) → q < r → q * m + m ≤ r * m
apart m q r h = omega (arith, suc-mul q m, mul-le-mul_right {m = suc q} {n = r} m h)

turns : (a i j m : ℕ) → i < m → j < m → (a + i) % m ≡ (a + j) % m → i ≡ j
turns a i j m hi hj e =
    let q = (a + i) / m in
    let r = (a + j) / m in
    let x = div-add-mod' (a + i) m in
    let y = div-add-mod' (a + j) m in
    ⊎_elim (λ h. omega (arith, apart m q r h))
    (λ h. ⊎_elim (λ g. omega (arith, apart m r q g))
    (λ g. let z : q ≡ r = omega arith in omega (arith, ap (λ w. w * m) z)) (less? r q)) (less? q r)

pub place_single : (h i j m : ℕ) → i < m → j < m → place h i m ≡ place h j m → i ≡ j
unfolding place
place_single h i j m hi hj e = turns (h % m) i j m hi hj e
