-- Strings at the boundaries of the grammar's rows, on either side, and characters cut short.
use Rattle.std.specs.Prelude.{◌≡◌, refl, Bool, true, false, cond, not, List, [], ◌∷◌, ℕ}
use Rattle.std.proofs.lemmas.Bool.{false≢true}
use Rattle.file_utf8.specs.Utf8.{Utf8}
use Rattle.file_utf8.specs.Bytewise.{well}
use Rattle.file_utf8.proofs.Rows.{utf8_well}
use Rattle.file_utf8.specs.Cases.{Each, none, also, tested}

both : (a b : Bool) → cond a b false ≡ true → (a ≡ true) × (b ≡ true)
both true b e = (refl, e)
both false b e = absurd (false≢true e)

not_well : (b : Bool) → not b ≡ true → b ≡ true → ⊥
not_well true e f = false≢true e
not_well false e f = false≢true f

each_right : (ss : List (List ℕ)) → tested true ss ≡ true → Each Utf8 ss
unfolding tested
each_right [] e = none
each_right (s ∷ ss) e = let q = both (well s) (tested true ss) e in also ((utf8_well s).1 q.0) (each_right ss q.1)

each_ill : (ss : List (List ℕ)) → tested false ss ≡ true → Each (λ s. Utf8 s → ⊥) ss
unfolding tested
each_ill [] e = none
each_ill (s ∷ ss) e = let q = both (not (well s)) (tested false ss) e in also (λ u. not_well (well s) q.0 ((utf8_well s).0 u)) (each_ill ss q.1)

-- in hexadecimal: none; 00; 7f; c2 80; df bf; e0 a0 80; ed 9f bf; ee 80 80; ef bf bf; f0 90 80 80; f4 8f bf bf
pub right_ones :
    Each Utf8
    ([]
    ∷ (0 ∷ [])
    ∷ (127 ∷ [])
    ∷ (194 ∷ 128 ∷ [])
    ∷ (223 ∷ 191 ∷ [])
    ∷ (224 ∷ 160 ∷ 128 ∷ [])
    ∷ (237 ∷ 159 ∷ 191 ∷ [])
    ∷ (238 ∷ 128 ∷ 128 ∷ [])
    ∷ (239 ∷ 191 ∷ 191 ∷ [])
    ∷ (240 ∷ 144 ∷ 128 ∷ 128 ∷ [])
    ∷ (244 ∷ 143 ∷ 191 ∷ 191 ∷ [])
    ∷ [])
unfolding tested
right_ones = each_right _ refl

-- 80; bf; c0 80; c1 bf; c2; c2 41; e0 9f bf; ed a0 80; ed bf bf; e2 82; e2 0a; f0 8f bf bf; f4 90 80 80; f5 80 80 80; f0 9f 98; ff
pub ill_ones :
    Each (λ s. Utf8 s → ⊥)
    ((128 ∷ [])
    ∷ (191 ∷ [])
    ∷ (192 ∷ 128 ∷ [])
    ∷ (193 ∷ 191 ∷ [])
    ∷ (194 ∷ [])
    ∷ (194 ∷ 65 ∷ [])
    ∷ (224 ∷ 159 ∷ 191 ∷ [])
    ∷ (237 ∷ 160 ∷ 128 ∷ [])
    ∷ (237 ∷ 191 ∷ 191 ∷ [])
    ∷ (226 ∷ 130 ∷ [])
    ∷ (226 ∷ 10 ∷ [])
    ∷ (240 ∷ 143 ∷ 191 ∷ 191 ∷ [])
    ∷ (244 ∷ 144 ∷ 128 ∷ 128 ∷ [])
    ∷ (245 ∷ 128 ∷ 128 ∷ 128 ∷ [])
    ∷ (240 ∷ 159 ∷ 152 ∷ [])
    ∷ (255 ∷ [])
    ∷ [])
unfolding tested
ill_ones = each_ill _ refl
