-- Words that are read and written again are as they were, and an answer's words have its counts.
use Rattle.std.specs.Prelude.{◌≡◌, Ok, Err, refl, List, [], ℕ, zero, suc, ◌+◌, ◌-◌, ◌<◌, length, get_or}
use Rattle.std.proofs.Common.{sym, ap, ◌∙◌, arith, ext_get_or}
use Rattle.std.proofs.Math.Logic.{by_cases}
use Rattle.std.proofs.Math.Decide.{dec_lt}
use Rattle.render.specs.Rendered.{Rendered, counts_of}
use Rattle.call_words.specs.Words.{count_words, words}
use Rattle.call_words.specs.Accounts.{eight, desks_at, desk_words, counts_from}

eight_at : (f : ℕ → ℕ) (rest : List ℕ) (i : ℕ) → i < 8 → get_or (eight f rest) i 0 ≡ f i
eight_at f rest zero h = refl
eight_at f rest (suc zero) h = refl
eight_at f rest (suc (suc zero)) h = refl
eight_at f rest (suc (suc (suc zero))) h = refl
eight_at f rest (suc (suc (suc (suc zero)))) h = refl
eight_at f rest (suc (suc (suc (suc (suc zero))))) h = refl
eight_at f rest (suc (suc (suc (suc (suc (suc zero)))))) h = refl
eight_at f rest (suc (suc (suc (suc (suc (suc (suc zero))))))) h = refl
eight_at f rest (suc (suc (suc (suc (suc (suc (suc (suc i)))))))) h = absurd (omega (arith, h))

-- the words from 8 on
eight_past : (f : ℕ → ℕ) (rest : List ℕ) (i : ℕ) → get_or (eight f rest) (8 + i) 0 ≡ get_or rest i 0
eight_past f rest i = let e : 8 + i ≡ suc (suc (suc (suc (suc (suc (suc (suc i))))))) = omega arith in ap (λ (n : ℕ). get_or (eight f rest) n 0) e

pub desks_again : (w : List ℕ) → length w ≡ 16 → desk_words (desks_at w) ≡ w
desks_again w n = ext_get_or 0 (desk_words (desks_at w)) w (sym n) (λ i h. by_cases (dec_lt i 8) (low i) (λ g. high i h g))
  where
    low : (i : ℕ) → i < 8 → get_or (desk_words (desks_at w)) i 0 ≡ get_or w i 0
    low i h = eight_at (λ j. get_or (desks_at w).allowance j 0) (eight (λ j. get_or (desks_at w).spent j 0) []) i h ∙ eight_at (λ j. get_or w j 0) [] i h

    high : (i : ℕ) → i < 16 → (i < 8 → ⊥) → get_or (desk_words (desks_at w)) i 0 ≡ get_or w i 0
    high i h g =
        let e : 8 + (i - 8) ≡ i = omega (arith, g) in
        ap (λ (n : ℕ). get_or (desk_words (desks_at w)) n 0) (sym e)
        ∙ eight_past (λ j. get_or (desks_at w).allowance j 0) (eight (λ j. get_or (desks_at w).spent j 0) []) (i - 8)
        ∙ eight_at (λ j. get_or (desks_at w).spent j 0) [] (i - 8) (omega (arith, h))
        ∙ eight_at (λ j. get_or w (8 + j) 0) [] (i - 8) (omega (arith, h))
        ∙ ap (λ (n : ℕ). get_or w n 0) e

pub counts_again : (w : List ℕ) → length w ≡ 10 → count_words (counts_from 0 w) [] ≡ w
counts_again w n = ext_get_or 0 (count_words (counts_from 0 w) []) w (sym n) at
  where
    at : (i : ℕ) → i < 10 → get_or (count_words (counts_from 0 w) []) i 0 ≡ get_or w i 0
    at zero h = refl
    at (suc zero) h = refl
    at (suc (suc zero)) h = refl
    at (suc (suc (suc zero))) h = refl
    at (suc (suc (suc (suc zero)))) h = refl
    at (suc (suc (suc (suc (suc zero))))) h = refl
    at (suc (suc (suc (suc (suc (suc zero)))))) h = refl
    at (suc (suc (suc (suc (suc (suc (suc zero))))))) h = refl
    at (suc (suc (suc (suc (suc (suc (suc (suc zero)))))))) h = refl
    at (suc (suc (suc (suc (suc (suc (suc (suc (suc zero))))))))) h = refl
    at (suc (suc (suc (suc (suc (suc (suc (suc (suc (suc i)))))))))) h = absurd (omega (arith, h))

pub counts_told : (a : Rendered) → counts_from 7 (words a) ≡ counts_of a
counts_told (Ok p) = refl
counts_told (Err e) = refl
