-- Where a document stands among the bytes of all.
use Rattle.std.specs.Prelude.{◌≡◌, refl, List, [], ◌∷◌, ◌++◌, ℕ, zero, suc, ◌+◌, ◌≤◌, ◌<◌, length, get_or, take, drop}
use Rattle.std.proofs.Common.{sym, ap, ◌∙◌, arith, take-suc, drop-drop}
use Rattle.std.proofs.Math.Seq.{take-length}
use Rattle.batch.specs.Documents.{cut, total, document}

pub total_suc : (l : List ℕ) (i : ℕ) → i < length l → total (take (i + 1) l) ≡ total (take i l) + get_or l i 0
total_suc [] i h = absurd (omega arith)
total_suc (n ∷ l) zero h = omega arith
total_suc (n ∷ l) (suc i) h = let e : suc i + 1 ≡ suc (i + 1) = omega arith in rw e (omega (arith, total_suc l i (omega arith)))

pub total_part : (l : List ℕ) (i : ℕ) → total (take i l) ≤ total l
total_part l zero = omega arith
total_part [] (suc i) = omega arith
total_part (n ∷ l) (suc i) = omega (arith, total_part l i)

pub length_cut : (files lengths : List ℕ) → length (cut files lengths) ≡ length lengths
length_cut files [] = refl
length_cut files (n ∷ l) = ap suc (length_cut (drop n files) l)

pub document_at : (files lengths : List ℕ) (i : ℕ) → i < length lengths → get_or (cut files lengths) i [] ≡ document files lengths i
document_at files [] i h = absurd (omega arith)
document_at files (n ∷ l) zero h = refl
document_at files (n ∷ l) (suc i) h = document_at (drop n files) l i (omega arith) ∙ ap (λ (r : List ℕ). take (get_or l i 0) r) (drop-drop (total (take i l)) n files)

pub documents_suc : (files lengths : List ℕ) (i : ℕ) → i < length lengths → take (i + 1) (cut files lengths) ≡ take i (cut files lengths) ++ document files lengths i ∷ []
documents_suc files lengths i h =
    let e : i + 1 ≡ suc i = omega arith in
    ap (λ (n : ℕ). take n (cut files lengths)) e ∙ take-suc (cut files lengths) i [] (omega (arith, h, length_cut files lengths))
    ∙ ap (λ (r : List ℕ). take i (cut files lengths) ++ r ∷ []) (document_at files lengths i h)

pub all_documents : (files lengths : List ℕ) → take (length lengths) (cut files lengths) ≡ cut files lengths
all_documents files lengths = ap (λ (n : ℕ). take n (cut files lengths)) (sym (length_cut files lengths)) ∙ take-length (cut files lengths)
