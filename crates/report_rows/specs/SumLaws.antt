-- Laws of sums over rows: of parts, of a row more, of a row less; where a row starts; what an answer of `sum_rows` says.
use Rattle.std.specs.Prelude.{◌≡◌, Option, Some, None, ℕ, suc, ◌+◌, ◌^◌, ◌≤◌, ◌<◌, length, get_or, take, drop}
use Rattle.std.proofs.Math.Path.{refl}
use Rattle.std.proofs.Common.{sym, ap, subst, ◌∙◌, add-one, take-append-drop, take-take, take-suc}
use mathlib.Core.List.{List, [], ◌∷◌, ◌++◌}
use native.Mathlib.Omega.{arith}
use Rattle.std.proofs.Math.Seq.{split_at}
use Rattle.report.specs.Report.{insert_at, remove_at}
use Rattle.report.specs.Memory.{Words, file_length, page_length, span_count, sum_of, Sound}
use Rattle.report_rows.specs.Sums.{Totalled, Summing, sound, unsound, Starting}
use Rattle.report_rows.specs.declared.Totals.{Totals}

module _ (g : Words → ℕ) where
  pub sum_nil : sum_of g [] ≡ 0
  unfolding sum_of
  sum_nil = refl

  pub sum_append : (s t : List Words) → sum_of g (s ++ t) ≡ sum_of g s + sum_of g t
  unfolding sum_of
  sum_append [] t = omega arith
  sum_append (w ∷ s) t = omega (arith, sum_append s t)

  pub sum_one : (w : Words) → sum_of g (w ∷ []) ≡ g w
  unfolding sum_of
  sum_one w = omega arith

  pub sum_cons : (w : Words) (t : List Words) → sum_of g (w ∷ t) ≡ g w + sum_of g t
  unfolding sum_of
  sum_cons w t = refl

  pub sum_parts : (i : ℕ) (t : List Words) → sum_of g (take i t) + sum_of g (drop i t) ≡ sum_of g t
  sum_parts i t = sym (sum_append (take i t) (drop i t)) ∙ ap (sum_of g) (take-append-drop i t)

  pub sum_first : (i : ℕ) (t : List Words) → sum_of g (take i t) ≤ sum_of g t
  sum_first i t = omega (arith, sum_parts i t)

  -- one row more of those that are taken
  pub sum_next : (t : List Words) (i : ℕ) → i < length t → sum_of g (take (i + 1) t) ≡ sum_of g (take i t) + g (get_or t i [])
  sum_next t i h = rw (add-one i, take-suc t i [] h) (omega (arith, sum_append (take i t) (get_or t i [] ∷ []), sum_one (get_or t i [])))

  -- the first rows sum to no more than the first of more
  pub sum_prefix : (i n : ℕ) (t : List Words) → i ≤ n → sum_of g (take i t) ≤ sum_of g (take n t)
  sum_prefix i n t h = let e : sum_of g (take i (take n t)) ≡ sum_of g (take i t) = ap (sum_of g) (take-take i n t h) in omega (arith, sum_parts i (take n t), e)

  pub sum_insert : (i : ℕ) (w : Words) (t : List Words) → sum_of g (insert_at i (w ∷ []) t) ≡ g w + sum_of g t
  sum_insert i w t = omega (arith, sum_append (take i t) (w ∷ drop i t), sum_cons w (drop i t), sum_parts i t)

  pub sum_remove : (i : ℕ) (t : List Words) → i < length t → g (get_or t i []) + sum_of g (remove_at i 1 t) ≡ sum_of g t
  sum_remove i t h =
      let whole : sum_of g t ≡ sum_of g (take i t ++ (get_or t i [] ∷ drop (suc i) t)) = ap (sum_of g) (split_at t i [] h) in
      rw (add-one i) (omega (arith, whole, sum_append (take i t) (get_or t i [] ∷ drop (suc i) t), sum_cons (get_or t i []) (drop (suc i) t), sum_append (take i t) (drop (suc i) t)))

-- sums that lie in stores have their place in a word
pub starting : {n : ℕ} {table : List Words} {files pages marks : ℕ} → Sound n table files pages marks → files < 2 ^ 64 → pages < 2 ^ 64 → marks < 2 ^ 64 → (place : ℕ) → place ≤ n → Starting place table
starting {n} {table} s f p m place h = record {
  there = omega (arith, s.rows_in, s.table_lent);
  files_small = omega (arith, s.files_in, sum_prefix file_length place n table h);
  pages_small = omega (arith, s.pages_in, sum_prefix page_length place n table h);
  marks_small = omega (arith, s.marks_in, sum_prefix span_count place n table h);
}

-- what an answer says of the memory
module _ {n : ℕ} {table : List Words} {files pages marks : ℕ} where
  pub is_sound : {r : Option Totals} {s : Totals} → Summing n table files pages marks r → r ≡ Some s → Sound n table files pages marks
  is_sound (sound p t) e = p
  is_sound (unsound u) e = let z : ◌≡◌ {A = ℕ} 0 1 = cc in absurd (omega arith)

  pub is_totalled : {r : Option Totals} {s : Totals} → Summing n table files pages marks r → r ≡ Some s → Totalled (take n table) s
  is_totalled {s = s} (sound {s = q} p t) e = let f : q ≡ s = cc in subst (λ (z : Totals). Totalled (take n table) z) f t
  is_totalled (unsound u) e = let z : ◌≡◌ {A = ℕ} 0 1 = cc in absurd (omega arith)

  pub is_unsound : {r : Option Totals} → Summing n table files pages marks r → r ≡ None → Sound n table files pages marks → ⊥
  is_unsound (sound p t) e = let z : ◌≡◌ {A = ℕ} 0 1 = cc in absurd (omega arith)
  is_unsound (unsound u) e = u
