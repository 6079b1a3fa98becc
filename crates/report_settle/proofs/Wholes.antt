-- Cost, bytes and spans of a whole page, from the numbers in the table.
use mathlib.Core.Path.{◌≡◌, refl, sym, ap, ap₂, ◌∙◌}
use mathlib.Core.List.{List, [], ◌∷◌, ◌++◌, map}
use Prim.Native.Nat.{ℕ, ◌+◌, ◌-◌, ◌≤◌, ◌<◌}
use native.Mathlib.Omega.{arith}
use lib.ListN.{length, take, drop, length-drop, length-map, take-append-drop}
use lib.Seq.{length-take-le}
use Rattle.cost.specs.Cost.{Cost}
use Rattle.layout.specs.SpanWords.{span_of}
use Rattle.layout.specs.Report.{whole_page, whole_spans, whole_cost}
use Rattle.machine.specs.Materializer.{Rendered}
use Rattle.report.specs.Report.{Row, insert_at, remove_at, pages_in, bytes_of, spans_of, cost_of}
use Rattle.report.specs.Memory.{Words, page_length, span_count, cost_at, pages_of, rows_of, sum_of}
use Rattle.report.specs.Lists.{map_insert, map_remove, length_insert, length_remove}
use Rattle.report_edit.specs.RowLaws.{lengths, whole_page_length, whole_spans_length, rows_pages, pages_count}

-- ---- numbers summed

unfoldable total : List ℕ → ℕ
total [] = 0
total (n ∷ l) = n + total l

total_append : (l m : List ℕ) → total (l ++ m) ≡ total l + total m
unfolding total
total_append [] m = omega arith
total_append (n ∷ l) m = omega (arith, total_append l m)

total_insert : (i n : ℕ) (l : List ℕ) → total (insert_at i (n ∷ []) l) ≡ n + total l
unfolding total
total_insert i n l =
    let e : total (take i l) + total (drop i l) ≡ total l = sym (total_append (take i l) (drop i l)) ∙ ap total (take-append-drop i l) in
    omega (arith, total_append (take i l) (n ∷ drop i l), e)

lengths_total : {A : Type 0} (ls : List (List A)) → lengths ls ≡ total (map length ls)
unfolding lengths total
lengths_total [] = refl
lengths_total (l ∷ ls) = omega (arith, lengths_total ls)

sum_total : (g : Words → ℕ) (t : List Words) → sum_of g t ≡ total (map g t)
unfolding sum_of total
sum_total g [] = refl
sum_total g (w ∷ t) = omega (arith, sum_total g t)

-- ---- row by row

page_lengths : (t : List Words) (pages : List ℕ) (marks : List Words) → sum_of page_length t ≤ length pages → map length (map bytes_of (pages_of t pages marks)) ≡ map page_length t
unfolding sum_of
page_lengths [] pages marks h = refl
page_lengths (w ∷ t) pages marks h =
    ap₂ (λ (n : ℕ) (l : List ℕ). n ∷ l) (length-take-le (page_length w) pages (omega (arith, h)))
    (page_lengths t (drop (page_length w) pages) (drop (span_count w) marks) (omega (arith, h, length-drop (page_length w) pages)))

mark_counts : (t : List Words) (pages : List ℕ) (marks : List Words) → sum_of span_count t ≤ length marks → map length (map spans_of (pages_of t pages marks)) ≡ map span_count t
unfolding sum_of
mark_counts [] pages marks h = refl
mark_counts (w ∷ t) pages marks h =
    ap₂ (λ (n : ℕ) (l : List ℕ). n ∷ l) (length-map (take (span_count w) marks) span_of ∙ length-take-le (span_count w) marks (omega (arith, h)))
    (mark_counts t (drop (page_length w) pages) (drop (span_count w) marks) (omega (arith, h, length-drop (span_count w) marks)))

row_costs : (t : List Words) (pages : List ℕ) (marks : List Words) → map cost_of (pages_of t pages marks) ≡ map cost_at t
row_costs [] pages marks = refl
row_costs (w ∷ t) pages marks = ap (λ (l : List Cost). cost_at w ∷ l) (row_costs t (drop (page_length w) pages) (drop (span_count w) marks))

-- ---- the whole page of pages ps: its cost, how many bytes and spans

pub record Sums (newline_cost : ℕ) (ps : List Rendered) (c : Cost) (n m : ℕ) : Type 0 where
  pub cost_is : whole_cost newline_cost (map cost_of ps) ≡ c
  pub bytes_are : length (whole_page (map bytes_of ps)) ≡ n
  pub spans_are : length (whole_spans (map bytes_of ps) (map spans_of ps)) ≡ m

whole_marks : (ps : List Rendered) → length (whole_spans (map bytes_of ps) (map spans_of ps)) ≡ lengths (map spans_of ps)
whole_marks ps = whole_spans_length (map bytes_of ps) (map spans_of ps) (length-map ps bytes_of ∙ sym (length-map ps spans_of))

module _ (newline_cost : ℕ) (t : List Words) (pages : List ℕ) (marks : List Words) (a : sum_of page_length t ≤ length pages) (b : sum_of span_count t ≤ length marks) where
  pub insertion_sums : (i : ℕ) → i ≤ length t → (r : Rendered)
      → Sums newline_cost (insert_at i (r ∷ []) (pages_of t pages marks)) (whole_cost newline_cost (insert_at i (r.cost ∷ []) (map cost_at t))) (sum_of page_length t + length r.bytes + length t) (sum_of span_count t + length r.spans)
  insertion_sums i h r =
      let ps = pages_of t pages marks in
      let qs = insert_at i (r ∷ []) ps in
      let count : length ps ≡ length t = pages_count t pages marks in
      let more : length qs ≡ 1 + length ps = length_insert i (r ∷ []) ps (omega (arith, h, count)) in
      let bs : map length (map bytes_of qs) ≡ insert_at i (length r.bytes ∷ []) (map page_length t)
      = ap (map length) (map_insert bytes_of i (r ∷ []) ps) ∙ map_insert length i (r.bytes ∷ []) (map bytes_of ps) ∙ ap (insert_at i (length r.bytes ∷ [])) (page_lengths t pages marks a) in
      let ss : map length (map spans_of qs) ≡ insert_at i (length r.spans ∷ []) (map span_count t)
      = ap (map length) (map_insert spans_of i (r ∷ []) ps) ∙ map_insert length i (r.spans ∷ []) (map spans_of ps) ∙ ap (insert_at i (length r.spans ∷ [])) (mark_counts t pages marks b) in
      let x : lengths (map bytes_of qs) ≡ length r.bytes + sum_of page_length t = lengths_total (map bytes_of qs) ∙ ap total bs ∙ total_insert i (length r.bytes) (map page_length t) ∙ ap (λ (k : ℕ). length r.bytes + k) (sym (sum_total page_length t)) in
      let y : lengths (map spans_of qs) ≡ length r.spans + sum_of span_count t = lengths_total (map spans_of qs) ∙ ap total ss ∙ total_insert i (length r.spans) (map span_count t) ∙ ap (λ (k : ℕ). length r.spans + k) (sym (sum_total span_count t)) in
      record {
        cost_is = ap (whole_cost newline_cost) (map_insert cost_of i (r ∷ []) ps ∙ ap (insert_at i (r.cost ∷ [])) (row_costs t pages marks));
        bytes_are = omega (arith, whole_page_length (map bytes_of qs), x, length-map qs bytes_of, more, count);
        spans_are = omega (arith, whole_marks qs, y);
      }

  pub removal_sums : (i : ℕ) → i < length t
      → Sums newline_cost (remove_at i 1 (pages_of t pages marks)) (whole_cost newline_cost (remove_at i 1 (map cost_at t))) (sum_of page_length (remove_at i 1 t) + (length t - 1 - 1)) (sum_of span_count (remove_at i 1 t))
  removal_sums i h =
      let ps = pages_of t pages marks in
      let qs = remove_at i 1 ps in
      let count : length ps ≡ length t = pages_count t pages marks in
      let less : length qs + 1 ≡ length ps = length_remove i 1 ps (omega (arith, h, count)) in
      let bs : map length (map bytes_of qs) ≡ map page_length (remove_at i 1 t)
      = ap (map length) (map_remove bytes_of i 1 ps) ∙ map_remove length i 1 (map bytes_of ps) ∙ ap (remove_at i 1) (page_lengths t pages marks a) ∙ sym (map_remove page_length i 1 t) in
      let ss : map length (map spans_of qs) ≡ map span_count (remove_at i 1 t)
      = ap (map length) (map_remove spans_of i 1 ps) ∙ map_remove length i 1 (map spans_of ps) ∙ ap (remove_at i 1) (mark_counts t pages marks b) ∙ sym (map_remove span_count i 1 t) in
      let x : lengths (map bytes_of qs) ≡ sum_of page_length (remove_at i 1 t) = lengths_total (map bytes_of qs) ∙ ap total bs ∙ sym (sum_total page_length (remove_at i 1 t)) in
      let y : lengths (map spans_of qs) ≡ sum_of span_count (remove_at i 1 t) = lengths_total (map spans_of qs) ∙ ap total ss ∙ sym (sum_total span_count (remove_at i 1 t)) in
      record {
        cost_is = ap (whole_cost newline_cost) (map_remove cost_of i 1 ps ∙ ap (remove_at i 1) (row_costs t pages marks));
        bytes_are = omega (arith, whole_page_length (map bytes_of qs), x, length-map qs bytes_of, less, count);
        spans_are = omega (arith, whole_marks qs, y);
      }

-- the pages of rows that memory holds, with a row more or less
module _ (t : List Words) (files pages : List ℕ) (marks : List Words) where
  pub pages_insert : (i : ℕ) (r : Row) → pages_in (insert_at i (r ∷ []) (rows_of t files pages marks)) ≡ insert_at i (r.page ∷ []) (pages_of t pages marks)
  pages_insert i r = map_insert (λ (x : Row). x.page) i (r ∷ []) (rows_of t files pages marks) ∙ ap (insert_at i (r.page ∷ [])) (rows_pages t files pages marks)

  pub pages_remove : (i : ℕ) → pages_in (remove_at i 1 (rows_of t files pages marks)) ≡ remove_at i 1 (pages_of t pages marks)
  pages_remove i = map_remove (λ (x : Row). x.page) i 1 (rows_of t files pages marks) ∙ ap (remove_at i 1) (rows_pages t files pages marks)
