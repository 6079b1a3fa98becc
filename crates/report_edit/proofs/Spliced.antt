-- What rows and stores read as after a row has come or gone: the rows, with that row more or less.
use mathlib.Core.Path.{◌≡◌, refl, sym, ap, ap₂, ◌∙◌}
use mathlib.Core.List.{List, [], ◌∷◌, ◌++◌, map}
use Prim.Native.Nat.{ℕ, zero, suc, ◌+◌, ◌-◌, ◌≤◌, ◌<◌}
use native.Mathlib.Omega.{arith}
use lib.ListN.{length, get_or, take, drop, length-drop}
use lib.Seq.{length-take-le, take-take, drop-drop, take_at, drop_at, take-append-le, drop-append-le}
use Rattle.layout.specs.SpanWords.{span_of}
use Rattle.machine.specs.Materializer.{Rendered}
use Rattle.report.specs.Report.{Row, insert_at, remove_at}
use Rattle.report.specs.Memory.{Words, file_length, page_length, span_count, cost_at, page_at, rows_of, sum_of}
use Rattle.report.specs.Lists.{drop_take, remove_cons}
use Rattle.report_rows.specs.SumLaws.{sum_cons, sum_first}

-- ---- lists

module _ {A : Type 0} where
  take_insert : (n s : ℕ) (new l : List A) → n + s ≤ length l → take n (insert_at (n + s) new l) ≡ take n l
  take_insert n s new l h =
      take-append-le n (take (n + s) l) (new ++ drop (n + s) l) (omega (arith, length-take-le (n + s) l h)) ∙ take-take n (n + s) l (omega arith)

  drop_insert : (n s : ℕ) (new l : List A) → n + s ≤ length l → drop n (insert_at (n + s) new l) ≡ insert_at s new (drop n l)
  drop_insert n s new l h =
      drop-append-le n (take (n + s) l) (new ++ drop (n + s) l) (omega (arith, length-take-le (n + s) l h))
      ∙ ap₂ (λ (x y : List A). x ++ (new ++ y)) (drop_take n s l) (sym (drop-drop s n l))

  take_remove : (n s k : ℕ) (l : List A) → n + s ≤ length l → take n (remove_at (n + s) k l) ≡ take n l
  take_remove n s k l h =
      take-append-le n (take (n + s) l) (drop (n + s + k) l) (omega (arith, length-take-le (n + s) l h)) ∙ take-take n (n + s) l (omega arith)

  drop_remove : (n s k : ℕ) (l : List A) → n + s ≤ length l → drop n (remove_at (n + s) k l) ≡ remove_at s k (drop n l)
  drop_remove n s k l h =
      let e : n + s + k ≡ n + (s + k) = omega arith in
      drop-append-le n (take (n + s) l) (drop (n + s + k) l) (omega (arith, length-take-le (n + s) l h))
      ∙ ap₂ (λ (x y : List A). x ++ y) (drop_take n s l) (ap (λ (j : ℕ). drop j l) e ∙ sym (drop-drop (s + k) n l))

  drop_front : (n m : ℕ) (l : List A) → n ≤ m → drop n (take m l) ≡ take (m - n) (drop n l)
  drop_front n m l h = let e : m ≡ n + (m - n) = omega arith in ap (λ (k : ℕ). drop n (take k l)) e ∙ drop_take n (m - n) l

-- ---- rows read off stores

abbrev row_at : Words → List ℕ → List ℕ → List Words → Row
row_at w files pages marks = record { file = take (file_length w) files; page = page_at w pages marks }

same_row : (w : Words) (f g p q : List ℕ) (m n : List Words) → take (file_length w) f ≡ take (file_length w) g → take (page_length w) p ≡ take (page_length w) q → take (span_count w) m ≡ take (span_count w) n → row_at w f p m ≡ row_at w g q n
same_row w f g p q m n a b c =
    ap₂ (λ (x : List ℕ) (y : Rendered). record { file = x; page = y }) a
    (ap₂ (λ (x : List ℕ) (y : List Words). record { bytes = x; spans = map span_of y; cost = cost_at w }) b c)

-- only the front of a store is read
pub rows_front : (t : List Words) (files pages : List ℕ) (marks : List Words) (F P M : ℕ) → sum_of file_length t ≤ F → sum_of page_length t ≤ P → sum_of span_count t ≤ M
    → rows_of t (take F files) (take P pages) (take M marks) ≡ rows_of t files pages marks
rows_front [] files pages marks F P M a b c = refl
rows_front (w ∷ t) files pages marks F P M a b c =
    let x = sum_cons file_length w t in
    let y = sum_cons page_length w t in
    let z = sum_cons span_count w t in
    ap₂ (λ (r : Row) (l : List Row). r ∷ l)
    (same_row w (take F files) files (take P pages) pages (take M marks) marks (take-take (file_length w) F files (omega (arith, x))) (take-take (page_length w) P pages (omega (arith, y))) (take-take (span_count w) M marks (omega (arith, z))))
    (ap₂ (λ (u v : List ℕ). rows_of t u v (drop (span_count w) (take M marks))) (drop_front (file_length w) F files (omega (arith, x))) (drop_front (page_length w) P pages (omega (arith, y)))
    ∙ ap (λ (u : List Words). rows_of t (take (F - file_length w) (drop (file_length w) files)) (take (P - page_length w) (drop (page_length w) pages)) u) (drop_front (span_count w) M marks (omega (arith, z)))
    ∙ rows_front t (drop (file_length w) files) (drop (page_length w) pages) (drop (span_count w) marks) (F - file_length w) (P - page_length w) (M - span_count w) (omega (arith, x)) (omega (arith, y)) (omega (arith, z)))

-- a row more
pub rows_insert : (i : ℕ) (w : Words) (f p : List ℕ) (m : List Words) (t : List Words) (files pages : List ℕ) (marks : List Words)
    → file_length w ≡ length f → page_length w ≡ length p → span_count w ≡ length m
    → i ≤ length t → sum_of file_length t ≤ length files → sum_of page_length t ≤ length pages → sum_of span_count t ≤ length marks
    → rows_of (insert_at i (w ∷ []) t) (insert_at (sum_of file_length (take i t)) f files) (insert_at (sum_of page_length (take i t)) p pages) (insert_at (sum_of span_count (take i t)) m marks)
    ≡ insert_at i (record { file = f; page = record { bytes = p; spans = map span_of m; cost = cost_at w } } ∷ []) (rows_of t files pages marks)
unfolding sum_of
rows_insert zero w f p m t files pages marks a b c h x y z =
    let here : row_at w (f ++ files) (p ++ pages) (m ++ marks) ≡ record { file = f; page = record { bytes = p; spans = map span_of m; cost = cost_at w } }
    = ap₂ (λ (u : List ℕ) (v : Rendered). record { file = u; page = v }) (take_at f files (file_length w) (sym a))
    (ap₂ (λ (u : List ℕ) (v : List Words). record { bytes = u; spans = map span_of v; cost = cost_at w }) (take_at p pages (page_length w) (sym b)) (take_at m marks (span_count w) (sym c))) in
    ap₂ (λ (r : Row) (l : List Row). r ∷ l) here
    (ap₂ (λ (u v : List ℕ). rows_of t u v (drop (span_count w) (m ++ marks))) (drop_at f files (file_length w) (sym a)) (drop_at p pages (page_length w) (sym b))
    ∙ ap (λ (u : List Words). rows_of t files pages u) (drop_at m marks (span_count w) (sym c)))
rows_insert (suc i) w f p m [] files pages marks a b c h x y z = absurd (omega arith)
rows_insert (suc i) w f p m (v ∷ t) files pages marks a b c h x y z =
    let s = sum_of file_length (take i t) in
    let n = sum_of page_length (take i t) in
    let k = sum_of span_count (take i t) in
    let xs : file_length v + s ≤ length files = omega (arith, x, sum_first file_length i t) in
    let ys : page_length v + n ≤ length pages = omega (arith, y, sum_first page_length i t) in
    let zs : span_count v + k ≤ length marks = omega (arith, z, sum_first span_count i t) in
    ap₂ (λ (r : Row) (l : List Row). r ∷ l)
    (same_row v (insert_at (file_length v + s) f files) files (insert_at (page_length v + n) p pages) pages (insert_at (span_count v + k) m marks) marks (take_insert (file_length v) s f files xs) (take_insert (page_length v) n p pages ys) (take_insert (span_count v) k m marks zs))
    (ap₂ (λ (u o : List ℕ). rows_of (insert_at i (w ∷ []) t) u o (drop (span_count v) (insert_at (span_count v + k) m marks))) (drop_insert (file_length v) s f files xs) (drop_insert (page_length v) n p pages ys)
    ∙ ap (λ (u : List Words). rows_of (insert_at i (w ∷ []) t) (insert_at s f (drop (file_length v) files)) (insert_at n p (drop (page_length v) pages)) u) (drop_insert (span_count v) k m marks zs)
    ∙ rows_insert i w f p m t (drop (file_length v) files) (drop (page_length v) pages) (drop (span_count v) marks) a b c (omega arith)
    (omega (arith, x, length-drop (file_length v) files)) (omega (arith, y, length-drop (page_length v) pages)) (omega (arith, z, length-drop (span_count v) marks)))

-- a row less
pub rows_remove : (i : ℕ) (t : List Words) (files pages : List ℕ) (marks : List Words)
    → i < length t → sum_of file_length t ≤ length files → sum_of page_length t ≤ length pages → sum_of span_count t ≤ length marks
    → rows_of (remove_at i 1 t) (remove_at (sum_of file_length (take i t)) (file_length (get_or t i [])) files) (remove_at (sum_of page_length (take i t)) (page_length (get_or t i [])) pages) (remove_at (sum_of span_count (take i t)) (span_count (get_or t i [])) marks)
    ≡ remove_at i 1 (rows_of t files pages marks)
unfolding sum_of
rows_remove i [] files pages marks h x y z = absurd (omega arith)
rows_remove zero (v ∷ t) files pages marks h x y z =
    let e : 0 + file_length v ≡ file_length v = omega arith in
    let f : 0 + page_length v ≡ page_length v = omega arith in
    let g : 0 + span_count v ≡ span_count v = omega arith in
    ap₂ (λ (a b : ℕ). rows_of t (drop a files) (drop b pages) (drop (0 + span_count v) marks)) e f ∙ ap (λ (a : ℕ). rows_of t (drop (file_length v) files) (drop (page_length v) pages) (drop a marks)) g
rows_remove (suc i) (v ∷ t) files pages marks h x y z =
    let s = sum_of file_length (take i t) in
    let n = sum_of page_length (take i t) in
    let k = sum_of span_count (take i t) in
    let a = file_length (get_or t i []) in
    let b = page_length (get_or t i []) in
    let c = span_count (get_or t i []) in
    let xs : file_length v + s ≤ length files = omega (arith, x, sum_first file_length i t) in
    let ys : page_length v + n ≤ length pages = omega (arith, y, sum_first page_length i t) in
    let zs : span_count v + k ≤ length marks = omega (arith, z, sum_first span_count i t) in
    ap (λ (r : List Words). rows_of r (remove_at (file_length v + s) a files) (remove_at (page_length v + n) b pages) (remove_at (span_count v + k) c marks)) (remove_cons i 1 v t)
    ∙ ap₂ (λ (r : Row) (l : List Row). r ∷ l)
    (same_row v (remove_at (file_length v + s) a files) files (remove_at (page_length v + n) b pages) pages (remove_at (span_count v + k) c marks) marks (take_remove (file_length v) s a files xs) (take_remove (page_length v) n b pages ys) (take_remove (span_count v) k c marks zs))
    (ap₂ (λ (u o : List ℕ). rows_of (remove_at i 1 t) u o (drop (span_count v) (remove_at (span_count v + k) c marks))) (drop_remove (file_length v) s a files xs) (drop_remove (page_length v) n b pages ys)
    ∙ ap (λ (u : List Words). rows_of (remove_at i 1 t) (remove_at s a (drop (file_length v) files)) (remove_at n b (drop (page_length v) pages)) u) (drop_remove (span_count v) k c marks zs)
    ∙ rows_remove i t (drop (file_length v) files) (drop (page_length v) pages) (drop (span_count v) marks) (omega arith)
    (omega (arith, x, length-drop (file_length v) files)) (omega (arith, y, length-drop (page_length v) pages)) (omega (arith, z, length-drop (span_count v) marks)))
    ∙ sym (remove_cons i 1 (row_at v files pages marks) (rows_of t (drop (file_length v) files) (drop (page_length v) pages) (drop (span_count v) marks)))
