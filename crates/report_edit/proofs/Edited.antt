-- What the four stores hold once each has been edited at its own place.
use mathlib.Core.Path.{◌≡◌, refl, sym, ap, ap₂, ◌∙◌}
use mathlib.Core.List.{List, [], ◌∷◌, map}
use Prim.Native.Nat.{ℕ, ◌+◌, ◌-◌, ◌≤◌, ◌<◌}
use native.Mathlib.Omega.{arith}
use lib.ListN.{length, get_or, take, length-map}
use lib.Seq.{length-take-le, take-take, get_or-take}
use Rattle.cost.specs.Cost.{Cost}
use Rattle.cost.specs.Value.{value}
use Rattle.layout.specs.Spans.{Span}
use Rattle.layout.specs.SpanWords.{span_of}
use Rattle.report.specs.Report.{Row, insert_at, remove_at}
use Rattle.report.specs.Memory.{Words, file_length, page_length, span_count, cost_at, rows_of, sum_of}
use Rattle.report_rows.specs.Sums.{Totalled, EntryIs}
use Rattle.report_rows.specs.SumLaws.{sum_prefix, sum_insert, sum_next, sum_remove}
use Rattle.report_rows.specs.declared.Totals.{Totals}
use Rattle.report_rows.specs.declared.Entry.{Entry}
use Rattle.report_store.specs.Marks.{words, Small}
use Rattle.report_edit.specs.Edits.{TakingIn, TakenIn, TakingOut, TakenOut}
use Rattle.report_edit.specs.declared.RowPage.{RowPage}
use Rattle.report_edit.proofs.Spliced.{rows_front, rows_insert, rows_remove}

-- a mark's span is its span row's
same_spans : (l : List Words) → map span_of (map words l) ≡ map span_of l
same_spans [] = refl
same_spans (r ∷ l) = ap (λ (s : List Span). span_of r ∷ s) (same_spans l)

-- ---- one store, of whose bytes or marks each row has as many as its word g says

module _ {A : Type 0} (g : Words → ℕ) (t : List Words) where
  -- new items stand where row i started
  record Came (i : ℕ) (new store₀ store : List A) : Type 0 where
    pub front_is : take (sum_of g t + length new) store ≡ insert_at (sum_of g (take i t)) new (take (sum_of g t) store₀)

  -- row i's are gone
  record Went (i : ℕ) (store₀ store : List A) : Type 0 where
    pub front_is : take (sum_of g t - g (get_or t i [])) store ≡ remove_at (sum_of g (take i t)) (g (get_or t i [])) (take (sum_of g t) store₀)

-- a call's numbers are those sums
came : {A : Type 0} (g : Words → ℕ) (table : List Words) (i rows used at n : ℕ) (new store₀ store : List A) → i ≤ rows → used ≡ sum_of g (take rows table) → at ≡ sum_of g (take i table) → n ≡ length new
    → take (used + n) store ≡ insert_at at new (take used store₀) → Came g (take rows table) i new store₀ store
came g table i rows used at n new store₀ store h u a l e =
    record { front_is = rw (take-take i rows table h, sym u, sym a, sym l) e }

went : {A : Type 0} (g : Words → ℕ) (table : List Words) (i rows used at n : ℕ) (store₀ store : List A) → i < rows → used ≡ sum_of g (take rows table) → at ≡ sum_of g (take i table) → n ≡ g (get_or table i [])
    → take (used - n) store ≡ remove_at at n (take used store₀) → Went g (take rows table) i store₀ store
went g table i rows used at n store₀ store h u a l e =
    record { front_is = rw (take-take i rows table (omega arith), get_or-take rows table i [] h, sym u, sym a, sym l) e }

-- ---- all rows

module _ (i : ℕ) (t t' : List Words) (files₀ files pages₀ pages : List ℕ) (marks₀ marks : List Words) (a : sum_of file_length t ≤ length files₀) (b : sum_of page_length t ≤ length pages₀) (c : sum_of span_count t ≤ length marks₀) where
  rows_came : (w : Words) (f p : List ℕ) (m : List Words) → file_length w ≡ length f → page_length w ≡ length p → span_count w ≡ length m → i ≤ length t
      → Came file_length t i f files₀ files → Came page_length t i p pages₀ pages → Came span_count t i m marks₀ marks → t' ≡ insert_at i (w ∷ []) t
      → rows_of t' files pages marks ≡ insert_at i (record { file = f; page = record { bytes = p; spans = map span_of m; cost = cost_at w } } ∷ []) (rows_of t files₀ pages₀ marks₀)
  rows_came w f p m x y z h ff pp mm e =
      let F = sum_of file_length t in
      let P = sum_of page_length t in
      let M = sum_of span_count t in
      let r : Row = record { file = f; page = record { bytes = p; spans = map span_of m; cost = cost_at w } } in
      let new = insert_at i (w ∷ []) t in
      ap (λ (s : List Words). rows_of s files pages marks) e
      ∙ sym (rows_front new files pages marks (F + length f) (P + length p) (M + length m) (omega (arith, x, sum_insert file_length i w t)) (omega (arith, y, sum_insert page_length i w t)) (omega (arith, z, sum_insert span_count i w t)))
      ∙ ap₂ (λ (u v : List ℕ). rows_of new u v (take (M + length m) marks)) ff.front_is pp.front_is
      ∙ ap (λ (s : List Words). rows_of new (insert_at (sum_of file_length (take i t)) f (take F files₀)) (insert_at (sum_of page_length (take i t)) p (take P pages₀)) s) mm.front_is
      ∙ rows_insert i w f p m t (take F files₀) (take P pages₀) (take M marks₀) x y z h (omega (arith, length-take-le F files₀ a)) (omega (arith, length-take-le P pages₀ b)) (omega (arith, length-take-le M marks₀ c))
      ∙ ap (λ (l : List Row). insert_at i (r ∷ []) l) (rows_front t files₀ pages₀ marks₀ F P M (omega arith) (omega arith) (omega arith))

  rows_went : i < length t → Went file_length t i files₀ files → Went page_length t i pages₀ pages → Went span_count t i marks₀ marks → t' ≡ remove_at i 1 t
      → rows_of t' files pages marks ≡ remove_at i 1 (rows_of t files₀ pages₀ marks₀)
  rows_went h ff pp mm e =
      let F = sum_of file_length t in
      let P = sum_of page_length t in
      let M = sum_of span_count t in
      let x = file_length (get_or t i []) in
      let y = page_length (get_or t i []) in
      let z = span_count (get_or t i []) in
      let less = remove_at i 1 t in
      ap (λ (s : List Words). rows_of s files pages marks) e
      ∙ sym (rows_front less files pages marks (F - x) (P - y) (M - z) (omega (arith, sum_remove file_length i t h)) (omega (arith, sum_remove page_length i t h)) (omega (arith, sum_remove span_count i t h)))
      ∙ ap₂ (λ (u v : List ℕ). rows_of less u v (take (M - z) marks)) ff.front_is pp.front_is
      ∙ ap (λ (s : List Words). rows_of less (remove_at (sum_of file_length (take i t)) x (take F files₀)) (remove_at (sum_of page_length (take i t)) y (take P pages₀)) s) mm.front_is
      ∙ rows_remove i t (take F files₀) (take P pages₀) (take M marks₀) h (omega (arith, length-take-le F files₀ a)) (omega (arith, length-take-le P pages₀ b)) (omega (arith, length-take-le M marks₀ c))
      ∙ ap (λ (l : List Row). remove_at i 1 l) (rows_front t files₀ pages₀ marks₀ F P M (omega arith) (omega arith) (omega arith))

-- ---- what each store's call asks

asked : (g : Words → ℕ) (table : List Words) (place rows used at : ℕ) → place ≤ rows → used ≡ sum_of g (take rows table) → at ≡ sum_of g (take place table) → at ≤ used
asked g table place rows used at h u a = omega (arith, sum_prefix g place rows table h)

module _ {place rows : ℕ} {page : RowPage} {file row : List ℕ} {row_spans table : List Words} {files pages : List ℕ} {marks : List Words} {used at : Totals} (T : TakingIn place rows page file row row_spans table files pages marks) (U : Totalled (take rows table) used) (A : Totalled (take place table) at) where
  pub in_files : (at.files ≤ used.files) × (used.files + length file ≤ length files)
  in_files = (asked file_length table place rows used.files at.files T.place_in U.files_are A.files_are, omega (arith, U.files_are, T.files_room))

  pub in_pages : (at.pages ≤ used.pages) × (used.pages + length (take page.length row) ≤ length pages)
  in_pages = (asked page_length table place rows used.pages at.pages T.place_in U.pages_are A.pages_are, omega (arith, U.pages_are, T.pages_room, length-take-le page.length row T.page_in))

  pub in_marks : (at.marks ≤ used.marks) × (used.marks + page.spans ≤ length marks) × (page.spans ≤ length row_spans) × Small page.spans row_spans
  in_marks = (asked span_count table place rows used.marks at.marks T.place_in U.marks_are A.marks_are, omega (arith, U.marks_are, T.marks_room), T.spans_in, T.small)

ends : (g : Words → ℕ) (table : List Words) (place rows used at n : ℕ) → place < rows → rows ≤ length table → used ≡ sum_of g (take rows table) → at ≡ sum_of g (take place table) → n ≡ g (get_or table place []) → at + n ≤ used
ends g table place rows used at n h l u a e = omega (arith, sum_prefix g (place + 1) rows table (omega arith), sum_next g table place (omega arith))

module _ {place rows : ℕ} {table : List Words} {files pages : List ℕ} {marks : List Words} {used at : Totals} {r : Entry} (T : TakingOut place rows table files pages marks) (U : Totalled (take rows table) used) (A : Totalled (take place table) at) (R : EntryIs (get_or table place []) r) where
  there : rows ≤ length table
  there = omega (arith, T.sound.rows_in, T.sound.table_lent)

  pub out_files : (at.files + r.file ≤ used.files) × (used.files ≤ length files)
  out_files = (ends file_length table place rows used.files at.files r.file T.place_in there U.files_are A.files_are R.file_is, omega (arith, U.files_are, T.sound.files_in))

  pub out_pages : (at.pages + r.page ≤ used.pages) × (used.pages ≤ length pages)
  out_pages = (ends page_length table place rows used.pages at.pages r.page T.place_in there U.pages_are A.pages_are R.page_is, omega (arith, U.pages_are, T.sound.pages_in))

  pub out_marks : (at.marks + r.spans ≤ used.marks) × (used.marks ≤ length marks)
  out_marks = (ends span_count table place rows used.marks at.marks r.spans T.place_in there U.marks_are A.marks_are R.spans_are, omega (arith, U.marks_are, T.sound.marks_in))

-- ---- the whole edit

module _ {place rows : ℕ} {page : RowPage} {file row : List ℕ} {row_spans table₀ table : List Words} {files₀ files pages₀ pages : List ℕ} {marks₀ marks : List Words} where
  pub taken_in : TakingIn place rows page file row row_spans table₀ files₀ pages₀ marks₀ → (used at : Totals) → Totalled (take rows table₀) used → Totalled (take place table₀) at → (w : Words)
      → take (used.files + length file) files ≡ insert_at at.files file (take used.files files₀)
      → take (used.pages + length (take page.length row)) pages ≡ insert_at at.pages (take page.length row) (take used.pages pages₀)
      → take (used.marks + page.spans) marks ≡ insert_at at.marks (map words (take page.spans row_spans)) (take used.marks marks₀)
      → take (rows + 1) table ≡ insert_at place (w ∷ []) (take rows table₀)
      → file_length w ≡ length file → page_length w ≡ page.length → span_count w ≡ page.spans → cost_at w ≡ value page.cost
      → length table ≡ length table₀ → length files ≡ length files₀ → length pages ≡ length pages₀ → length marks ≡ length marks₀
      → TakenIn place rows page file row row_spans table₀ table files₀ files pages₀ pages marks₀ marks
  taken_in T used at U A w f p m e file_is page_is spans_are cost_is lt lf lp lm =
      let t = take rows table₀ in
      let S = T.sound in
      let long : page.length ≡ length (take page.length row) = sym (length-take-le page.length row T.page_in) in
      let many : page.spans ≡ length (map words (take page.spans row_spans)) = sym (length-map (take page.spans row_spans) words ∙ length-take-le page.spans row_spans T.spans_in) in
      let there : length t ≡ rows = length-take-le rows table₀ (omega (arith, S.rows_in, S.table_lent)) in
      let all = rows_came place t (take (rows + 1) table) files₀ files pages₀ pages marks₀ marks S.files_in S.pages_in S.marks_in w file (take page.length row) (map words (take page.spans row_spans)) file_is (page_is ∙ long) (spans_are ∙ many) (omega (arith, there, T.place_in))
      (came file_length table₀ place rows used.files at.files (length file) file files₀ files T.place_in U.files_are A.files_are refl f)
      (came page_length table₀ place rows used.pages at.pages (length (take page.length row)) (take page.length row) pages₀ pages T.place_in U.pages_are A.pages_are refl p)
      (came span_count table₀ place rows used.marks at.marks page.spans (map words (take page.spans row_spans)) marks₀ marks T.place_in U.marks_are A.marks_are many m)
      e in
      let sums : (g : Words → ℕ) → sum_of g (take (rows + 1) table) ≡ g w + sum_of g t = λ g. ap (sum_of g) e ∙ sum_insert g place w t in
      record {
        rows_are = all ∙ ap₂ (λ (s : List Span) (c : Cost). insert_at place (record { file = file; page = record { bytes = take page.length row; spans = s; cost = c } } ∷ []) (rows_of t files₀ pages₀ marks₀)) (same_spans (take page.spans row_spans)) cost_is;
        sound = record {
          rows_in = omega (arith, T.room);
          table_lent = omega (arith, S.table_lent, lt);
          files_in = omega (arith, sums file_length, file_is, T.files_room, lf);
          pages_in = omega (arith, sums page_length, page_is, T.pages_room, lp);
          marks_in = omega (arith, sums span_count, spans_are, T.marks_room, lm);
        };
      }

module _ {place rows : ℕ} {table₀ table : List Words} {files₀ files pages₀ pages : List ℕ} {marks₀ marks : List Words} where
  pub taken_out : TakingOut place rows table₀ files₀ pages₀ marks₀ → (used at : Totals) (r : Entry) → Totalled (take rows table₀) used → Totalled (take place table₀) at → EntryIs (get_or table₀ place []) r
      → take (used.files - r.file) files ≡ remove_at at.files r.file (take used.files files₀)
      → take (used.pages - r.page) pages ≡ remove_at at.pages r.page (take used.pages pages₀)
      → take (used.marks - r.spans) marks ≡ remove_at at.marks r.spans (take used.marks marks₀)
      → take (rows - 1) table ≡ remove_at place 1 (take rows table₀)
      → length table ≡ length table₀ → length files ≡ length files₀ → length pages ≡ length pages₀ → length marks ≡ length marks₀
      → TakenOut place rows table₀ table files₀ files pages₀ pages marks₀ marks
  taken_out T used at r U A R f p m e lt lf lp lm =
      let t = take rows table₀ in
      let S = T.sound in
      let there : length t ≡ rows = length-take-le rows table₀ (omega (arith, S.rows_in, S.table_lent)) in
      let h : place < length t = omega (arith, there, T.place_in) in
      let less : (g : Words → ℕ) → sum_of g (take (rows - 1) table) ≤ sum_of g t = λ g. omega (arith, ap (sum_of g) e, sum_remove g place t h) in
      record {
        rows_are = rows_went place t (take (rows - 1) table) files₀ files pages₀ pages marks₀ marks S.files_in S.pages_in S.marks_in h
            (went file_length table₀ place rows used.files at.files r.file files₀ files T.place_in U.files_are A.files_are R.file_is f)
            (went page_length table₀ place rows used.pages at.pages r.page pages₀ pages T.place_in U.pages_are A.pages_are R.page_is p)
            (went span_count table₀ place rows used.marks at.marks r.spans marks₀ marks T.place_in U.marks_are A.marks_are R.spans_are m)
            e;
        sound = record {
          rows_in = omega (arith, S.rows_in);
          table_lent = omega (arith, S.table_lent, lt);
          files_in = omega (arith, less file_length, S.files_in, lf);
          pages_in = omega (arith, less page_length, S.pages_in, lp);
          marks_in = omega (arith, less span_count, S.marks_in, lm);
        };
      }
