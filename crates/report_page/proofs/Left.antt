-- What is put of a page and its spans, and the rows that are left.
use mathlib.Core.Path.{◌≡◌, refl, sym, ap, ap₂, ◌∙◌}
use mathlib.Core.List.{List, [], ◌∷◌, ◌++◌, map, append-nil, append_assoc, map-append}
use Prim.Native.Nat.{ℕ, ◌+◌, ◌≤◌}
use native.Mathlib.Numerals.{add-one}
use native.Mathlib.Omega.{arith}
use lib.ListN.{length, take, drop, length-append, length-drop, length-map}
use lib.Seq.{length-take-le, drop-drop}
use Rattle.layout.specs.Spans.{Span}
use Rattle.layout.specs.SpanWords.{span_of}
use Rattle.layout.specs.Report.{lines_below, whole_page, spans_below, moved}
use Rattle.machine.specs.Materializer.{Rendered}
use Rattle.report.specs.Report.{bytes_of, spans_of}
use Rattle.report.specs.Memory.{Words, page_length, span_count, pages_of, sum_of}
use Rattle.report_page.specs.Moves.{lead, moved_words}
use Rattle.report_page.specs.Delivered.{whole_bytes, whole_marks}
use Rattle.report_page.proofs.Words.{spans_moved}

-- the bytes of rows from row k on
abbrev ahead : ℕ → List (List ℕ) → List ℕ
ahead k [] = []
ahead k (b ∷ bs) = lead k ++ (b ++ lines_below bs)

ahead_first : (bs : List (List ℕ)) → ahead 0 bs ≡ whole_page bs
ahead_first [] = refl
ahead_first (b ∷ bs) = refl

ahead_later : (k : ℕ) (bs : List (List ℕ)) → ahead (k + 1) bs ≡ lines_below bs
ahead_later k [] = refl
ahead_later k (b ∷ bs) = rw (add-one k)

-- the spans of rows whose first page starts at a position, with n spans before it
abbrev spans_ahead : ℕ → ℕ → List Rendered → List Span
spans_ahead at n ps = spans_below at n (map bytes_of ps) (map spans_of ps)

-- of the pages ps the bytes b and the spans of the words m are put, and the rows t are left, from row k on
pub record Left (ps : List Rendered) (t : List Words) (pages : List ℕ) (marks : List Words) (k from at n : ℕ) (b : List ℕ) (m : List Words) : Type 0 where
  pub at_is : length b ≡ at
  pub n_is : length m ≡ n
  pub pages_left : from + sum_of page_length t ≤ length pages
  pub marks_left : n + sum_of span_count t ≤ length marks
  pub bytes : b ++ ahead k (map bytes_of (pages_of t (drop from pages) (drop n marks))) ≡ whole_bytes ps
  pub spans : map span_of m ++ spans_ahead (at + length (lead k)) n (pages_of t (drop from pages) (drop n marks)) ≡ whole_marks ps

pub left_first : (t : List Words) (pages : List ℕ) (marks : List Words) → sum_of page_length t ≤ length pages → sum_of span_count t ≤ length marks → Left (pages_of t pages marks) t pages marks 0 0 0 0 [] []
left_first t pages marks h k = record {
  at_is = refl;
  n_is = refl;
  pages_left = omega arith;
  marks_left = omega arith;
  bytes = ahead_first (map bytes_of (pages_of t pages marks));
  spans = refl;
}

pub left_last : (ps : List Rendered) (pages : List ℕ) (marks : List Words) (k from at n : ℕ) (b : List ℕ) (m : List Words) → Left ps [] pages marks k from at n b m → (b ≡ whole_bytes ps) × (map span_of m ≡ whole_marks ps)
left_last ps pages marks k from at n b m l = (sym (append-nil b) ∙ l.bytes, sym (append-nil (map span_of m)) ∙ l.spans)

-- row w lies in the stores, and has a place in what the whole takes
pub record Asks (ps : List Rendered) (w : Words) (pages : List ℕ) (marks : List Words) (k from at n : ℕ) : Type 0 where
  pub page_there : from + page_length w ≤ length pages
  pub marks_there : n + span_count w ≤ length marks
  pub page_fits : at + length (lead k) + page_length w ≤ length (whole_bytes ps)
  pub marks_fit : n + span_count w ≤ length (whole_marks ps)

module _ (ps : List Rendered) (w : Words) (t : List Words) (pages : List ℕ) (marks : List Words) (k from at n : ℕ) (b : List ℕ) (m : List Words) (l : Left ps (w ∷ t) pages marks k from at n b m) where
  page_is : List ℕ
  page_is = take (page_length w) (drop from pages)

  marks_are : List Words
  marks_are = take (span_count w) (drop n marks)

  rest : List Rendered
  rest = pages_of t (drop (page_length w) (drop from pages)) (drop (span_count w) (drop n marks))

  page_there : from + page_length w ≤ length pages
  unfolding sum_of
  page_there = omega (arith, l.pages_left)

  marks_there : n + span_count w ≤ length marks
  unfolding sum_of
  marks_there = omega (arith, l.marks_left)

  page_long : length page_is ≡ page_length w
  unfolding page_is
  page_long = length-take-le (page_length w) (drop from pages) (omega (arith, length-drop from pages, page_there))

  marks_long : length marks_are ≡ span_count w
  unfolding marks_are
  marks_long = length-take-le (span_count w) (drop n marks) (omega (arith, length-drop n marks, marks_there))

  bytes_now : b ++ (lead k ++ (page_is ++ lines_below (map bytes_of rest))) ≡ whole_bytes ps
  unfolding page_is rest
  bytes_now = l.bytes

  spans_now : map span_of m ++ (map (moved (at + length (lead k)) n) (map span_of marks_are) ++ spans_ahead (at + length (lead k) + length page_is + 1) (n + length (map span_of marks_are)) rest) ≡ whole_marks ps
  unfolding page_is marks_are rest
  spans_now = l.spans

  pub left_asks : Asks ps w pages marks k from at n
  left_asks =
      let below = lines_below (map bytes_of rest) in
      let own = map (moved (at + length (lead k)) n) (map span_of marks_are) in
      let after = spans_ahead (at + length (lead k) + length page_is + 1) (n + length (map span_of marks_are)) rest in
      let l₁ = length-append b (lead k ++ (page_is ++ below)) in
      let l₂ = length-append (lead k) (page_is ++ below) in
      let l₃ = length-append page_is below in
      let l₄ = length-append (map span_of m) (own ++ after) in
      let l₅ = length-append own after in
      let l₆ : length own ≡ span_count w = length-map (map span_of marks_are) (moved (at + length (lead k)) n) ∙ length-map marks_are span_of ∙ marks_long in
      record {
        page_there = page_there;
        marks_there = marks_there;
        page_fits = omega (arith, l.at_is, page_long, ap length bytes_now, l₁, l₂, l₃);
        marks_fit = omega (arith, l.n_is, length-map m span_of, ap length spans_now, l₄, l₅, l₆);
      }

  -- row w put
  pub left_next : Left ps t pages marks (k + 1) (from + page_length w) (at + length (lead k) + page_length w) (n + span_count w) (b ++ (lead k ++ take (page_length w) (drop from pages))) (m ++ map (moved_words (at + length (lead k)) n) (take (span_count w) (drop n marks)))
  unfolding sum_of page_is marks_are rest
  left_next =
      let start = at + length (lead k) in
      let below = lines_below (map bytes_of rest) in
      let ms = map (moved_words start n) marks_are in
      let own = map (moved start n) (map span_of marks_are) in
      let after = spans_ahead (start + length page_is + 1) (n + length (map span_of marks_are)) rest in
      let same : pages_of t (drop (from + page_length w) pages) (drop (n + span_count w) marks) ≡ rest = sym (ap₂ (λ (x : List ℕ) (y : List Words). pages_of t x y) (drop-drop (page_length w) from pages) (drop-drop (span_count w) n marks)) in
      let one : length (lead (k + 1)) ≡ 1 = rw (add-one k) in
      let u : start + page_length w + length (lead (k + 1)) ≡ start + length page_is + 1 = omega (arith, page_long, one) in
      let v : n + span_count w ≡ n + length (map span_of marks_are) = omega (arith, marks_long, length-map marks_are span_of) in
      record {
        at_is = omega (arith, l.at_is, page_long, length-append b (lead k ++ page_is), length-append (lead k) page_is);
        n_is = omega (arith, l.n_is, marks_long, length-append m ms, length-map marks_are (moved_words start n));
        pages_left = omega (arith, l.pages_left);
        marks_left = omega (arith, l.marks_left);
        bytes = rw (same, ahead_later k (map bytes_of rest)) (append_assoc b (lead k ++ page_is) below ∙ ap (λ (x : List ℕ). b ++ x) (append_assoc (lead k) page_is below) ∙ bytes_now);
        spans = ap₂ (λ (x y : List Span). x ++ y)
            (map-append span_of m ms ∙ ap (λ (x : List Span). map span_of m ++ x) (spans_moved start n marks_are))
            (ap (λ (p : List Rendered). spans_ahead (start + page_length w + length (lead (k + 1))) (n + span_count w) p) same ∙ ap₂ (λ (x y : ℕ). spans_ahead x y rest) u v)
            ∙ append_assoc (map span_of m) own after
            ∙ spans_now;
      }
