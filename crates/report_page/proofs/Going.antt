-- Between the rows: output and spans hold what is put so far.
use mathlib.Core.Path.{◌≡◌, refl, sym, ap, subst, ◌∙◌}
use mathlib.Core.List.{List, [], ◌∷◌, ◌++◌, map}
use Prim.Native.Nat.{ℕ, ◌+◌, ◌≤◌, ◌<◌, ◌^◌}
use native.Mathlib.Numerals.{add-one}
use native.Mathlib.Omega.{arith}
use lib.ListN.{length, get_or, take, drop, length-map, drop_of_length-le}
use lib.Seq.{sets, length-sets, drop-cons}
use Rattle.layout.specs.SpanWords.{span_of}
use Rattle.report.specs.Memory.{Words, page_length, span_count, pages_of}
use Rattle.report_page.specs.Moves.{lead, moved_words}
use Rattle.report_page.specs.Delivered.{whole_bytes, whole_marks, Deliverable, Delivered}
use Rattle.report_page.proofs.Puts.{put_both, front, front_take, front_drop}
use Rattle.report_page.proofs.Left.{Left, left_first, left_last, left_asks, left_next}

-- k of the rows are put: the next one's page and spans are at `from` and n of the stores, and output holds `at` bytes
pub record Going (rows : ℕ) (table : List Words) (pages : List ℕ) (marks : List Words) (output₀ : List ℕ) (spans₀ : List Words) (k from at n : ℕ) (output : List ℕ) (spans : List Words) : Type 0 where
  pub bytes : List ℕ
  pub words : List Words
  pub output_is : output ≡ sets output₀ 0 bytes
  pub spans_are : spans ≡ sets spans₀ 0 words
  pub left : Left (pages_of (take rows table) pages marks) (drop k (take rows table)) pages marks k from at n bytes words

module _ {rows : ℕ} {table : List Words} {pages : List ℕ} {marks : List Words} {output₀ : List ℕ} {spans₀ : List Words} {k from at n : ℕ} {output : List ℕ} {spans : List Words} (G : Going rows table pages marks output₀ spans₀ k from at n output spans) where
  pub output_length : length output ≡ length output₀
  output_length = ap length G.output_is ∙ length-sets output₀ 0 G.bytes

  pub spans_length : length spans ≡ length spans₀
  spans_length = ap length G.spans_are ∙ length-sets spans₀ 0 G.words

-- what a turn asks for row w: it lies in the stores, and has a place in output and spans
pub record Turn (w : Words) (pages : List ℕ) (marks : List Words) (k from at n : ℕ) (output : List ℕ) (spans : List Words) : Type 0 where
  pub page_there : from + page_length w ≤ length pages
  pub marks_there : n + span_count w ≤ length marks
  pub page_fits : at + length (lead k) + page_length w ≤ length output
  pub page_small : at + length (lead k) + page_length w < 2 ^ 32
  pub marks_fit : n + span_count w ≤ length spans
  pub marks_small : n + span_count w < 2 ^ 32

module _ {rows : ℕ} {table : List Words} {pages : List ℕ} {marks : List Words} {output₀ : List ℕ} {spans₀ : List Words} (D : Deliverable rows table pages marks output₀ spans₀) where
  pub going_first : Going rows table pages marks output₀ spans₀ 0 0 0 0 output₀ spans₀
  going_first = record {
    bytes = [];
    words = [];
    output_is = refl;
    spans_are = refl;
    left = left_first (take rows table) pages marks D.pages_in D.marks_in;
  }

  module _ {k from at n : ℕ} {output : List ℕ} {spans : List Words} (G : Going rows table pages marks output₀ spans₀ k from at n output spans) where
    module _ (h : k < length (take rows table)) where
      row_is : drop k (take rows table) ≡ get_or (take rows table) k [] ∷ drop (k + 1) (take rows table)
      row_is = rw (add-one k) (drop-cons (take rows table) k [] h)

      now : Left (pages_of (take rows table) pages marks) (get_or (take rows table) k [] ∷ drop (k + 1) (take rows table)) pages marks k from at n G.bytes G.words
      now = subst (λ (t : List Words). Left (pages_of (take rows table) pages marks) t pages marks k from at n G.bytes G.words) row_is G.left

      pub going_turn : Turn (get_or (take rows table) k []) pages marks k from at n output spans
      going_turn =
          let a = left_asks (pages_of (take rows table) pages marks) (get_or (take rows table) k []) (drop (k + 1) (take rows table)) pages marks k from at n G.bytes G.words now in
          record {
            page_there = a.page_there;
            marks_there = a.marks_there;
            page_fits = omega (arith, a.page_fits, D.output_in, output_length G);
            page_small = omega (arith, a.page_fits, D.output_small);
            marks_fit = omega (arith, a.marks_fit, D.spans_in, spans_length G);
            marks_small = omega (arith, a.marks_fit, D.spans_small);
          }

      going_put : {middle output' : List ℕ} {spans' : List Words}
          → middle ≡ sets output at (lead k)
          → output' ≡ sets middle (at + length (lead k)) (take (page_length (get_or (take rows table) k [])) (drop from pages))
          → spans' ≡ sets spans n (map (moved_words (at + length (lead k)) n) (take (span_count (get_or (take rows table) k [])) (drop n marks)))
          → Going rows table pages marks output₀ spans₀ (k + 1) (from + page_length (get_or (take rows table) k [])) (at + length (lead k) + page_length (get_or (take rows table) k [])) (n + span_count (get_or (take rows table) k [])) output' spans'
      going_put e f g =
          let page = take (page_length (get_or (take rows table) k [])) (drop from pages) in
          let own = map (moved_words (at + length (lead k)) n) (take (span_count (get_or (take rows table) k [])) (drop n marks)) in
          let a : at ≡ 0 + length G.bytes = omega (arith, G.left.at_is) in
          let c : n ≡ 0 + length G.words = omega (arith, G.left.n_is) in
          record {
            bytes = G.bytes ++ (lead k ++ page);
            words = G.words ++ own;
            output_is = f
                ∙ ap (λ (x : List ℕ). sets x (at + length (lead k)) page) (e ∙ ap (λ (x : List ℕ). sets x at (lead k)) G.output_is)
                ∙ sym (put_both (sets output₀ 0 G.bytes) at (lead k) page)
                ∙ ap (λ (i : ℕ). sets (sets output₀ 0 G.bytes) i (lead k ++ page)) a
                ∙ sym (put_both output₀ 0 G.bytes (lead k ++ page));
            spans_are = g
                ∙ ap (λ (x : List Words). sets x n own) G.spans_are
                ∙ ap (λ (i : ℕ). sets (sets spans₀ 0 G.words) i own) c
                ∙ sym (put_both spans₀ 0 G.words own);
            left = left_next (pages_of (take rows table) pages marks) (get_or (take rows table) k []) (drop (k + 1) (take rows table)) pages marks k from at n G.bytes G.words now;
          }

      -- a row's newline is put, then its page, from where that starts, and its spans
      pub going_next : {start : ℕ} {middle output' : List ℕ} {spans' : List Words}
          → (start ≡ at + length (lead k)) × (middle ≡ sets output at (lead k))
          → output' ≡ sets middle start (take (page_length (get_or (take rows table) k [])) (drop from pages))
          → spans' ≡ sets spans n (map (moved_words start n) (take (span_count (get_or (take rows table) k [])) (drop n marks)))
          → Going rows table pages marks output₀ spans₀ (k + 1) (from + page_length (get_or (take rows table) k [])) (start + page_length (get_or (take rows table) k [])) (n + span_count (get_or (take rows table) k [])) output' spans'
      going_next {middle} {output'} {spans'} e =
          subst
          (λ (s : ℕ). output' ≡ sets middle s (take (page_length (get_or (take rows table) k [])) (drop from pages))
          → spans' ≡ sets spans n (map (moved_words s n) (take (span_count (get_or (take rows table) k [])) (drop n marks)))
          → Going rows table pages marks output₀ spans₀ (k + 1) (from + page_length (get_or (take rows table) k [])) (s + page_length (get_or (take rows table) k [])) (n + span_count (get_or (take rows table) k [])) output' spans')
          (sym e.0)
          (going_put e.1)

    pub going_last : length (take rows table) ≤ k → Delivered rows table pages marks output₀ output spans₀ spans
    going_last h =
        let ps = pages_of (take rows table) pages marks in
        let none : drop k (take rows table) ≡ [] = drop_of_length-le (take rows table) {i = k} h in
        let whole = left_last ps pages marks k from at n G.bytes G.words (subst (λ (t : List Words). Left ps t pages marks k from at n G.bytes G.words) none G.left) in
        let put : output ≡ sets output₀ 0 (whole_bytes ps) = G.output_is ∙ ap (λ (x : List ℕ). sets output₀ 0 x) whole.0 in
        let long : length G.words ≡ length (whole_marks ps) = sym (length-map G.words span_of) ∙ ap length whole.1 in
        let fits : length G.words ≤ length spans₀ = omega (arith, long, D.spans_in) in
        record {
          output_is = front output₀ output (whole_bytes ps) D.output_in put;
          spans_are = ap (λ (x : List Words). map span_of x) (front_take spans₀ spans G.words (length (whole_marks ps)) long fits G.spans_are) ∙ whole.1;
          spans_past = front_drop spans₀ spans G.words (length (whole_marks ps)) long fits G.spans_are;
        }
