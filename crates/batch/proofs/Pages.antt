-- A reader finds after a batch what specs/Pages.antt says.
use Rattle.std.specs.Prelude.{◌≡◌, Ok, Err, refl, List, [], ◌∷◌, ◌++◌, map, ℕ, ◌+◌, ◌-◌, ◌≤◌, ◌<◌, length, get_or, take, drop}
use Rattle.std.proofs.Common.{sym, ap, subst, ◌∙◌, arith, length-set, length-take-le, take-take, take_at, drop_at, drop-drop, get_or-set_same, get_or-set_other, drop-set-lt}
use Rattle.std.proofs.lemmas.List.{length-map}
use Rattle.machine.specs.Events.{Bounds as Limits}
use Rattle.machine.specs.Answer.{Answer}
use Rattle.answer.specs.Page.{Promised}
use Rattle.solve_workspace.specs.declared.Bounds.{Bounds}
use Rattle.solve_workspace.specs.declared.RenderOptions.{RenderOptions}
use Rattle.solve_workspace.specs.Meets.{limits}
use Rattle.materialize.specs.Rows.{Row}
use Rattle.render.specs.declared.order.Lengths.{Lengths}
use Rattle.render.specs.Order.{InOrder}
use Rattle.render.specs.Rendered.{Rendered, meant, page_length, span_count, Front}
use Rattle.render.specs.Call.{settings}
use Rattle.layout.specs.SpanWords.{span_of}
use Rattle.report.specs.Lists.{drop_take}
use Rattle.desks.specs.Desks.{charged}
use Rattle.desks.specs.Lent.{work_in}
use Rattle.desks.specs.Served.{Kept}
use Rattle.desks.specs.Layer.{lent_unit}
use Rattle.call_words.specs.Words.{words}
use Rattle.desks.specs.declared.SharedRecord.{SharedRecord}
use Rattle.batch.specs.Documents.{cut}
use Rattle.batch.specs.Cuts.{length_cut}
use Rattle.batch.specs.Batched.{Batched, out_of_order as unordered, no_desk as wrong_desk, too_many, filed, begun}
use Rattle.batch.specs.Batch.{Batch, rest, One}
use Rattle.batch.specs.Within.{Inside, one_inside, part_in_order}
use Rattle.batch.specs.Sequence.{Singles, no_call, first_call, in_sequence}
use Rattle.batch.specs.Shift.{left_by, Shift, none, first}
use Rattle.batch.specs.Pages.{nothing, behind, Found, Past, Delivered}

-- ---- later documents leave what stands before them

record Keeps (F G : Batch) : Type 0 where
  pub output : take F.bytes G.output ≡ take F.bytes F.output
  pub rows : take F.spans G.rows ≡ take F.spans F.rows
  pub answers : (i : ℕ) → i < F.filed → get_or G.answers i [] ≡ get_or F.answers i []
  pub bytes_up : F.bytes ≤ G.bytes
  pub spans_up : F.spans ≤ G.spans
  pub filed_up : F.filed ≤ G.filed

keeps_self : (F : Batch) → Keeps F F
keeps_self F = record { output = refl; rows = refl; answers = λ i h. refl; bytes_up = omega arith; spans_up = omega arith; filed_up = omega arith }

front_kept : {A : Type 0} (n m : ℕ) (x y z : List A) → n ≤ m → take m x ≡ take m y → take n y ≡ take n z → take n x ≡ take n z
front_kept n m x y z h e f = sym (take-take n m x h) ∙ ap (λ (l : List _). take n l) e ∙ take-take n m y h ∙ f

keeps_then : {F G H : Batch} → Keeps F G → Keeps G H → Keeps F H
keeps_then {F} {G} {H} k j = record {
  output = front_kept F.bytes G.bytes H.output G.output F.output k.bytes_up j.output k.output;
  rows = front_kept F.spans G.spans H.rows G.rows F.rows k.spans_up j.rows k.rows;
  answers = λ i h. j.answers i (omega (arith, h, k.filed_up)) ∙ k.answers i h;
  bytes_up = omega (arith, k.bytes_up, j.bytes_up);
  spans_up = omega (arith, k.spans_up, j.spans_up);
  filed_up = omega (arith, k.filed_up, j.filed_up);
}

module _ {d : ℕ} {o : RenderOptions} {b : Bounds} {l : Lengths} where
  one_keeps : {file : List ℕ} {F G : Batch} → Inside b F → One d o b l file F G → Keeps F G
  one_keeps {file} {F} i h = subst (λ (G : Batch). Keeps F G) (sym h.after) (record {
    output = take_at (take F.bytes F.output) h.output F.bytes (length-take-le F.bytes F.output (omega (arith, i.bytes_in, i.output_lent)));
    rows = take_at (take F.spans F.rows) h.rows F.spans (length-take-le F.spans F.rows (omega (arith, i.spans_in, i.rows_lent)));
    answers = λ n e. get_or-set_other F.answers F.filed n (words h.told) [] (λ z. omega (arith, z, e));
    bytes_up = omega arith;
    spans_up = omega arith;
    filed_up = omega arith;
  })

  calls_keep : {files : List (List ℕ)} {F G : Batch} → Inside b F → Singles d o b l files F G → Keeps F G
  calls_keep i no_call = keeps_self _
  calls_keep i (first_call h s) = keeps_then (one_keeps i h) (calls_keep (one_inside i h) s)

-- ---- what stands in the free part stands there still

part_kept : {A : Type 0} (k n : ℕ) (was out last : List A) → k ≤ length was → take (k + n) last ≡ take (k + n) (take k was ++ out) → take n (drop k last) ≡ take n out
part_kept k n was out last h e =
    sym (drop_take k n last) ∙ ap (λ (x : List _). drop k x) e ∙ drop_take k n (take k was ++ out) ∙ ap (λ (x : List _). take n x) (drop_at (take k was) out k (length-take-le k was h))

meant_kept : (a : Rendered) (out x : List ℕ) (rows y : List Row) → take (page_length a) x ≡ take (page_length a) out → take (span_count a) y ≡ take (span_count a) rows → meant a out rows ≡ meant a x y
meant_kept (Ok p) out x rows y e f = rw (e, f) refl
meant_kept (Err z) out x rows y e g = refl

-- ---- what a page leaves of the sizes

left_is : (b : Bounds) (x y : ℕ) (a : Rendered) (out : List ℕ) (rows : List Row) → page_length a ≤ length out → span_count a ≤ length rows → limits (rest b (x + page_length a) (y + span_count a)) ≡ left_by (meant a out rows) (limits (rest b x y))
left_is b x y (Ok p) out rows h g =
    let e : b.output - (x + p.length) ≡ b.output - x - length (take p.length out) = omega (arith, length-take-le p.length out h) in
    let f : b.spans - (y + p.spans) ≡ b.spans - y - length (map span_of (take p.spans rows)) = omega (arith, length-map (take p.spans rows) span_of, length-take-le p.spans rows g) in
    rw (e, f) refl
left_is b x y (Err z) out rows h g =
    let e : x + 0 ≡ x = omega arith in
    let i : y + 0 ≡ y = omega arith in
    rw (e, i) refl

-- ---- a batch is a shift, and each answer of it stands in memory

module _ {d : ℕ} {o : RenderOptions} {b : Bounds} {l : Lengths} (in_order : InOrder o b l) where
  found_one : {file : List ℕ} {F G H : Batch} {files : List (List ℕ)} → Inside b F → F.filed < length F.answers → One d o b l file F G → Keeps G H → Found d o b files G H → Found d o b (file ∷ files) F H
  found_one {file} {F} {G} {H} {files} i n h k t =
      let a = h.told in
      let kept = subst (λ (X : Batch). Keeps X H) h.after k in
      let others = subst (λ (X : Batch). Found d o b files X H) h.after t in
      let x = part_kept F.bytes (page_length a) F.output h.output H.output (omega (arith, i.bytes_in, i.output_lent)) kept.output in
      let y = part_kept F.spans (span_count a) F.rows h.rows H.rows (omega (arith, i.spans_in, i.rows_lent)) kept.rows in
      let same : meant a h.output h.rows ≡ meant a (drop F.bytes H.output) (drop F.spans H.rows) = meant_kept a h.output (drop F.bytes H.output) h.rows (drop F.spans H.rows) x y in
      let went = lent_unit (part_in_order F.bytes F.spans in_order) h.call.right.serving.answers in
      let left = left_is b F.bytes F.spans a h.output h.rows (omega (arith, h.call.stands.output_is.within, h.output_length)) (omega (arith, h.call.stands.rows_are.within, h.rows_length)) in
      record {
        answers = meant a (drop F.bytes H.output) (drop F.spans H.rows) ∷ others.answers;
        shift = subst
            (λ (z : Answer). Shift d (settings o) (limits (rest b F.bytes F.spans)) F.shared.desks (file ∷ files) (z ∷ others.answers) (limits (rest b H.bytes H.spans)) H.shared.desks) same
            (first went (subst (λ (m : Limits). Shift d (settings o) m (charged F.shared.desks d (work_in a)) files others.answers (limits (rest b H.bytes H.spans)) H.shared.desks) left others.shift));
        standing = behind a (kept.answers F.filed (omega arith) ∙ get_or-set_same F.answers F.filed (words a) [] n)
            (subst (λ (z : Answer). Kept (Promised file (settings o)) z) same h.call.right.promised) others.standing;
      }

  pub found : {files : List (List ℕ)} {F G : Batch} → Inside b F → F.filed + length files ≤ length F.answers → Singles d o b l files F G → Found d o b files F G
  found i n no_call = record { answers = []; shift = none; standing = nothing }
  found {F = F} i n (first_call {files = files} {G = G} h s) =
      let e : length G.answers ≡ length F.answers = ap (λ (X : Batch). length X.answers) h.after ∙ length-set F.answers F.filed (words h.told) in
      let f : G.filed ≡ F.filed + 1 = ap (λ (X : Batch). X.filed) h.after in
      found_one i (omega (arith, n)) h (calls_keep (one_inside i h) s) (found (one_inside i h) (omega (arith, n, e, f)) s)

-- ---- what is past the last is unaltered

past_front : {A : Type 0} (k n : ℕ) (was out : List A) → k ≤ length was → n ≤ length out → Front n (drop k was) out → drop (k + n) (take k was ++ out) ≡ drop (k + n) was
past_front k n was out h g f =
    sym (drop-drop n k (take k was ++ out)) ∙ ap (λ (x : List _). drop n x) (drop_at (take k was) out k (length-take-le k was h) ∙ f.past)
    ∙ drop_at (take n out) (drop n (drop k was)) n (length-take-le n out g) ∙ drop-drop n k was

-- further on as well
past_on : {A : Type 0} (n m : ℕ) (x y z : List A) → n ≤ m → drop n y ≡ drop n z → drop m x ≡ drop m y → drop m x ≡ drop m z
past_on n m x y z h e f =
    let i : n + (m - n) ≡ m = omega (arith, h) in
    f ∙ subst (λ (j : ℕ). drop j y ≡ drop j z) i (sym (drop-drop (m - n) n y) ∙ ap (λ (l : List _). drop (m - n) l) e ∙ drop-drop (m - n) n z)

module _ {d : ℕ} {o : RenderOptions} {b : Bounds} {l : Lengths} where
  one_past : {file : List ℕ} {F G : Batch} → Inside b F → One d o b l file F G → Past F G
  one_past {F = F} i h = subst (λ (G : Batch). Past F G) (sym h.after) (record {
    output = past_front F.bytes (page_length h.told) F.output h.output (omega (arith, i.bytes_in, i.output_lent)) (omega (arith, h.call.stands.output_is.within, h.output_length)) h.call.stands.output_is;
    rows = past_front F.spans (span_count h.told) F.rows h.rows (omega (arith, i.spans_in, i.rows_lent)) (omega (arith, h.call.stands.rows_are.within, h.rows_length)) h.call.stands.rows_are;
    answers = drop-set-lt (F.filed + 1) F.answers F.filed (words h.told) (omega arith);
  })

  pub unaltered_past : {files : List (List ℕ)} {F G : Batch} → Inside b F → Singles d o b l files F G → Past F G
  unaltered_past i no_call = record { output = refl; rows = refl; answers = refl }
  unaltered_past {F = F} {G = H} i (first_call {G = G} h s) =
      let p = one_past i h in
      let q = unaltered_past (one_inside i h) s in
      let k = calls_keep (one_inside i h) s in
      record {
        output = past_on G.bytes H.bytes H.output G.output F.output k.bytes_up p.output q.output;
        rows = past_on G.spans H.spans H.rows G.rows F.rows k.spans_up p.rows q.rows;
        answers = past_on G.filed H.filed H.answers G.answers F.answers k.filed_up p.answers q.answers;
      }

-- ---- a batch, once its own refusals are passed

pub batch_pages : {d : ℕ} {o : RenderOptions} {b : Bounds} {l : Lengths} {files lengths : List ℕ} {s : SharedRecord} {output : List ℕ} {rows answers : List Row} {n : ℕ} {G : Batch} → l.output ≡ length output → l.spans ≡ length rows → n ≡ 0
    → Batched d o b l files lengths (begun s output rows answers) n G → Delivered d o b (cut files lengths) (begun s output rows answers) G
batch_pages e f z (unordered n) = absurd (omega (arith, z))
batch_pages e f z (wrong_desk m h) = absurd (omega (arith, z))
batch_pages e f z (too_many m h k) = absurd (omega (arith, z))
batch_pages {b = b} {files = files} {lengths = lengths} {s = s} {output = output} {rows = rows} {answers = answers} e f z (filed m h k g) =
    let i : Inside b (begun s output rows answers) = record { bytes_in = omega arith; spans_in = omega arith; output_lent = omega (arith, m.in_order.page.output, e); rows_lent = omega (arith, m.in_order.page.spans, f) } in
    record { pages = found m.in_order i (omega (arith, m.answers_lent, k, length_cut files lengths)) (in_sequence g); past = unaltered_past i (in_sequence g) }
