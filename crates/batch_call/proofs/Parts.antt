-- One document, on the parts that are free.
use mathlib.Core.Path.{◌≡◌, refl, sym, ap, subst, ◌∙◌}
use mathlib.Core.List.{List, [], ◌++◌, append-nil}
use Prim.Native.Nat.{ℕ, suc, ◌+◌, ◌-◌, ◌≤◌, ◌<◌, ◌^◌}
use native.Mathlib.Omega.{arith}
use lib.ListN.{length, get_or, take, drop, set, length-drop, length-set, drop_of_length-le}
use lib.Seq.{take_all, get_or-set_same}
use Rattle.stats.specs.declared.SolveStats.{SolveStats}
use Rattle.solve_workspace.specs.declared.Bounds.{Bounds}
use Rattle.solve_workspace.specs.declared.RenderOptions.{RenderOptions}
use Rattle.materialize.specs.Rows.{Row}
use Rattle.render.specs.declared.order.Lengths.{Lengths}
use Rattle.render.specs.Rendered.{Rendered, counts_of}
use Rattle.desks.specs.declared.Desks.{Desks}
use Rattle.desks.specs.Desks.{remaining, charged}
use Rattle.desks.specs.Lent.{work_in}
use Rattle.desks.specs.Layer.{charged_on}
use Rattle.desks.specs.Calls.{DeskRendering}
use Rattle.desks.proofs.Calling.{work_of_call}
use Rattle.call_words.specs.Words.{words}
use Rattle.call_words.specs.Accounts.{counts_from}
use Rattle.call_words.specs.Again.{counts_told}
use Rattle.batch.specs.declared.Progress.{Progress}
use Rattle.batch.specs.Documents.{total, document}
use Rattle.batch.specs.Cuts.{total_suc, total_part}
use Rattle.batch.specs.Batch.{Batch, rest, rest_lent, One}
use Rattle.batch.specs.Values.{gone_on, Taken, last_counts, held}
use Rattle.batch.specs.Within.{page_within, spans_within, one_inside}
use Rattle.batch_call.specs.Going.{Ready, Tried}

-- ---- a part that goes to the end, and the whole with such a part put back

abbrev part : {A : Type 0} → ℕ → List A → List A
part n was = take (length was - n) (drop n was)

abbrev with_part : {A : Type 0} → ℕ → List A → List A → List A
with_part n was p = take n was ++ (p ++ drop (length was - n) (drop n was))

module _ {A : Type 0} (n : ℕ) (was : List A) where
  to_the_end : part n was ≡ drop n was
  to_the_end = take_all (length was - n) (drop n was) (omega (arith, length-drop n was))

  part_length : length (part n was) ≡ length was - n
  part_length = ap length to_the_end ∙ length-drop n was

  put_back : (p : List A) → with_part n was p ≡ take n was ++ p
  put_back p =
      let e : drop (length was - n) (drop n was) ≡ [] = drop_of_length-le (drop n was) {i = length was - n} (omega (arith, length-drop n was)) in
      ap (λ (z : List A). take n was ++ (p ++ z)) e ∙ ap (λ (z : List A). take n was ++ z) (append-nil p)

-- ---- the record

left_then : (D : Desks) (d w v : ℕ) → d < length D.spent → w ≤ remaining D d → v ≤ remaining (charged D d w) d → w + v ≤ remaining D d
left_then D d w v h f g = omega (arith, f, g, get_or-set_same D.spent d (get_or D.spent d 0 + w) 0 h)

last_told : (k : SolveStats) (n : ℕ) (answers : List Row) (a : Rendered) → n < length answers → last_counts k (n + 1) (set answers n (words a)) ≡ counts_of a
last_told k n answers a h =
    let e : n + 1 ≡ suc n = omega arith in
    ap (λ (i : ℕ). last_counts k i (set answers n (words a))) e ∙ ap (counts_from 7) (get_or-set_same answers n (words a) [] h) ∙ counts_told a

stands_as : {x y : SolveStats} {D E : Desks} {u v : List ℕ} {r t answers : List Row} {n m i : ℕ} → x ≡ y → D ≡ E → u ≡ v → r ≡ t
    → ◌≡◌ {A = Batch} (record { shared = record { stats = x; desks = D }; output = u; rows = r; answers = answers; bytes = n; spans = m; filed = i })
    (record { shared = record { stats = y; desks = E }; output = v; rows = t; answers = answers; bytes = n; spans = m; filed = i })
stands_as {answers = answers} {n = n} {m = m} {i = filed} e f g h = λ i. record { shared = record { stats = e i; desks = f i }; output = g i; rows = h i; answers = answers; bytes = n; spans = m; filed = filed }

-- ---- the call, from the parts that the code lends

-- lengths with another output and other spans
abbrev with_page : Lengths → ℕ → ℕ → Lengths
with_page l output spans = record {
  nodes = l.nodes;
  edges = l.edges;
  choices = l.choices;
  texts = l.texts;
  bytes = l.bytes;
  tasks = l.tasks;
  results = l.results;
  pending = l.pending;
  index = l.index;
  entries = l.entries;
  kept = l.kept;
  frontier = l.frontier;
  plans = l.plans;
  visit = l.visit;
  depth = l.depth;
  output = output;
  spans = spans;
}

carry : {d : ℕ} {D E : Desks} {file doc : List ℕ} {o : RenderOptions} {b c : Bounds} {l m : Lengths} {u v out : List ℕ} {x y rows : List Row} {a : Rendered} → D ≡ E → file ≡ doc → b ≡ c → l ≡ m → u ≡ v → x ≡ y
    → DeskRendering d D file o b l u out x rows a → DeskRendering d E doc o c m v out y rows a
carry {d} {o = o} {out = out} {rows = rows} {a = a} e f g h j k r = coe 0 1 (i. DeskRendering d (e i) (f i) o (g i) (h i) (j i) out (k i) rows a) r

module _ {d : ℕ} {D : Desks} {b : Bounds} {files lengths : List ℕ} {p : Progress} {output₀ : List ℕ} {rows₀ answers₀ : List Row} (R : Ready d D b files lengths p output₀ rows₀ answers₀) where
  pub bytes_there : p.bytes ≤ length output₀
  bytes_there = omega (arith, R.bytes_in, R.output_lent)

  pub spans_there : p.spans ≤ length rows₀
  spans_there = omega (arith, R.spans_in, R.rows_lent)

  module _ (h : p.filed < length lengths) where
    pub ends : p.at + get_or lengths p.filed 0 ≤ length files
    ends = omega (arith, R.at_is, total_suc lengths p.filed h, total_part lengths (p.filed + 1), R.files_lent)

    cut_out : take (p.at + get_or lengths p.filed 0 - p.at) (drop p.at files) ≡ document files lengths p.filed
    cut_out =
        let e : p.at + get_or lengths p.filed 0 - p.at ≡ get_or lengths p.filed 0 = omega arith in
        ap (λ (n : ℕ). take n (drop p.at files)) e ∙ ap (λ (n : ℕ). take (get_or lengths p.filed 0) (drop n files)) R.at_is

    module _ {E : Desks} {o : RenderOptions} {c : Bounds} {l : Lengths} {out : List ℕ} {rows : List Row} {a : Rendered} (DIs : E ≡ charged D d p.work) (b-is : c ≡ rest b p.bytes p.spans)
        (output_is : l.output ≡ length output₀) (rows_are : l.spans ≡ length rows₀)
        (call : DeskRendering d E (take (p.at + get_or lengths p.filed 0 - p.at) (drop p.at files)) o c
        (with_page l (length (part p.bytes output₀)) (length (part p.spans rows₀)))
        (part p.bytes output₀) out (part p.spans rows₀) rows a)
        (out_same : length out ≡ length (part p.bytes output₀)) (rows_same : length rows ≡ length (part p.spans rows₀))
      where
        lent : with_page l (length (part p.bytes output₀)) (length (part p.spans rows₀)) ≡ rest_lent l p.bytes p.spans
        lent = rw (part_length p.bytes output₀, part_length p.spans rows₀, output_is, rows_are) refl

        carried : DeskRendering d (charged D d p.work) (document files lengths p.filed) o (rest b p.bytes p.spans) (rest_lent l p.bytes p.spans)
            (drop p.bytes output₀) out (drop p.spans rows₀) rows a
        carried = carry DIs cut_out b-is lent (to_the_end p.bytes output₀) (to_the_end p.spans rows₀) call

        out_length : length out ≡ length (drop p.bytes output₀)
        out_length = out_same ∙ ap length (to_the_end p.bytes output₀)

        rows_length : length rows ≡ length (drop p.spans rows₀)
        rows_length = rows_same ∙ ap length (to_the_end p.spans rows₀)

        work_left_then : p.work + work_in a ≤ remaining D d
        work_left_then =
            left_then D d p.work (work_in a) (omega (arith, R.desk, R.counted)) R.work_in (work_of_call carried)

        -- what it takes has its place
        pub takes : Taken p a
        takes = (
          omega (arith, h, R.few),
          omega (arith, page_within out_length rows_length a carried, R.bytes_in, R.sizes.0),
          omega (arith, spans_within out_length rows_length a carried, R.spans_in, R.sizes.1),
          omega (arith, work_left_then, R.allowance),
        )

        module _ {w : Row} {q : Progress} (told : w ≡ words a) (low : get_or w 5 0 < 2 ^ 64) (goes : q ≡ gone_on p (p.at + get_or lengths p.filed 0) a) where
          one_told : (k : SolveStats)
              → One d o b l (document files lengths p.filed) (held d (record { stats = k; desks = D }) p output₀ rows₀ answers₀)
              (held d (record { stats = k; desks = D }) q (with_part p.bytes output₀ out)
              (with_part p.spans rows₀ rows) (set answers₀ p.filed w))
          one_told k = record {
            told = a;
            output = out;
            rows = rows;
            call = carried;
            output_length = out_length;
            rows_length = rows_length;
            low_word = subst (λ (z : Row). get_or z 5 0 < 2 ^ 64) told low;
            after = ap (λ (z : Progress). held d (record { stats = k; desks = D }) z (with_part p.bytes output₀ out)
                (with_part p.spans rows₀ rows) (set answers₀ p.filed w)) goes
                ∙ ap (λ (z : Row). held d (record { stats = k; desks = D }) (gone_on p (p.at + get_or lengths p.filed 0) a) (with_part p.bytes output₀ out)
                (with_part p.spans rows₀ rows) (set answers₀ p.filed z)) told
                ∙ stands_as (last_told k p.filed answers₀ a (omega (arith, h, R.answers_lent))) (sym (charged_on D d p.work (work_in a) (omega (arith, R.desk, R.counted))))
                (put_back p.bytes output₀ out) (put_back p.spans rows₀ rows);
          }

          pub tried : Tried d D o b l files lengths p output₀ (with_part p.bytes output₀ out)
              rows₀ (with_part p.spans rows₀ rows) answers₀ (set answers₀ p.filed w) q
          tried =
              let i = one_inside (record { bytes_in = R.bytes_in; spans_in = R.spans_in; output_lent = R.output_lent; rows_lent = R.rows_lent }) (one_told (counts_of a)) in
              record {
                one = one_told;
                filed_is = ap (λ (z : Progress). z.filed) goes;
                ready = record {
                  desk = R.desk;
                  few = R.few;
                  answers_lent = omega (arith, R.answers_lent, length-set answers₀ p.filed w);
                  files_lent = R.files_lent;
                  output_lent = i.output_lent;
                  rows_lent = i.rows_lent;
                  bytes_in = i.bytes_in;
                  spans_in = i.spans_in;
                  at_is = subst (λ (z : Progress). z.at ≡ total (take z.filed lengths)) (sym goes) (omega (arith, R.at_is, total_suc lengths p.filed h));
                  work_in = subst (λ (z : Progress). z.work ≤ remaining D d) (sym goes) work_left_then;
                  sizes = R.sizes;
                  counted = R.counted;
                  allowance = R.allowance;
                };
              }
