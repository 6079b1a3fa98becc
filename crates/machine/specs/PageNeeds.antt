-- What the materializer needs of each kind (document 02, change 10): output and spans as many as the page has, of the solver's kinds nothing.
use Rattle.std.specs.Prelude.{◌≡◌, refl, ℕ, zero, suc, ◌+◌, max, length}
use Rattle.std.proofs.Common.{ap, ◌∙◌, arith, length-append}
use Rattle.std.proofs.lemmas.List.{length-replicate}
use Rattle.layout.specs.Layout.{Plan, blank, put, line, join, mark, fee, page}
use Rattle.machine.specs.Events.{Kind, stack, memo, kept, frontier, plans, visit, depth, output, spans, Prog, ◌>>◌, say, Need, Visit}
use Rattle.machine.specs.Materializer.{marks, append_each, visit_plan, materialize}
use Rattle.machine.specs.Enough.{asks, peak, peak_bind}

-- of two programs, one behind the other, the greater need
pub peak_then : {A B : Type 0} (x : Kind) (m : Prog A) (r : Prog B) → peak x (m >> r) ≡ max (peak x m) (peak x r)
peak_then x m r = peak_bind x m (λ a. r)

-- a kind of which bytes need nothing
pub each_none : (x : Kind) → ((n : ℕ) → asks x (Need output n) ≡ 0) → (at n : ℕ) → peak x (append_each at n) ≡ 0
unfolding peak append_each
each_none x h at zero = refl
each_none x h at (suc n) = omega (arith, h (at + 1), each_none x h (at + 1) n)

each_output : (at n : ℕ) → max at (peak output (append_each at n)) ≡ at + n
unfolding peak append_each
each_output at zero = omega arith
each_output at (suc n) = omega (arith, each_output (at + 1) n)

-- ---- output and spans

then_both : (a x y l m : ℕ) → max a x ≡ a + l → max (a + l) y ≡ a + l + m → max a (max x y) ≡ a + (l + m)
then_both a x y l m h k = omega (arith, h, k)

-- the events of a mark, of output and of spans
none_asked : (x : ℕ) → max 0 (max 0 (max 0 (max 0 (max 0 x)))) ≡ x
none_asked x = omega arith

span_asked : (n x m : ℕ) → max (n + 1) x ≡ n + 1 + m → max n (max 0 (max (n + 1) (max 0 (max 0 (max 0 x))))) ≡ n + suc m
span_asked n x m h = ap (λ (k : ℕ). max n (max 0 (max (n + 1) k))) (none x) ∙ omega (arith, h)
  where
    none : (y : ℕ) → max 0 (max 0 (max 0 y)) ≡ y
    none y = omega arith

output_of : (p : Plan) (v d at n : ℕ) → max at (peak output (visit_plan p v d at n)) ≡ at + length (page p)
unfolding peak visit_plan
output_of blank v d at n = omega arith
output_of (put t) v d at n = omega arith
output_of (line i) v d at n = omega (arith, each_output at (i + 1), length-replicate {A = ℕ} i 32)
output_of (join p q) v d at n =
    let b = then_both at _ _ (length (page p)) (length (page q)) (output_of p (v + 1) d at n) (output_of q v d (at + length (page p)) (n + marks p)) in
    omega (arith, peak_then output (visit_plan p (v + 1) d at n) (visit_plan q v d (at + length (page p)) (n + marks p)), b, length-append (page p) (page q))
output_of (mark a p) v d at n = ap (λ (k : ℕ). max at k) (none_asked _) ∙ omega (arith, peak_then output (visit_plan p (v + 1) (d + 1) at (n + 1)) (say Visit), output_of p (v + 1) (d + 1) at (n + 1))
output_of (fee a p) v d at n = omega (arith, output_of p v d at n)

spans_of : (p : Plan) (v d at n : ℕ) → max n (peak spans (visit_plan p v d at n)) ≡ n + marks p
unfolding peak visit_plan
spans_of blank v d at n = omega arith
spans_of (put t) v d at n = omega arith
spans_of (line i) v d at n = omega (arith, each_none spans (λ k. refl) at (i + 1))
spans_of (join p q) v d at n =
    let b = then_both n _ _ (marks p) (marks q) (spans_of p (v + 1) d at n) (spans_of q v d (at + length (page p)) (n + marks p)) in
    omega (arith, peak_then spans (visit_plan p (v + 1) d at n) (visit_plan q v d (at + length (page p)) (n + marks p)), b)
spans_of (mark a p) v d at n = span_asked n _ (marks p) (omega (arith, peak_then spans (visit_plan p (v + 1) (d + 1) at (n + 1)) (say Visit), spans_of p (v + 1) (d + 1) at (n + 1)))
spans_of (fee a p) v d at n = omega (arith, spans_of p v d at n)

-- ---- the solver's kinds

-- a kind of which no item needs anything
record Apart (x : Kind) : Type 0 where
  pub of_visit : (n : ℕ) → asks x (Need visit n) ≡ 0
  pub of_depth : (n : ℕ) → asks x (Need depth n) ≡ 0
  pub of_output : (n : ℕ) → asks x (Need output n) ≡ 0
  pub of_spans : (n : ℕ) → asks x (Need spans n) ≡ 0

apart_of : (x : Kind) → Apart x → (p : Plan) (v d at n : ℕ) → peak x (visit_plan p v d at n) ≡ 0
unfolding peak visit_plan
apart_of x h blank v d at n = omega arith
apart_of x h (put t) v d at n = omega (arith, h.of_output (at + length t.bytes))
apart_of x h (line i) v d at n = omega (arith, each_none x h.of_output at (i + 1))
apart_of x h (join p q) v d at n =
    omega (arith, h.of_visit (v + 1), h.of_visit (v + 2), peak_then x (visit_plan p (v + 1) d at n) (visit_plan q v d (at + length (page p)) (n + marks p)), apart_of x h p (v + 1) d at n, apart_of x h q v d (at + length (page p)) (n + marks p))
apart_of x h (mark a p) v d at n =
    omega (arith, h.of_spans (n + 1), h.of_depth (d + 1), h.of_visit (v + 1), h.of_visit (v + 2), peak_then x (visit_plan p (v + 1) (d + 1) at (n + 1)) (say Visit), apart_of x h p (v + 1) (d + 1) at (n + 1))
apart_of x h (fee a p) v d at n = omega (arith, h.of_visit (v + 1), apart_of x h p v d at n)

-- ---- the whole walk

module _ (p : Plan) where
  apart : (x : Kind) → Apart x → peak x (materialize p) ≡ 0
  unfolding peak materialize
  apart x h = omega (arith, h.of_visit 1, apart_of x h p 0 0 0 0)

  pub output_need : peak output (materialize p) ≡ length (page p)
  unfolding peak materialize
  output_need = omega (arith, output_of p 0 0 0 0)

  pub spans_need : peak spans (materialize p) ≡ marks p
  unfolding peak materialize
  spans_need = omega (arith, spans_of p 0 0 0 0)

  pub no_stack : peak stack (materialize p) ≡ 0
  no_stack = apart stack (record { of_visit = λ n. refl; of_depth = λ n. refl; of_output = λ n. refl; of_spans = λ n. refl })

  pub no_memo : peak memo (materialize p) ≡ 0
  no_memo = apart memo (record { of_visit = λ n. refl; of_depth = λ n. refl; of_output = λ n. refl; of_spans = λ n. refl })

  pub no_kept : peak kept (materialize p) ≡ 0
  no_kept = apart kept (record { of_visit = λ n. refl; of_depth = λ n. refl; of_output = λ n. refl; of_spans = λ n. refl })

  pub no_frontier : peak frontier (materialize p) ≡ 0
  no_frontier = apart frontier (record { of_visit = λ n. refl; of_depth = λ n. refl; of_output = λ n. refl; of_spans = λ n. refl })

  pub no_plans : peak plans (materialize p) ≡ 0
  no_plans = apart plans (record { of_visit = λ n. refl; of_depth = λ n. refl; of_output = λ n. refl; of_spans = λ n. refl })
