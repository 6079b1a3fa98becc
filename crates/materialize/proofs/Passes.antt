-- The first pass: what holds between its turns, and what it comes to.
use Rattle.std.specs.Prelude.{Result, Ok, Err}
use Rattle.std.specs.Result.{IsErrAnd}
use Rattle.std.proofs.lemmas.Result.{err_from_is_err_and}
use mathlib.Core.Path.{◌≡◌, refl, sym, ap, subst, ◌∙◌}
use mathlib.Core.List.{List, [], ◌∷◌, append-nil}
use Prim.Native.Nat.{ℕ, zero, suc, ◌+◌, ◌≤◌, ◌<◌, max}
use native.Mathlib.Omega.{arith}
use native.Mathlib.Numerals.{add-one}
use lib.ListN.{length, length-append, set, replicate, length-replicate}
use lib.Seq.{get_or-set_same}
use mathlib.Core.Option.{none}
use Rattle.file_tables.specs.Tables.{byte_length, byte_start}
use Rattle.layout.specs.Layout.{Plan, page}
use Rattle.machine.specs.Events.{no_counts, visit, depth, Need, ret, emit, ◌>>◌}
use Rattle.machine.specs.Materializer.{marks, visit_plan, materialize}
use Rattle.machine.specs.Enough.{peak}
use Rattle.materialize.specs.declared.Capacity.{Capacity}
use Rattle.materialize.specs.declared.Exhausted.TheVariants.{Visit}
use Rattle.materialize.specs.declared.Walk.{Walk}
use Rattle.materialize.specs.declared.Act.{Act}
use Rattle.materialize.specs.declared.Passed.{Passed}
use Rattle.materialize.specs.Rows.{Row}
use Rattle.materialize.specs.Texts.{text_row, InBytes}
use Rattle.materialize.specs.Answer.{measured_with, passed_with, told}
use Rattle.materialize.specs.Walks.{Visited, went, Around, begin, ran, pile, works, plan, ahead, pages, marks_in, puts, Sound, Walked, Turned, Answered}
use Rattle.materialize.proofs.Runs.{Program, need_go, need_stop}
use Rattle.materialize.proofs.Moves.{spans_length}

-- ---- texts lie among some bytes, and some bounds and counts are around

reach : List Row → ℕ
reach [] = 0
reach (r ∷ X) = byte_start r + byte_length r + reach X

reach_le : (X : List Row) (t : ℕ) → t < length X → byte_start (text_row X t) + byte_length (text_row X t) ≤ reach X
unfolding reach
reach_le [] t h = absurd (omega arith)
reach_le (r ∷ X) zero h = omega arith
reach_le (r ∷ X) (suc t) h = omega (arith, reach_le X t (omega arith))

pub some_bytes : List Row → List ℕ
some_bytes X = replicate (reach X) 0

pub in_some : (X : List Row) → InBytes X (some_bytes X)
unfolding some_bytes
in_some X = record { within = λ t h. omega (arith, reach_le X t h, length-replicate {A = ℕ} (reach X) 0) }

pub some_around : Around
some_around = record {
  bounds = record { stack = 0; memo = 0; kept = 0; frontier = 0; plans = 0; visit = 0; depth = 0; output = 0; spans = 0; work_limit = 0; visit_limit = 0 };
  counts = no_counts;
}

-- what a `?` returns, where the error keeps its type
pub err_is : {T E : Type 0} {r : Result T E} {d : E} → IsErrAnd r (λ e. e ≡ d) → r ≡ Err d
err_is {r = r} h = let p = err_from_is_err_and r h in rw (p.1, p.2) refl

-- ---- a turn's promise, by what it answers

pub turned_went : (c : Capacity) (o : Around) (P X : List Row) (bytes e x : List ℕ) (w z : Walk) (a : Act) (r : Visited) → Turned c o P X bytes e w x r → r ≡ went z a
    → Walked c o P X bytes (pile e w.top) w (pile x z.top) z a
turned_went c o P X bytes e x w z a r h q = subst (λ (s : Visited). Turned c o P X bytes e w x s) q h

pub turned_stopped : (c : Capacity) (o : Around) (P X : List Row) (bytes e x : List ℕ) (w : Walk) (q : Passed) (r : Visited)
    → Turned c o P X bytes e w x r → r ≡ Err q
    → ran c o w.visits (ahead (works (plan P X bytes) (pile e w.top)) w) ≡ told o.counts (Err q)
turned_stopped c o P X bytes e x w q r h p = subst (λ (s : Visited). Turned c o P X bytes e w x s) p h

-- ---- between the turns

pub record Along (c : Capacity) (o : Around) (P X : List Row) (bytes : List ℕ) (root : ℕ) (S : List ℕ) (w : Walk) : Type 0 where
  pub leads : ran c o 0 (materialize (plan P X bytes root)) ≡ ran c o w.visits (ahead (works (plan P X bytes) S) w)
  pub sized : w.at + length (pages (works (plan P X bytes) S)) ≡ length (page (plan P X bytes root))
  pub counted : w.spans + marks_in (works (plan P X bytes) S) ≡ marks (plan P X bytes root)

-- so many items and so many open spans were the most so far
pub record Reaching (P X : List Row) (bytes : List ℕ) (root : ℕ) (S : List ℕ) (w : Walk) (high deep : ℕ) : Type 0 where
  pub top_le : w.top ≤ high
  pub depth_le : w.depth ≤ deep
  pub highest : max high (peak visit (ahead (works (plan P X bytes) S) w)) ≡ peak visit (materialize (plan P X bytes root))
  pub deepest : max deep (peak depth (ahead (works (plan P X bytes) S) w)) ≡ peak depth (materialize (plan P X bytes root))

whole : (p : Plan) → materialize p ≡ emit (Need visit 1) (visit_plan p 0 0 0 0)
unfolding materialize
whole p = refl

then_nothing : (m : Program) → (m >> ret tt) ≡ m
then_nothing (ret a) = refl
then_nothing (emit e m) = ap (emit e) (then_nothing m)

pub first_pile : (e : List ℕ) (root : ℕ) → 0 < length e → pile (set e 0 (root + 1)) 1 ≡ suc root ∷ []
first_pile e root h = ap (λ (x : ℕ). x ∷ []) (get_or-set_same e 0 (root + 1) 0 h ∙ add-one root)

pub sound_begin : (c : Capacity) (n : ℕ) (e : List ℕ) (root : ℕ) → 0 < c.visit → 0 < length e → root < n → Sound c n (pile (set e 0 (root + 1)) 1) begin
sound_begin c n e root v h r =
    rw (first_pile e root h)
    (record { top_le = omega arith; at_le = omega arith; visits_le = omega arith; spans_le = omega arith; depth_le = omega arith; depth_is = refl; valid = (omega arith, tt) })

pub along_begin : (c : Capacity) (o : Around) (P X : List Row) (bytes : List ℕ) (root : ℕ) (e : List ℕ) → 0 < c.visit → 0 < length e
    → Along c o P X bytes root (pile (set e 0 (root + 1)) 1) begin
along_begin c o P X bytes root e v h =
    let p = plan P X bytes root in
    rw (first_pile e root h)
    (record {
      leads = ap (ran c o 0) (whole p) ∙ (need_go c o visit 0 1 (visit_plan p 0 0 0 0) (omega arith) ∙ ap (ran c o 0) (sym (then_nothing (visit_plan p 0 0 0 0))));
      sized = rw (append-nil (page p)) (omega arith);
      counted = omega arith;
    })

pub along_step : {c : Capacity} {o : Around} {P X : List Row} {bytes : List ℕ} {root : ℕ} {S U : List ℕ} {w z : Walk} {a : Act}
    → Along c o P X bytes root S w → Walked c o P X bytes S w U z a → Along c o P X bytes root U z
along_step {P = P} {X = X} {bytes = bytes} {U = U} {a = a} h g =
    let m = g.moved in
    record {
      leads = h.leads ∙ m.leads;
      sized = omega (arith, h.sized, ap length m.put, length-append (puts bytes a) (pages (works (plan P X bytes) U)), m.at_is);
      counted = m.marked ∙ h.counted;
    }

pub reaching_begin : (P X : List Row) (bytes : List ℕ) (root : ℕ) (e : List ℕ) → 0 < length e → Reaching P X bytes root (pile (set e 0 (root + 1)) 1) begin 1 0
unfolding peak
reaching_begin P X bytes root e h =
    let p = plan P X bytes root in
    rw (first_pile e root h)
    (record {
      top_le = omega arith;
      depth_le = omega arith;
      highest = rw (whole p, then_nothing (visit_plan p 0 0 0 0)) refl;
      deepest = rw (whole p, then_nothing (visit_plan p 0 0 0 0)) refl;
    })

-- what was the most, and what there is now
further : (a b x p q : ℕ) → a ≤ x → max a p ≡ max (max a b) q → max x p ≡ max (max x b) q
further a b x p q h e = omega (arith, h, e)

pub reaching_step : {c : Capacity} {o : Around} {P X : List Row} {bytes : List ℕ} {root : ℕ} {S U : List ℕ} {w z : Walk} {a : Act} {high deep x y : ℕ}
    → Reaching P X bytes root S w high deep → Walked c o P X bytes S w U z a → x ≡ max high z.top → y ≡ max deep z.depth → Reaching P X bytes root U z x y
reaching_step {P = P} {X = X} {bytes = bytes} {w = w} {z = z} {high = high} {deep = deep} h g i j =
    let m = g.moved in
    rw (i, j)
    (record {
      top_le = omega arith;
      depth_le = omega arith;
      highest = sym (further w.top z.top high _ _ h.top_le m.highest) ∙ h.highest;
      deepest = sym (further w.depth z.depth deep _ _ h.depth_le m.deepest) ∙ h.deepest;
    })

-- ---- what it comes to

pub along_end : (c : Capacity) (P X : List Row) (bytes : List ℕ) (root : ℕ) (e : List ℕ) (w : Walk) (high deep : ℕ) → ((o : Around) → Along c o P X bytes root (pile e w.top) w)
    → Reaching P X bytes root (pile e w.top) w high deep → w.top ≡ 0 → Answered c (plan P X bytes root) (Ok (measured_with w.at w.spans w.visits high deep))
unfolding ran peak
along_end c P X bytes root e w high deep h t q =
    let k : (o : Around) → Along c o P X bytes root [] w = λ o. subst (λ (n : ℕ). Along c o P X bytes root (pile e n) w) q (h o) in
    let f : w.at ≡ length (page (plan P X bytes root)) = omega (arith, (k some_around).sized) in
    let g : w.spans ≡ marks (plan P X bytes root) = omega (arith, (k some_around).counted) in
    let y : Reaching P X bytes root [] w high deep = subst (λ (n : ℕ). Reaching P X bytes root (pile e n) w high deep) q t in
    record {
      answer = λ o. sym (k o).leads;
      sized = (f, g ∙ sym (spans_length (plan P X bytes root) 0 none 0));
      needing = (omega (arith, y.highest), omega (arith, y.deepest));
    }

pub along_stop : (c : Capacity) (P X : List Row) (bytes : List ℕ) (root : ℕ) (S : List ℕ) (w : Walk) (e : Passed) → ((o : Around) → Along c o P X bytes root S w)
    → ((o : Around) → ran c o w.visits (ahead (works (plan P X bytes) S) w) ≡ told o.counts (Err e)) → Answered c (plan P X bytes root) (Err e)
along_stop c P X bytes root S w e h q = record { answer = λ o. sym ((h o).leads ∙ q o); sized = tt; needing = tt }

pub none_fits : (c : Capacity) (p : Plan) → c.visit ≡ 0 → Answered c p (Err (passed_with Visit 1 0))
none_fits c p h = record { answer = λ o. sym (ap (ran c o 0) (whole p) ∙ need_stop c o visit 0 1 (visit_plan p 0 0 0 0) (omega arith)); sized = tt; needing = tt }
