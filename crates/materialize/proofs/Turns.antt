-- What each way through a turn promises, over the tables and the words of the visit stack.
use Rattle.std.specs.Prelude.{Err}
use mathlib.Core.Path.{◌≡◌, refl, sym, ap, ap₂, subst, ◌∙◌}
use mathlib.Core.Bool.{Bool, true, false, cond}
use mathlib.Core.List.{List, ◌∷◌}
use Prim.Native.Nat.{ℕ, zero, suc, ◌+◌, ◌-◌, ◌≤◌, ◌<◌}
use native.Mathlib.Omega.{arith}
use native.Mathlib.Numerals.{add-one}
use lib.Dec.{leb}
use borrow.Author.Tests.{leb-true, leb-false}
use lib.ListN.{length, length-drop, get_or, set, take, drop, length-set, length-map}
use lib.Seq.{get_or-set_same, get_or-set_other, length-take-le}
use Rattle.file_tables.specs.declared.TextId.{TextId}
use Rattle.file_tables.specs.declared.AnnotationId.{AnnotationId}
use Rattle.file_tables.specs.Tables.{byte_length, byte_start}
use Rattle.layout.specs.Layout.{Plan, blank, put, line, join, mark, fee}
use Rattle.plan.specs.declared.PlanId.{PlanId}
use Rattle.plan.specs.declared.PlanNode.{PlanNode}
use Rattle.plan.specs.declared.PlanNode.TheVariants.{Empty, Text, Newline, Concat, Annotate, Penalty}
use Rattle.plan.specs.Records.{node_at}
use Rattle.plan.specs.Arena.{arena}
use Rattle.plan.specs.Layouts.{layout_of, layouts, Fine, Ranked}
use Rattle.plan.specs.Uses.{layout_is, arena_node, arena_length}
use Rattle.machine.specs.Events.{Prog, ◌>>◌, Out, visit, depth, output, spans}
use Rattle.machine.specs.Materializer.{visit_plan}
use Rattle.materialize.specs.declared.Capacity.{Capacity}
use Rattle.materialize.specs.declared.Exhausted.TheVariants.{Visit, Depth, Output, Spans, Visits}
use Rattle.materialize.specs.declared.Walk.{Walk}
use Rattle.materialize.specs.declared.Act.{Act}
use Rattle.materialize.specs.declared.Act.TheVariants.{Pass, Put, Line, Open, Close}
use Rattle.materialize.specs.Rows.{Row}
use Rattle.materialize.specs.Texts.{text_row, text_at, InBytes}
use Rattle.materialize.specs.Answer.{passed_with, told}
use Rattle.materialize.specs.Walks.{Visited, went, stopped, Around, ran, Work, Lay, item, pile, works, plan, ahead, exits, at_top, at_byte, one_more, text_turn, newline_turn, two_turn, two_words, annotate_turn, annotate_words, Valid, Sound, Standing, Moved, Walked, Turned}
use Rattle.materialize.proofs.Runs.{plan_blank, plan_put, plan_line, plan_join, plan_mark, plan_fee, visit_go, visit_stop, need_go, need_stop, each_stop}
use Rattle.materialize.proofs.Moves.{step, moves_blank, moves_put, moves_line, moves_join, moves_mark, moves_fee, moves_exit}

-- ---- the words as a stack

pile_length : (s : List ℕ) (n : ℕ) → length (pile s n) ≡ n
pile_length s zero = refl
pile_length s (suc n) = ap suc (pile_length s n)

pile_set : (s : List ℕ) (n i x : ℕ) → n ≤ i → pile (set s i x) n ≡ pile s n
pile_set s zero i x h = refl
pile_set s (suc n) i x h = ap₂ (λ (a : ℕ) (l : List ℕ). a ∷ l) (get_or-set_other s i n x 0 (λ e. omega arith)) (pile_set s n i x (omega arith))

pub pile_one : (s : List ℕ) (t x : ℕ) → t < length s → pile (set s t x) (t + 1) ≡ x ∷ pile s t
pile_one s t x h = rw (add-one t) (ap₂ (λ (a : ℕ) (l : List ℕ). a ∷ l) (get_or-set_same s t x 0 h) (pile_set s t t x (omega arith)))

pile_two : (s : List ℕ) (t x y : ℕ) → t + 1 < length s → pile (set (set s t y) (t + 1) x) (t + 2) ≡ x ∷ y ∷ pile s t
pile_two s t x y h =
    let e : t + 2 ≡ t + 1 + 1 = omega arith in
    let l : t + 1 < length (set s t y) = rw (length-set s t y) h in
    rw e (pile_one (set s t y) (t + 1) x l ∙ ap (λ (r : List ℕ). x ∷ r) (pile_one s t y (omega arith)))

-- ---- plans

plan_is : (P X : List Row) (bytes : List ℕ) (i : ℕ) → Ranked (length X) (arena P (length P)) → i < length P
    → plan P X bytes i ≡ layout_of (text_at X bytes) (layouts (text_at X bytes) (arena P (length P))) (node_at P i)
plan_is P X bytes i r h =
    layout_is (text_at X bytes) (length X) (arena P (length P)) r i (rw (arena_length P (length P)) h)
    ∙ ap (layout_of (text_at X bytes) (layouts (text_at X bytes) (arena P (length P)))) (arena_node P (length P) i h)

fine_is : (P X : List Row) (i : ℕ) → Ranked (length X) (arena P (length P)) → i < length P → Fine (length X) i (node_at P i)
fine_is P X i r h = subst (λ (x : PlanNode). Fine (length X) i x) (arena_node P (length P) i h) (r.fine i (rw (arena_length P (length P)) h))

-- ---- an item is taken

-- the word x lies on top, above t others, and may be taken
pub record Popped (c : Capacity) (P X : List Row) (e : List ℕ) (w : Walk) (t x : ℕ) : Type 0 where
  pub standing : Standing c P X e w
  pub top_is : w.top ≡ suc t
  pub word : get_or e t 0 ≡ x
  pub left : w.visits < c.visit_limit

pub popped_exit : {c : Capacity} {P X : List Row} {e : List ℕ} {w : Walk} → Standing c P X e w → get_or e (w.top - 1) 0 ≡ 0 → w.visits < c.visit_limit
    → Popped c P X e w (w.top - 1) 0
popped_exit s q l = record { standing = s; top_is = omega (arith, s.some_left); word = q; left = l }

pub popped_plan : {c : Capacity} {P X : List Row} {e : List ℕ} {w : Walk} → Standing c P X e w → (get_or e (w.top - 1) 0 ≡ 0 → ⊥) → w.visits < c.visit_limit
    → Popped c P X e w (w.top - 1) (suc (get_or e (w.top - 1) 0 - 1))
popped_plan s q l = record { standing = s; top_is = omega (arith, s.some_left); word = omega (arith, q); left = l }

pub turned_by : (c : Capacity) (o : Around) (P X : List Row) (bytes e : List ℕ) (w : Walk) {x y : List ℕ} {r s : Visited} → x ≡ y → r ≡ s
    → Turned c o P X bytes e w y s → Turned c o P X bytes e w x r
turned_by c o P X bytes e w {x} {y} {r} {s} p q h =
    subst (λ (z : List ℕ). Turned c o P X bytes e w z r) (sym p) (subst (λ (z : Visited). Turned c o P X bytes e w y z) (sym q) h)

first_stop : (c : Capacity) (o : Around) (k : ℕ) (p : Plan) (v d at n : ℕ) (r : Prog (Unit {0})) → c.visit_limit ≤ k
    → ran c o k (visit_plan p v d at n >> r) ≡ told o.counts (Err (passed_with Visits 0 k))
first_stop c o k blank v d at n r h = ap (ran c o k) (plan_blank _ _ _ _ _) ∙ visit_stop c o k _ h
first_stop c o k (put t) v d at n r h = ap (ran c o k) (plan_put _ _ _ _ _ t) ∙ visit_stop c o k _ h
first_stop c o k (line i) v d at n r h = ap (ran c o k) (plan_line _ _ _ _ _ i) ∙ visit_stop c o k _ h
first_stop c o k (join p q) v d at n r h = ap (ran c o k) (plan_join _ _ _ _ _ p q) ∙ visit_stop c o k _ h
first_stop c o k (mark a p) v d at n r h = ap (ran c o k) (plan_mark _ _ _ _ _ a p) ∙ visit_stop c o k _ h
first_stop c o k (fee a p) v d at n r h = ap (ran c o k) (plan_fee _ _ _ _ _ a p) ∙ visit_stop c o k _ h

-- the visit limit comes before the item
pub spent : (c : Capacity) (o : Around) (P X : List Row) (bytes e : List ℕ) (w : Walk) (t : ℕ) → w.top ≡ suc t → c.visit_limit ≤ w.visits
    → Turned c o P X bytes e w e (stopped Visits 0 w.visits)
spent c o P X bytes e w t q h =
    subst (λ (n : ℕ). ran c o w.visits (ahead (works (plan P X bytes) (pile e n)) w) ≡ told o.counts (Err (passed_with Visits 0 w.visits))) (sym q) (go (get_or e t 0))
  where
    go : (x : ℕ) → ran c o w.visits (ahead (works (plan P X bytes) (x ∷ pile e t)) w) ≡ told o.counts (Err (passed_with Visits 0 w.visits))
    go zero = visit_stop c o w.visits _ h
    go (suc i) = first_stop c o w.visits (plan P X bytes i) _ _ _ _ _ h

module _ {c : Capacity} {P X : List Row} {e : List ℕ} {w : Walk} {t x : ℕ} (p : Popped c P X e w t x) where
  abbrev pub sound : Sound c (length P) (pile e w.top) w
  sound = p.standing.sound

  pop : pile e w.top ≡ x ∷ pile e t
  pop = ap (pile e) p.top_is ∙ ap (λ (y : ℕ). y ∷ pile e t) p.word

  valid_top : (x ≤ length P) × Valid (length P) (pile e t)
  valid_top = subst (λ (S : List ℕ). Valid (length P) S) pop sound.valid

  works_top : (g : ℕ → Plan) → works g (pile e w.top) ≡ item g x ∷ works g (pile e t)
  works_top g = ap (works g) pop

  depth_top : w.depth ≡ exits (x ∷ pile e t)
  depth_top = sound.depth_is ∙ ap exits pop

pub depth_pos : {c : Capacity} {P X : List Row} {e : List ℕ} {w : Walk} {t : ℕ} → Popped c P X e w t 0 → 0 < w.depth
depth_pos p = omega (arith, depth_top p)

module _ {c : Capacity} {P X : List Row} {e : List ℕ} {w : Walk} {t i : ℕ} (p : Popped c P X e w t (suc i)) where
  pub below : i < length P
  below = omega (arith, (valid_top p).0)

  pub fine_at : (x : PlanNode) → node_at P i ≡ x → Fine (length X) i x
  fine_at x q = subst (λ (y : PlanNode). Fine (length X) i y) q (fine_is P X i p.standing.ranked below)

abbrev under : (ℕ → Plan) → List ℕ → ℕ → List Work
under g e t = works g (pile e t)

under_length : (g : ℕ → Plan) (e : List ℕ) (t : ℕ) → length (under g e t) ≡ t
under_length g e t = length-map (pile e t) (item g) ∙ pile_length e t

module _ (c : Capacity) (o : Around) (P X : List Row) (bytes e : List ℕ) (w : Walk) (t : ℕ) where
  abbrev g : ℕ → Plan
  g = plan P X bytes

  abbrev laid : PlanNode → Plan
  laid x = layout_of (text_at X bytes) (layouts (text_at X bytes) (arena P (length P))) x

  abbrev After : List ℕ → Visited → Type 0
  After x r = Turned c o P X bytes e w x r

  pub exit_turned : Popped c P X e w t 0 → After e (went (record { top = t; depth = w.depth - 1; at = w.at; spans = w.spans; visits = w.visits + 1 }) Close)
  exit_turned p =
      let s = sound p in
      let d : w.depth ≡ suc (exits (pile e t)) = depth_top p in
      record {
        moved = rw (works_top p g) (moves_exit c o bytes (under g e t) w p.left t (under_length g e t) p.top_is (omega arith));
        sound = record {
          top_le = omega (arith, p.top_is, s.top_le);
          at_le = s.at_le;
          visits_le = omega (arith, p.left);
          spans_le = s.spans_le;
          depth_le = omega (arith, s.depth_le);
          depth_is = omega arith;
          valid = (valid_top p).1;
        };
      }

  module _ (i : ℕ) (p : Popped c P X e w t (suc i)) where
    lays : (x : PlanNode) → node_at P i ≡ x → works g (pile e w.top) ≡ Lay (laid x) ∷ under g e t
    lays x q = works_top p g ∙ ap (λ (r : Plan). Lay r ∷ under g e t) (plan_is P X bytes i p.standing.ranked (below p) ∙ ap laid q)

    seen : (x : PlanNode) → node_at P i ≡ x → (r : Out (Unit {0})) → ran c o w.visits (ahead (Lay (laid x) ∷ under g e t) w) ≡ r
        → ran c o w.visits (ahead (works g (pile e w.top)) w) ≡ r
    seen x q r h = rw (lays x q) h

    walks : (x : PlanNode) → node_at P i ≡ x → (S : List ℕ) (z : Walk) (a : Act)
        → Moved c o bytes (Lay (laid x) ∷ under g e t) w (works g S) z a → Sound c (length P) S z → Walked c o P X bytes (pile e w.top) w S z a
    walks x q S z a m s = record { moved = rw (lays x q) m; sound = s }

    room : t + 1 ≤ c.visit
    room = omega (arith, p.top_is, (sound p).top_le)

    same_sound : (z : Walk) → z.top ≤ c.visit → z.at ≤ c.output → z.visits ≡ w.visits + 1 → z.spans ≡ w.spans → z.depth ≡ w.depth
        → Sound c (length P) (pile e t) z
    same_sound z a b v n d = record {
      top_le = a;
      at_le = b;
      visits_le = omega (arith, p.left);
      spans_le = omega (arith, (sound p).spans_le);
      depth_le = omega (arith, (sound p).depth_le);
      depth_is = d ∙ depth_top p;
      valid = (valid_top p).1;
    }

    pub empty_turned : node_at P i ≡ Empty → After e (went (step w t) Pass)
    empty_turned q =
        walks Empty q (pile e t) (step w t) Pass (moves_blank c o bytes (under g e t) w p.left t (under_length g e t) p.top_is)
        (same_sound (step w t) (omega (arith, room)) (sound p).at_le refl refl refl)

    module _ (ib : InBytes X bytes) (u : TextId) (q : node_at P i ≡ Text u) where
      abbrev s : ℕ
      s = byte_start (text_row X u.0)

      abbrev l : ℕ
      l = byte_length (text_row X u.0)

      inside : s + l ≤ length bytes
      inside = ib.within u.0 (fine_at p (Text u) q)

      text_length : length (take l (drop s bytes)) ≡ l
      text_length = length-take-le l (drop s bytes) (omega (arith, length-drop s bytes, inside))

      pub text_turned : After e (text_turn c (step w t) s l)
      text_turned = go (leb (w.at + l) c.output) refl
        where
          go : (b : Bool) → leb (w.at + l) c.output ≡ b
              → After e (cond b (went (at_byte (step w t) (w.at + l)) (Put s l)) (stopped Output (w.at + l) (w.visits + 1)))
          go true h =
              let m : w.at + l ≤ c.output = leb-true _ _ h in
              walks (Text u) q (pile e t) _ (Put s l) (moves_put c o bytes (under g e t) w p.left t (under_length g e t) p.top_is s l (text_at X bytes u.0) inside refl text_length m)
              (same_sound _ (omega (arith, room)) m refl refl refl)
          go false h =
              seen (Text u) q _ (ap (ran c o w.visits) (plan_put _ _ _ _ _ _) ∙ (visit_go c o w.visits _ p.left
              ∙ rw (text_length) (need_stop c o output (w.visits + 1) (w.at + l) _ (leb-false _ _ h))))

    pub newline_turned : (n : ℕ) → node_at P i ≡ Newline n → After e (newline_turn c (step w t) n)
    newline_turned n q = go (leb (w.at + n + 1) c.output) refl
      where
        go : (b : Bool) → leb (w.at + n + 1) c.output ≡ b
            → After e (cond b (went (at_byte (step w t) (w.at + n + 1)) (Line n)) (stopped Output (c.output + 1) (w.visits + 1)))
        go true h =
            let m : w.at + n + 1 ≤ c.output = leb-true _ _ h in
            walks (Newline n) q (pile e t) _ (Line n) (moves_line c o bytes (under g e t) w p.left t (under_length g e t) p.top_is n (omega arith)) (same_sound _ (omega (arith, room)) m refl refl refl)
        go false h =
            let m : c.output < w.at + n + 1 = leb-false _ _ h in
            seen (Newline n) q _ (ap (ran c o w.visits) (plan_line _ _ _ _ _ n) ∙ (visit_go c o w.visits _ p.left
            ∙ each_stop c o (w.visits + 1) w.at (n + 1) _ (sound p).at_le (omega arith)))

    two : (x y : ℕ) → t + 2 ≤ length e → pile (set (set e t y) (t + 1) x) (t + 2) ≡ x ∷ y ∷ pile e t
    two x y h = pile_two e t x y (omega arith)

    pub concat_turned : (l r : PlanId) → node_at P i ≡ Concat l r → After (two_words c (step w t) (r.0 + 1) (l.0 + 1) e) (two_turn c (step w t) Pass)
    concat_turned l r q = go (leb (t + 2) c.visit) refl
      where
        go : (b : Bool) → leb (t + 2) c.visit ≡ b
            → After (cond b (set (set e t (r.0 + 1)) (t + 1) (l.0 + 1)) e) (cond b (went (at_top (step w t) (t + 2)) Pass) (stopped Visit (t + 2) (w.visits + 1)))
        go true b =
            let h : t + 2 ≤ c.visit = leb-true _ _ b in
            let f = fine_at p (Concat l r) q in
            let n : length (under g e t) + 2 ≤ c.visit = rw (under_length g e t) h in
            rw (two (l.0 + 1) (r.0 + 1) (omega (arith, p.standing.visit_lent)), add-one l.0, add-one r.0)
            (walks (Concat l r) q (suc l.0 ∷ suc r.0 ∷ pile e t) (step w (t + 2)) Pass (moves_join c o bytes (under g e t) w p.left t (under_length g e t) p.top_is (g l.0) (g r.0) n)
            (record {
              top_le = h;
              at_le = (sound p).at_le;
              visits_le = omega (arith, p.left);
              spans_le = (sound p).spans_le;
              depth_le = (sound p).depth_le;
              depth_is = depth_top p;
              valid = (omega (arith, f.0, below p), (omega (arith, f.1, below p), (valid_top p).1));
            }))
        go false b =
            seen (Concat l r) q _ (ap (ran c o w.visits) (plan_join _ _ _ _ _ _ _) ∙ (visit_go c o w.visits _ p.left
            ∙ rw (under_length g e t)
            (need_go c o visit (w.visits + 1) (t + 1) _ room ∙ need_stop c o visit (w.visits + 1) (t + 2) _ (leb-false _ _ b))))

    module _ (k : AnnotationId) (x : PlanId) (q : node_at P i ≡ Annotate k x) where
      full_spans : c.spans < w.spans + 1 → After e (stopped Spans (w.spans + 1) (w.visits + 1))
      full_spans h =
          seen (Annotate k x) q _ (ap (ran c o w.visits) (plan_mark _ _ _ _ _ _ _) ∙ (visit_go c o w.visits _ p.left
          ∙ need_stop c o spans (w.visits + 1) (w.spans + 1) _ h))

      full_depth : w.spans + 1 ≤ c.spans → c.depth < w.depth + 1 → After e (stopped Depth (w.depth + 1) (w.visits + 1))
      full_depth s h =
          seen (Annotate k x) q _ (ap (ran c o w.visits) (plan_mark _ _ _ _ _ _ _) ∙ (visit_go c o w.visits _ p.left
          ∙ (need_go c o spans (w.visits + 1) (w.spans + 1) _ s
          ∙ need_stop c o depth (w.visits + 1) (w.depth + 1) _ h)))

      full_visit : w.spans + 1 ≤ c.spans → w.depth + 1 ≤ c.depth → c.visit < t + 2 → After e (stopped Visit (t + 2) (w.visits + 1))
      full_visit s d h =
          seen (Annotate k x) q _ (ap (ran c o w.visits) (plan_mark _ _ _ _ _ _ _) ∙ (visit_go c o w.visits _ p.left
          ∙ (need_go c o spans (w.visits + 1) (w.spans + 1) _ s
          ∙ (need_go c o depth (w.visits + 1) (w.depth + 1) _ d
          ∙ rw (under_length g e t) (need_go c o visit (w.visits + 1) (t + 1) _ room ∙ need_stop c o visit (w.visits + 1) (t + 2) _ h)))))

      opens : w.spans + 1 ≤ c.spans → w.depth + 1 ≤ c.depth → t + 2 ≤ c.visit
          → After (set (set e t 0) (t + 1) (x.0 + 1)) (went (record { top = t + 2; depth = w.depth + 1; at = w.at; spans = w.spans + 1; visits = w.visits + 1 }) (Open k))
      opens s d h =
          let f = fine_at p (Annotate k x) q in
          let n : length (under g e t) + 2 ≤ c.visit = rw (under_length g e t) h in
          let y : w.depth ≡ exits (pile e t) = depth_top p in
          rw (two (x.0 + 1) 0 (omega (arith, p.standing.visit_lent)), add-one x.0)
          (walks (Annotate k x) q (suc x.0 ∷ 0 ∷ pile e t) _ (Open k) (moves_mark c o bytes (under g e t) w p.left t (under_length g e t) p.top_is k (g x.0) n s d)
          (record {
            top_le = h;
            at_le = (sound p).at_le;
            visits_le = omega (arith, p.left);
            spans_le = s;
            depth_le = d;
            depth_is = omega (arith, y);
            valid = (omega (arith, f, below p), (omega arith, (valid_top p).1));
          }))

      pub annotate_turned : After (annotate_words c (step w t) (x.0 + 1) e) (annotate_turn c (step w t) k)
      annotate_turned = by_spans (leb (w.spans + 1) c.spans) refl
        where
          by_visit : (b : Bool) → leb (t + 2) c.visit ≡ b → w.spans + 1 ≤ c.spans → w.depth + 1 ≤ c.depth
              → After (cond b (set (set e t 0) (t + 1) (x.0 + 1)) e) (cond b (went (at_top (one_more (step w t)) (t + 2)) (Open k)) (stopped Visit (t + 2) (w.visits + 1)))
          by_visit true b s d = opens s d (leb-true _ _ b)
          by_visit false b s d = full_visit s d (leb-false _ _ b)

          by_depth : (b : Bool) → leb (w.depth + 1) c.depth ≡ b → w.spans + 1 ≤ c.spans
              → After (cond b (two_words c (step w t) 0 (x.0 + 1) e) e) (cond b (two_turn c (one_more (step w t)) (Open k)) (stopped Depth (w.depth + 1) (w.visits + 1)))
          by_depth true b s = by_visit (leb (t + 2) c.visit) refl s (leb-true _ _ b)
          by_depth false b s = full_depth s (leb-false _ _ b)

          by_spans : (b : Bool) → leb (w.spans + 1) c.spans ≡ b
              → After (cond b (cond (leb (w.depth + 1) c.depth) (two_words c (step w t) 0 (x.0 + 1) e) e) e)
              (cond b (cond (leb (w.depth + 1) c.depth) (two_turn c (one_more (step w t)) (Open k)) (stopped Depth (w.depth + 1) (w.visits + 1))) (stopped Spans (w.spans + 1) (w.visits + 1)))
          by_spans true b = by_depth (leb (w.depth + 1) c.depth) refl (leb-true _ _ b)
          by_spans false b = full_spans (leb-false _ _ b)

    pub penalty_turned : (a : ℕ) (x : PlanId) → node_at P i ≡ Penalty a x → After (set e t (x.0 + 1)) (went (step w (t + 1)) Pass)
    penalty_turned a x q =
        let f = fine_at p (Penalty a x) q in
        let n : length (under g e t) + 1 ≤ c.visit = rw (under_length g e t) room in
        rw (pile_one e t (x.0 + 1) (omega (arith, room, p.standing.visit_lent)), add-one x.0)
        (walks (Penalty a x) q (suc x.0 ∷ pile e t) (step w (t + 1)) Pass (moves_fee c o bytes (under g e t) w p.left t (under_length g e t) p.top_is a (g x.0) n)
        (record {
          top_le = room;
          at_le = (sound p).at_le;
          visits_le = omega (arith, p.left);
          spans_le = (sound p).spans_le;
          depth_le = (sound p).depth_le;
          depth_is = depth_top p;
          valid = (omega (arith, f, below p), (valid_top p).1);
        }))
