-- Each step keeps columns and costs in their widths where no domain test stops it (`step_fits`). Domain draws the conclusion for the chosen layout.
use Prim.Native.Nat.{ℕ, zero, suc, ◌+◌, ◌-◌, ◌≤◌, ◌<◌, ◌^◌}
use native.Mathlib.Omega.{arith}
use Rattle.std.specs.Prelude.{Bool, ◌&&◌, ◌≡◌, ltb, take, drop, get_or}
use Rattle.std.proofs.Math.Bool.{true, false}
use Rattle.std.proofs.Math.Option.{Option, none, some}
use mathlib.Core.List.{List, [], ◌∷◌, ◌++◌, map, append_assoc, append-nil}
use Rattle.std.proofs.Math.Path.{refl, ap, ap₂, subst}
use Rattle.std.proofs.Common.{sym, ◌∙◌}
use borrow.Author.Tests.{ltb-true, ltb-false}
use Rattle.std.proofs.Math.ListN.{length, length-append}
use Rattle.std.proofs.Math.Seq.{take-append_seam, drop-append_seam}
use Rattle.cost.specs.Cost.{Cost, zero_cost, add}
use Rattle.cost.specs.Charge.{text_cost, penalty_cost}
use Rattle.memo.specs.declared.MemoKey.{MemoKey}
use Rattle.memo.specs.declared.CandidateRange.{CandidateRange}
use Rattle.std.specs.Prelude.{Some as Found, None as Nothing}
use Rattle.memo.specs.Entries.{MemoLookup, Entry, lookup, stored}
use Rattle.layout.specs.Document.{Word, Doc, empty}
use Rattle.layout.specs.Rules.{Rules}
use Rattle.layout.specs.Layout.{Plan, blank, put, line}
use Rattle.layout.specs.Table.{Node, Table, Empty, Break, HardLine, Text, Seq, Fill, Group, Align, Nest, Choice, Annotate, Penalty}
use Rattle.layout.specs.Frontier.{Cand, cand, after, marked, charged}
use Rattle.machine.specs.Events.{◌>>=◌}
use Rattle.machine.specs.Model.{Prepared, ExactChoice, PlanNode, PlanText, PlanConcat, PlanAnnotate, PlanPenalty, Made, Candidate, Scratch, scratch, no_candidate, part, range, within_range, memo_key}
use Rattle.machine.specs.Model.{Task, Eval, CompleteAlias, CompleteUnion, CompleteChoiceSet, CompleteAnnotate, CompletePenalty, ContinueSequence, CompleteSequenceRight, State, with_tasks, with_results, with_pending, with_stores, with_builder, Got, got}
use Rattle.machine.specs.Solver.{begin_builder, finish_builder, singleton, present_range, union_ranges, present_wrapped, wrap_range, memo_insert, complete_node, push_joined, build_pending}
use Rattle.machine.specs.Solver.{newline, push_gaps, fill_boundary, push_child, complete_singleton, begin_empty, begin_text, begin_newline, begin_sequence, begin_union, begin_group, begin_nest, skip_choices, push_alternatives, begin_choice, begin_kind, begin_known, begin_node}
use Rattle.machine.specs.Solver.{complete_alias, complete_union, present_ranges, complete_choice_set, complete_wrapped, push_right, gap_if_fill, next_child, continue_sequence, next_left, complete_sequence_right, execute_task}
use Rattle.cost.specs.Logic.{and_left, and_right}
use Rattle.memo.specs.Entries.{same, pick}
use borrow.Author.Tests.{eqb-true}
use Rattle.std.proofs.Math.Dec.{eqb}
use Rattle.layout.specs.Layout.{last}
use Rattle.machine.specs.Solver.{step, step_on}
use Rattle.machine_right.specs.Relations.{All2, nil, cons, all2_append, all2_imp, all2_length, Some, some_append, some_after, list_some, Ext, ext_refl, ext_trans, Reads, as_empty, as_text, as_newline, as_concat, as_penalty, laid, Waits, Holds, waits_grow, holds_grow, den_grow, Rising, rising_lower, Headed, headed, Slice, slice_grow, get_or_append, some_snoc}
use Rattle.machine_right.specs.Fronts.{Front}
use Rattle.machine_right.specs.Ready.{Ready}
use Rattle.machine_right.specs.Sound.{Each}
use Rattle.machine_right.specs.Tasks.{olds}
use Rattle.machine_right.specs.Tasks.{annotate_like as annotated}
use Rattle.machine_right.specs.Fitting.{Cols, Fit, each_append, Fined, ends, says, fined, task_fits, result_fits, pending_fits, add_fits, text_fits, pop_fits, Built, Ranged, built_none, present_fits, present_all_fits, finish_fits}

-- what is asked of the rules: charges and the newline cost of what has its place have theirs, and an indent is only lowered
pub record Mild (R : Rules) : Type 0 where
  pub charge_small : (n : ℕ) → n < 2 ^ 32 → R.charge n < 2 ^ 128
  pub newline_small : R.newline_cost < 2 ^ 64
  pub lower_le : (i : ℕ) → R.lower i ≤ i

pub record KeyFit (q : MemoKey) : Type 0 where
  pub column_small : q.column < 2 ^ 32
  pub indent_small : q.indent < 2 ^ 32

-- the pending candidates above qs, from column c on
pub record Heap (T : Table) (ps : List Plan) (c : ℕ) (qs l : List Scratch) : Type 0 where
  pub above : List Scratch
  pub front : Front
  pub split : l ≡ qs ++ above
  pub waits : All2 (Waits T ps) above front
  pub fit : Each (Fit c) front

heap_grow : {T : Table} {ps ps' : List Plan} {c : ℕ} {qs l : List Scratch} → Ext ps ps' → Heap T ps c qs l → Heap T ps' c qs l
heap_grow {T = T} e h = record { above = h.above; front = h.front; split = h.split; waits = all2_imp (λ x y. waits_grow T e) h.waits; fit = h.fit }

heap_none : {T : Table} {ps : List Plan} {c : ℕ} (qs : List Scratch) → Heap T ps c qs qs
heap_none qs = record { above = []; front = []; split = sym (append-nil qs); waits = nil; fit = tt }

ranged_grow : {T : Table} {k k' : List Candidate} {ps ps' : List Plan} {c s n : ℕ} → Ext k k' → Ext ps ps' → Ranged T k ps c s n → Ranged T k' ps' c s n
ranged_grow ek ep h = record { front = h.front; den = den_grow ek ep h.den; fit = h.fit }

abbrev pub RangedAt : Table → List Candidate → List Plan → CandidateRange → ℕ → Type 0
RangedAt T k ps r c = Ranged T k ps c r.start r.len

-- the tasks wait for results that start at these columns, top first
pub data Lay (T : Table) (k : List Candidate) (ps : List Plan) : List Task → List ℕ → List Scratch → Type 0 where
  l_done : Lay T k ps [] (0 ∷ []) []
  l_eval : {q : MemoKey} {ts : List Task} {cs : List ℕ} {qs : List Scratch} → KeyFit q → Lay T k ps ts (q.column ∷ cs) qs → Lay T k ps (Eval q ∷ ts) cs qs
  l_alias : {q : MemoKey} {d : ℕ} {ts : List Task} {cs : List ℕ} {qs : List Scratch} → d ≡ q.column → Lay T k ps ts (q.column ∷ cs) qs → Lay T k ps (CompleteAlias q ∷ ts) (d ∷ cs) qs
  l_union : {q : MemoKey} {d e : ℕ} {ts : List Task} {cs : List ℕ} {qs : List Scratch} → d ≡ q.column → e ≡ q.column → Lay T k ps ts (q.column ∷ cs) qs → Lay T k ps (CompleteUnion q ∷ ts) (d ∷ e ∷ cs) qs
  l_set : (ds : List ℕ) {q : MemoKey} {start : ℕ} {xs : List ℕ} {ts : List Task} {cs : List ℕ} {qs : List Scratch} → Each (λ d. d ≡ q.column) ds → Some ds → xs ≡ ds ++ cs → length cs ≡ start
      → Lay T k ps ts (q.column ∷ cs) qs → Lay T k ps (CompleteChoiceSet q start ∷ ts) xs qs
  l_annotate : {q : MemoKey} {a d : ℕ} {ts : List Task} {cs : List ℕ} {qs : List Scratch} → d ≡ q.column → Lay T k ps ts (q.column ∷ cs) qs → Lay T k ps (CompleteAnnotate q a ∷ ts) (d ∷ cs) qs
  l_penalty : {q : MemoKey} {a d : ℕ} {ts : List Task} {cs : List ℕ} {qs : List Scratch} → d ≡ q.column → Lay T k ps ts (q.column ∷ cs) qs → Lay T k ps (CompletePenalty q a ∷ ts) (d ∷ cs) qs
  l_continue : {q : MemoKey} {x d : ℕ} {ts : List Task} {cs : List ℕ} {qs : List Scratch} → KeyFit q → d ≡ q.column → Lay T k ps ts (q.column ∷ cs) qs → Lay T k ps (ContinueSequence q x ∷ ts) (d ∷ cs) qs
  l_right : {q : MemoKey} {x o g start d : ℕ} {acc : CandidateRange} {ts : List Task} {cs : List ℕ} {qs Qs : List Scratch}
      → KeyFit q → Ranged T k ps q.column (acc.start + o) (suc g) → acc.len ≡ o + suc g → d ≡ (get_or k (acc.start + o) no_candidate).column → Heap T ps q.column qs Qs → length qs ≡ start
      → Lay T k ps ts (q.column ∷ cs) qs → Lay T k ps (CompleteSequenceRight q x acc o start ∷ ts) (d ∷ cs) Qs

get_or_grow : {k k' : List Candidate} → Ext k k' → (i : ℕ) → i < length k → get_or k' i no_candidate ≡ get_or k i no_candidate
get_or_grow {k} e i h = ap (λ (z : List Candidate). get_or z i no_candidate) e.is ∙ get_or_append k e.more i no_candidate h

module _ {T : Table} where
  lay_grow : {k k' : List Candidate} {ps ps' : List Plan} {ts : List Task} {cs : List ℕ} {qs : List Scratch} → Ext k k' → Ext ps ps' → Lay T k ps ts cs qs → Lay T k' ps' ts cs qs
  lay_grow ek ep l_done = l_done
  lay_grow ek ep (l_eval f l) = l_eval f (lay_grow ek ep l)
  lay_grow ek ep (l_alias e l) = l_alias e (lay_grow ek ep l)
  lay_grow ek ep (l_union d e l) = l_union d e (lay_grow ek ep l)
  lay_grow ek ep (l_set ds a s x n l) = l_set ds a s x n (lay_grow ek ep l)
  lay_grow ek ep (l_annotate e l) = l_annotate e (lay_grow ek ep l)
  lay_grow ek ep (l_penalty e l) = l_penalty e (lay_grow ek ep l)
  lay_grow ek ep (l_continue f e l) = l_continue f e (lay_grow ek ep l)
  lay_grow ek ep (l_right {o = o} {acc = acc} f r n e h q l) =
      l_right f (ranged_grow ek ep r) n (e ∙ ap (λ (z : Candidate). z.column) (sym (get_or_grow ek (acc.start + o) (omega (arith, r.den.inside))))) (heap_grow ep h) q (lay_grow ek ep l)

-- ---- leaves, and what is made of candidates

less : (a b n : ℕ) → a < n → a - b < n
less a b n h = omega arith

below : (a b n : ℕ) → a ≤ b → b < n → a < n
below a b n h g = omega arith

module _ (R : Rules) (M : Mild R) where
  blank_fits : (c : ℕ) → c < 2 ^ 32 → Fit c (cand R c blank)
  blank_fits c h = record { cols = tt; ends_at = refl; column_small = h; overflow_small = ltb-true 0 (2 ^ 128) refl; burden_small = ltb-true 0 (2 ^ 64) refl }

  put_fits : (c : ℕ) (t : Word) → c + t.width < 2 ^ 32 → Fit c (cand R c (put t))
  put_fits c t h = record { cols = h; ends_at = refl; column_small = h; overflow_small = less (R.charge (c + t.width)) (R.charge c) (2 ^ 128) (M.charge_small (c + t.width) h); burden_small = ltb-true 0 (2 ^ 64) refl }

  line_fits : (c i : ℕ) → i < 2 ^ 32 → Fit c (cand R c (line i))
  line_fits c i h = record { cols = h; ends_at = refl; column_small = h; overflow_small = M.charge_small i h; burden_small = M.newline_small }

after_fits : (c : ℕ) (L y : Cand Plan) → Fit c L → Fit L.column y → (add L.cost y.cost).overflow < 2 ^ 128 → (add L.cost y.cost).burden < 2 ^ 64 → Fit c (after L y)
after_fits c L y f g o b = record {
  cols = (f.cols, subst (λ (z : ℕ). Cols y.plan z) (sym f.ends_at) g.cols);
  ends_at = ap (last y.plan) f.ends_at ∙ g.ends_at;
  column_small = g.column_small;
  overflow_small = o;
  burden_small = b;
}

module _ (T : Table) (ps : List Plan) where
  range_fits : (c : ℕ) (r : CandidateRange) (S : State) {Q : State → Type 0} → RangedAt T S.retained ps r c → Built T ps c S.builder S.generated
      → ((b : List Scratch) (g : ℕ) (B : Built T ps c b g) → Some B.front → Q (with_builder b g S)) → Fined Q (present_range r S)
  unfolding present_range
  range_fits c r S d B h = present_all_fits T ps c _ S (olds T ps _ _ d.den.holds) d.fit B (some_after B.front d.front d.den.filled) h

  wrapped_fits : (wrapper : ℕ → PlanNode) (additional : Cost) (f : Cand Plan → Cand Plan) (c : ℕ)
      → ((x : Candidate) (y : Cand Plan) → Holds T ps x y → Waits T ps (scratch (add x.cost additional) x.column (Made (wrapper x.plan.plan))) (f y))
      → ((x : Candidate) (y : Cand Plan) → Holds T ps x y → Fit c y → (add x.cost additional).overflow < 2 ^ 128 → (add x.cost additional).burden < 2 ^ 64 → Fit c (f y))
      → (cs : List Candidate) (S : State) {G : Front} {Q : State → Type 0} → All2 (Holds T ps) cs G → Each (Fit c) G → (B : Built T ps c S.builder S.generated) → Some (B.front ++ G)
      → ((b : List Scratch) (g : ℕ) (B' : Built T ps c b g) → Some B'.front → Q (with_builder b g S)) → Fined Q (present_wrapped wrapper additional cs S)
  unfolding present_wrapped
  wrapped_fits w a f c like fits [] S nil e B s h = ends (h _ _ B (subst (λ (z : Front). Some z) (append-nil B.front) s))
  wrapped_fits w a f c like fits (x ∷ cs) S (cons {b = y} {ys = G} v vs) e B s h =
      fined (add_fits x.cost a λ o u. fined (present_fits T ps c _ S (like x y v) (fits x y v e.0 o u) B λ b g B' s'.
      wrapped_fits w a f c like fits cs (with_builder b g S) vs e.1 B' (some_append B'.front G s') h))

  joined_fits : (c : ℕ) (l : Candidate) (cs : List Candidate) (S : State) {L : Cand Plan} {F : Front} {qs : List Scratch} {Q : State → Type 0}
      → Holds T ps l L → Fit c L → All2 (Holds T ps) cs F → Each (Fit L.column) F → (H : Heap T ps c qs S.pending)
      → ((l' : List Scratch) (H' : Heap T ps c qs l') → (Some (H.front ++ F) → Some H'.front) → Q (with_pending l' S)) → Fined Q (push_joined l cs S)
  unfolding push_joined
  joined_fits c l [] S hl fl nil ff H h = ends (h S.pending H (λ s. subst (λ (z : Front). Some z) (append-nil H.front) s))
  joined_fits c l (x ∷ cs) S {L} {qs = qs} hl fl (cons {b = y} {ys = F} hx hs) ff H h =
      let z = scratch (add l.cost x.cost) x.column (Made (PlanConcat l.plan.plan x.plan.plan)) in
      let same : add l.cost x.cost ≡ add L.cost y.cost = ap₂ add hl.same_cost hx.same_cost in
      fined (add_fits l.cost x.cost λ o u. fined (pending_fits z S (joined_fits c l cs _ {qs = qs} hl fl hs ff.1
      (record {
        above = H.above ++ (z ∷ []);
        front = H.front ++ (after L y ∷ []);
        split = ap (λ (v : List Scratch). v ++ (z ∷ [])) H.split ∙ append_assoc qs H.above (z ∷ []);
        waits = all2_append H.waits (cons (record { same_cost = same; same_column = hx.same_column; same_plan = as_concat hl.same_plan hx.same_plan }) nil);
        fit = each_append (Fit c) H.front (after L y ∷ []) H.fit
            (after_fits c L y fl ff.0 (subst (λ (v : Cost). v.overflow < 2 ^ 128) same o) (subst (λ (v : Cost). v.burden < 2 ^ 64) same u), tt);
      })
      λ l' H' s. h l' H' (λ _. s (some_append (H.front ++ (after L y ∷ [])) F (some_snoc H.front (after L y)))))))

-- the frontier of what is pending above qs
pending_built : (T : Table) (c start : ℕ) (S : State) {qs : List Scratch} {Q : Got → Type 0} → (H : Heap T (laid T S.plans) c qs S.pending) → length qs ≡ start → Some H.front
    → ((b : List Scratch) (g : ℕ) (k : List Candidate) (p : List PlanNode) → Ext S.retained k → Ext (laid T S.plans) (laid T p) → Ranged T k (laid T p) c (length S.retained) (length b)
    → Q (got (range (length S.retained) (length b)) (with_stores k p (with_builder b g (with_pending qs S))))) → Fined Q (build_pending start S)
unfolding build_pending
pending_built T c start S {qs} {Q} H e f h =
    let ps = laid T S.plans in
    let d : drop start S.pending ≡ H.above = ap₂ (λ (n : ℕ) (z : List Scratch). drop n z) (sym e) H.split ∙ drop-append_seam qs H.above in
    let t : take start S.pending ≡ qs = ap₂ (λ (n : ℕ) (z : List Scratch). take n z) (sym e) H.split ∙ take-append_seam qs H.above in
    fined (present_all_fits T ps c _ (begin_builder S) (subst (λ (z : List Scratch). All2 (Waits T ps) z H.front) (sym d) H.waits) H.fit (built_none T ps c _) f λ b g B s.
    subst (λ (z : List Scratch). Fined Q (finish_builder (with_pending z (with_builder b g S)))) (sym t)
    (finish_fits T c (with_pending qs (with_builder b g S)) B s λ k p ek ep r. h b g k p ek ep r))

module _ (R : Rules) (M : Mild R) (P : Prepared) (K : Ready P) where
  abbrev T : Table
  T = P.table

  abbrev pub MemoFit : List Candidate → List Plan → List Entry → Type 0
  MemoFit k ps es = Each (λ e. RangedAt P.table k ps e.range e.key.column) es

  -- every result, entry and pending candidate fits
  pub record Fits (S : State) : Type 0 where
    pub columns : List ℕ
    pub lay : Lay P.table S.retained (laid P.table S.plans) S.tasks columns S.pending
    pub res : All2 (RangedAt P.table S.retained (laid P.table S.plans)) S.results columns
    pub memo : MemoFit S.retained (laid P.table S.plans) S.memo

  abbrev LayAt : State → List ℕ → Type 0
  LayAt S cs = Lay T S.retained (laid T S.plans) S.tasks cs S.pending

  abbrev ResAt : State → List ℕ → Type 0
  ResAt S cs = All2 (RangedAt T S.retained (laid T S.plans)) S.results cs

  abbrev MemoAt : State → Type 0
  MemoAt S = MemoFit S.retained (laid T S.plans) S.memo

  memo_grow : {k k' : List Candidate} {ps ps' : List Plan} → Ext k k' → Ext ps ps' → (es : List Entry) → MemoFit k ps es → MemoFit k' ps' es
  memo_grow ek ep [] h = tt
  memo_grow ek ep (e ∷ es) h = (ranged_grow ek ep h.0, memo_grow ek ep es h.1)

  res_grow : {k k' : List Candidate} {ps ps' : List Plan} {rs : List CandidateRange} {cs : List ℕ} → Ext k k' → Ext ps ps' → All2 (RangedAt T k ps) rs cs → All2 (RangedAt T k' ps') rs cs
  res_grow ek ep h = all2_imp (λ r c. ranged_grow ek ep) h

  stored_fits : {k : List Candidate} {ps : List Plan} (es : List Entry) (e : Entry) → MemoFit k ps es → RangedAt T k ps e.range e.key.column → MemoFit k ps (stored es e)
  stored_fits [] e h d = (d, tt)
  stored_fits {k} {ps} (x ∷ es) e h d = go (same x.key e.key) (stored_fits es e h.1 d)
    where
      go : (t : Bool) → MemoFit k ps (stored es e) → MemoFit k ps (pick t (e ∷ es) (x ∷ stored es e))
      go true f = (d, h.1)
      go false f = (h.0, f)

  same_column : (a b : MemoKey) → same a b ≡ true → a.column ≡ b.column
  unfolding same
  same_column a b h =
      let n = eqb a.node b.node in
      let c = eqb a.column b.column in
      let i = eqb a.indent b.indent in
      eqb-true a.column b.column (and_left c i (and_right n (c && i) h))

  lookup_fits : {k : List Candidate} {ps : List Plan} (es : List Entry) (q : MemoKey) (r : CandidateRange) → MemoFit k ps es → lookup es q ≡ Found r → RangedAt T k ps r q.column
  lookup_fits [] q r h e = let z : ◌≡◌ {A = ℕ} 0 1 = cc in absurd (omega arith)
  lookup_fits {k} {ps} (x ∷ es) q r h e = go (same x.key q) refl e (λ f. lookup_fits es q r h.1 f)
    where
      inj : (a b : CandidateRange) → Found a ≡ Found b → a ≡ b
      inj a b f = cc

      go : (t : Bool) → same x.key q ≡ t → pick t (Found x.range) (lookup es q) ≡ Found r → (lookup es q ≡ Found r → RangedAt T k ps r q.column) → RangedAt T k ps r q.column
      go true s f ih = subst (λ (z : CandidateRange). RangedAt T k ps z q.column) (inj x.range r f) (subst (λ (c : ℕ). RangedAt T k ps x.range c) (same_column x.key q s) h.0)
      go false s f ih = ih f

  complete_fits : (q : MemoKey) (r : CandidateRange) (S : State) {cs : List ℕ} → RangedAt T S.retained (laid T S.plans) r q.column → LayAt S (q.column ∷ cs) → ResAt S cs → MemoAt S
      → Fined Fits (complete_node q r S)
  unfolding complete_node memo_insert
  complete_fits q r S d l rs m = says (λ _. says (λ _. result_fits r _ (record { columns = _; lay = l; res = cons d rs; memo = stored_fits S.memo (record { key = q; range = r }) m d })))

  ending_fits : (q : MemoKey) (S : State) {cs : List ℕ} → (B : Built T (laid T S.plans) q.column S.builder S.generated) → Some B.front → LayAt S (q.column ∷ cs) → ResAt S cs → MemoAt S
      → Fined (λ G. Fined Fits (complete_node q G.range G.state)) (finish_builder S)
  ending_fits q S B s l rs m = finish_fits T q.column S B s λ k p ek ep r. complete_fits q _ _ r (lay_grow ek ep l) (res_grow ek ep rs) (memo_grow ek ep S.memo m)

  single_fits : (q : MemoKey) (x : Scratch) (S : State) {y : Cand Plan} {cs : List ℕ} → Waits T (laid T S.plans) x y → Fit q.column y → LayAt S (q.column ∷ cs) → ResAt S cs → MemoAt S
      → Fined Fits (complete_singleton R P q x S)
  unfolding complete_singleton singleton
  single_fits q x S w f l rs m = fined (fined (present_fits T _ q.column x (begin_builder S) w f (built_none T _ q.column _) λ b g B s. ending_fits q (with_builder b g S) B s l rs m))

  child_fits : (t : Task) (q : MemoKey) (S : State) {cs : List ℕ} → KeyFit q → Lay T S.retained (laid T S.plans) (t ∷ S.tasks) (q.column ∷ cs) S.pending → ResAt S cs → MemoAt S
      → Fined Fits (push_child R P t q S)
  unfolding push_child
  child_fits t q S f l rs m = fined (task_fits t S (task_fits (Eval q) _ (record { columns = _; lay = l_eval f l; res = rs; memo = m })))

  union_begins : (a b : ℕ) (q : MemoKey) (S : State) {cs : List ℕ} → KeyFit q → LayAt S (q.column ∷ cs) → ResAt S cs → MemoAt S → Fined Fits (begin_union R P a b q S)
  unfolding begin_union push_child
  union_begins a b q S f l rs m =
      let g : (n : ℕ) → KeyFit (memo_key n q.column q.indent) = λ n. record { column_small = f.column_small; indent_small = f.indent_small } in
      fined (fined (task_fits (CompleteUnion q) S (task_fits (Eval (memo_key b q.column q.indent)) _ (task_fits (Eval (memo_key a q.column q.indent)) _
      (record { columns = _; lay = l_eval (g a) (l_eval (g b) (l_union refl refl l)); res = rs; memo = m })))))

  abbrev evals : MemoKey → List ℕ → List Task
  evals q ns = map (λ n. Eval (memo_key n q.column q.indent)) ns

  abbrev copies : List ℕ → ℕ → List ℕ → List ℕ
  copies [] c cs = cs
  copies (n ∷ ns) c cs = copies ns c (c ∷ cs)

  copies_append : (ns : List ℕ) (c : ℕ) (ds cs : List ℕ) → copies ns c (ds ++ cs) ≡ copies ns c ds ++ cs
  copies_append [] c ds cs = refl
  copies_append (n ∷ ns) c ds cs = copies_append ns c (c ∷ ds) cs

  copies_each : (ns : List ℕ) (c : ℕ) (ds : List ℕ) → Each (λ d. d ≡ c) ds → Each (λ d. d ≡ c) (copies ns c ds)
  copies_each [] c ds h = h
  copies_each (n ∷ ns) c ds h = copies_each ns c (c ∷ ds) (refl, h)

  copies_some : (ns : List ℕ) (c : ℕ) (ds : List ℕ) → Some ds → Some (copies ns c ds)
  copies_some [] c ds h = h
  copies_some (n ∷ ns) c ds h = copies_some ns c (c ∷ ds) tt

  some_copies : (ns : List ℕ) (c : ℕ) → Some ns → Some (copies ns c [])
  some_copies [] c h = absurd h
  some_copies (n ∷ ns) c h = copies_some ns c (c ∷ []) tt

  evals_lay : (q : MemoKey) (ns : List ℕ) {k : List Candidate} {ps : List Plan} {ts : List Task} {qs : List Scratch} (cs : List ℕ) → KeyFit q
      → Lay T k ps ts (copies ns q.column cs) qs → Lay T k ps (evals q ns ++ ts) cs qs
  evals_lay q [] cs f l = l
  evals_lay q (n ∷ ns) cs f l = l_eval (record { column_small = f.column_small; indent_small = f.indent_small }) (evals_lay q ns (q.column ∷ cs) f l)

  alternatives_fit : (ns : List ℕ) (q : MemoKey) (S : State) {Q : State → Type 0} → Q (with_tasks (evals q ns ++ S.tasks) S) → Fined Q (push_alternatives R P ns q S)
  unfolding push_alternatives
  alternatives_fit [] q S h = ends h
  alternatives_fit (n ∷ ns) q S h = fined (alternatives_fit ns q S (task_fits (Eval (memo_key n q.column q.indent)) _ h))

  skip_fits : (n : ℕ) {Q : Unit {0} → Type 0} → Q tt → Fined Q (skip_choices R P n)
  unfolding skip_choices
  skip_fits zero h = ends h
  skip_fits (suc n) h = says (λ _. skip_fits n h)

  choice_begins : (o : Option ExactChoice) (a b : ℕ) (q : MemoKey) (S : State) {cs : List ℕ} → T.node q.node ≡ Choice a b → P.choices q.node ≡ o
      → KeyFit q → LayAt S (q.column ∷ cs) → ResAt S cs → MemoAt S → Fined Fits (begin_choice R P o a b q S)
  unfolding begin_choice
  choice_begins none a b q S n o f l rs m = union_begins a b q S f l rs m
  choice_begins (some x) a b q S {cs} n o f l rs m =
      let ns = x.alternatives in
      fined (skip_fits x.skipped (fined (task_fits (CompleteChoiceSet q (length S.results)) S (alternatives_fit ns q _ (record {
        columns = cs;
        lay = evals_lay q ns cs f (l_set (copies ns q.column []) (copies_each ns q.column [] tt) (some_copies ns q.column (list_some (K.lists q.node a b x n o))) (copies_append ns q.column [] cs) (sym (all2_length rs)) l);
        res = rs;
        memo = m;
      })))))

  begin_fits : (v : Node) (q : MemoKey) (S : State) {cs : List ℕ} → T.node q.node ≡ v → KeyFit q → LayAt S (q.column ∷ cs) → ResAt S cs → MemoAt S → Fined Fits (begin_kind R P v q S)
  unfolding begin_kind begin_empty begin_text begin_newline begin_sequence begin_group begin_nest
  begin_fits Empty q S n f l rs m = single_fits q _ S (record { same_cost = refl; same_column = refl; same_plan = as_empty }) (blank_fits R M q.column f.column_small) l rs m
  begin_fits (Text t) q S n f l rs m =
      fined (text_fits R P q.column (T.texts t).width λ d. single_fits q _ S (record { same_cost = refl; same_column = refl; same_plan = as_text }) (put_fits R M q.column (T.texts t) d) l rs m)
  begin_fits Break q S n f l rs m = single_fits q _ S (record { same_cost = refl; same_column = refl; same_plan = as_newline }) (line_fits R M q.column q.indent f.indent_small) l rs m
  begin_fits HardLine q S n f l rs m = single_fits q _ S (record { same_cost = refl; same_column = refl; same_plan = as_newline }) (line_fits R M q.column q.indent f.indent_small) l rs m
  begin_fits (Seq []) q S n f l rs m = single_fits q _ S (record { same_cost = refl; same_column = refl; same_plan = as_empty }) (blank_fits R M q.column f.column_small) l rs m
  begin_fits (Seq (k ∷ ks)) q S n f l rs m = child_fits (ContinueSequence q 1) _ S (record { column_small = f.column_small; indent_small = f.indent_small }) (l_continue f refl l) rs m
  begin_fits (Fill []) q S n f l rs m = single_fits q _ S (record { same_cost = refl; same_column = refl; same_plan = as_empty }) (blank_fits R M q.column f.column_small) l rs m
  begin_fits (Fill (k ∷ ks)) q S n f l rs m = child_fits (ContinueSequence q 1) _ S (record { column_small = f.column_small; indent_small = f.indent_small }) (l_continue f refl l) rs m
  begin_fits (Group k) q S {cs} n f l rs m = go (T.flat k)
    where
      go : (o : Option ℕ) → Fined Fits (begin_group R P k o q S)
      go none = child_fits (CompleteAlias q) _ S (record { column_small = f.column_small; indent_small = f.indent_small }) (l_alias refl l) rs m
      go (some x) = union_begins x k q S f l rs m
  begin_fits (Nest a k) q S n f l rs m =
      says (λ d. let i : R.lower (q.indent + a) < 2 ^ 32 = below (R.lower (q.indent + a)) (q.indent + a) (2 ^ 32) (M.lower_le (q.indent + a)) d in
      child_fits (CompleteAlias q) _ S (record { column_small = f.column_small; indent_small = i }) (l_alias refl l) rs m)
  begin_fits (Align k) q S n f l rs m =
      child_fits (CompleteAlias q) _ S (record { column_small = f.column_small; indent_small = below (R.lower q.column) q.column (2 ^ 32) (M.lower_le q.column) f.column_small }) (l_alias refl l) rs m
  begin_fits (Choice a b) q S n f l rs m = choice_begins (P.choices q.node) a b q S n refl f l rs m
  begin_fits (Annotate a k) q S n f l rs m = child_fits (CompleteAnnotate q a) _ S (record { column_small = f.column_small; indent_small = f.indent_small }) (l_annotate refl l) rs m
  begin_fits (Penalty a k) q S n f l rs m = child_fits (CompletePenalty q a) _ S (record { column_small = f.column_small; indent_small = f.indent_small }) (l_penalty refl l) rs m

  known_fits : (o : MemoLookup) (q : MemoKey) (S : State) {cs : List ℕ} → lookup S.memo q ≡ o → KeyFit q → LayAt S (q.column ∷ cs) → ResAt S cs → MemoAt S → Fined Fits (begin_known R P o q S)
  unfolding begin_known
  known_fits (Found r) q S e f l rs m = says (λ _. result_fits r S (record { columns = _; lay = l; res = cons (lookup_fits S.memo q r m e) rs; memo = m }))
  known_fits Nothing q S e f l rs m = says (λ _. begin_fits (T.node q.node) q S refl f l rs m)

  -- ---- the other tasks

  at : {k : List Candidate} {ps : List Plan} {r : CandidateRange} {d c : ℕ} → d ≡ c → RangedAt T k ps r d → RangedAt T k ps r c
  at {k} {ps} {r} e h = subst (λ (z : ℕ). RangedAt T k ps r z) e h

  alias_fits : (q : MemoKey) (S : State) {d : ℕ} {cs : List ℕ} → d ≡ q.column → LayAt S (q.column ∷ cs) → ResAt S (d ∷ cs) → MemoAt S → Fined Fits (complete_alias R P q S)
  unfolding complete_alias
  alias_fits q S e l rs m = fined (pop_fits _ S rs λ r rs' d rest. complete_fits q r _ (at e d) l rest m)

  union_fits : (q : MemoKey) (S : State) {d e : ℕ} {cs : List ℕ} → d ≡ q.column → e ≡ q.column → LayAt S (q.column ∷ cs) → ResAt S (d ∷ e ∷ cs) → MemoAt S → Fined Fits (complete_union R P q S)
  unfolding complete_union union_ranges
  union_fits q S d e l rs m =
      let ps = laid T S.plans in
      fined (pop_fits _ S rs λ y ys dy rest. fined (pop_fits _ _ rest λ x xs dx rest'. fined (fined (range_fits T ps q.column x _ (at e dx) (built_none T ps q.column _) λ b g B s.
      fined (range_fits T ps q.column y _ (at d dy) B λ b' g' B' s'. ending_fits q _ B' s' l rest' m)))))

  wrap_fits : (q : MemoKey) (wrapper : ℕ → PlanNode) (additional : Cost) (f : Cand Plan → Cand Plan)
      → ((ps : List Plan) (x : Candidate) (y : Cand Plan) → Holds T ps x y → Waits T ps (scratch (add x.cost additional) x.column (Made (wrapper x.plan.plan))) (f y))
      → ((ps : List Plan) (x : Candidate) (y : Cand Plan) → Holds T ps x y → Fit q.column y → (add x.cost additional).overflow < 2 ^ 128 → (add x.cost additional).burden < 2 ^ 64 → Fit q.column (f y))
      → (S : State) {d : ℕ} {cs : List ℕ} → d ≡ q.column → LayAt S (q.column ∷ cs) → ResAt S (d ∷ cs) → MemoAt S → Fined Fits (complete_wrapped R P q wrapper additional S)
  unfolding complete_wrapped wrap_range
  wrap_fits q w a f like fits S e l rs m =
      let ps = laid T S.plans in
      fined (pop_fits _ S rs λ r rs' d rest. let d' = at e d in fined (fined (wrapped_fits T ps w a f q.column (like ps) (fits ps) _ _ d'.den.holds d'.fit (built_none T ps q.column _) d'.den.filled λ b g B s.
      ending_fits q _ B s l rest m)))

  annotate_like : (n : ℕ) (ps : List Plan) (x : Candidate) (y : Cand Plan) → Holds T ps x y → Waits T ps (scratch (add x.cost zero_cost) x.column (Made (PlanAnnotate n x.plan.plan))) (marked n y)
  annotate_like n ps x y h = annotated R P (λ z. D₀) [] n ps x y h
    where
      D₀ : Doc
      D₀ = empty

  penalty_like : (n : ℕ) (ps : List Plan) (x : Candidate) (y : Cand Plan) → Holds T ps x y → Waits T ps (scratch (add x.cost (penalty_cost n)) x.column (Made (PlanPenalty n x.plan.plan))) (charged n y)
  penalty_like n ps x y h = record { same_cost = ap (λ (c : Cost). add c (penalty_cost n)) h.same_cost; same_column = h.same_column; same_plan = as_penalty h.same_plan }

  annotate_fit : (c n : ℕ) (y : Cand Plan) → Fit c y → Fit c (marked n y)
  annotate_fit c n y f = record { cols = f.cols; ends_at = f.ends_at; column_small = f.column_small; overflow_small = f.overflow_small; burden_small = f.burden_small }

  penalty_fit : (c n : ℕ) (ps : List Plan) (x : Candidate) (y : Cand Plan) → Holds T ps x y → Fit c y → (add x.cost (penalty_cost n)).overflow < 2 ^ 128 → (add x.cost (penalty_cost n)).burden < 2 ^ 64 → Fit c (charged n y)
  penalty_fit c n ps x y h f o b = record {
    cols = f.cols;
    ends_at = f.ends_at;
    column_small = f.column_small;
    overflow_small = subst (λ (z : Cost). (add z (penalty_cost n)).overflow < 2 ^ 128) h.same_cost o;
    burden_small = subst (λ (z : Cost). (add z (penalty_cost n)).burden < 2 ^ 64) h.same_cost b;
  }

  -- ---- a set of alternatives

  split : {W : CandidateRange → ℕ → Type 0} (ds : List ℕ) {l : List CandidateRange} {cs : List ℕ} → All2 W l (ds ++ cs) → All2 W (take (length ds) l) ds × All2 W (drop (length ds) l) cs
  split [] h = (nil, h)
  split (d ∷ ds) (cons x xs) = let y = split ds xs in (cons x y.0, y.1)

  ranges_fit : (ps : List Plan) (c : ℕ) (rs : List CandidateRange) (S : State) {ds : List ℕ} {Q : State → Type 0} → All2 (RangedAt T S.retained ps) rs ds → Each (λ d. d ≡ c) ds
      → (B : Built T ps c S.builder S.generated)
      → ((b : List Scratch) (g : ℕ) (B' : Built T ps c b g) → (Some ds → Some B'.front) → Q (with_builder b g S)) → Fined Q (present_ranges R P rs S)
  unfolding present_ranges
  ranges_fit ps c [] S nil e B h = ends (h _ _ B (λ s. absurd s))
  ranges_fit ps c (r ∷ rs) S (cons d ds) e B h =
      fined (ranges_fit ps c rs S ds e.1 B λ b g B' s. range_fits T ps c r (with_builder b g S) (at e.0 d) B' λ b' g' B'' s'. h b' g' B'' (λ _. s'))

  set_fits : (q : MemoKey) (start : ℕ) (ds : List ℕ) (S : State) {cs : List ℕ} → Each (λ d. d ≡ q.column) ds → Some ds → length cs ≡ start → LayAt S (q.column ∷ cs) → ResAt S (ds ++ cs) → MemoAt S
      → Fined Fits (complete_choice_set R P q start S)
  unfolding complete_choice_set
  set_fits q start ds S {cs} e s n l rs m =
      let ps = laid T S.plans in
      let k : length S.results - start ≡ length ds = omega (arith, all2_length rs, length-append ds cs, n) in
      let y = split ds rs in
      let hi : All2 (RangedAt T S.retained ps) (take (length S.results - start) S.results) ds = rw k y.0 in
      let lo : All2 (RangedAt T S.retained ps) (drop (length S.results - start) S.results) cs = rw k y.1 in
      fined (ranges_fit ps q.column _ (begin_builder S) hi e (built_none T ps q.column _) λ b g B f. fined (finish_fits T q.column (with_builder b g S) B (f s) λ k' p ek ep r.
      complete_fits q _ _ r (lay_grow ek ep l) (res_grow ek ep lo) (memo_grow ek ep S.memo m)))

  -- ---- a sequence

  gap_waits : (ps : List Plan) (x : Candidate) (L : Cand Plan) → Holds T ps x L → Waits T ps (scratch (text_cost R.charge x.column 1) (x.column + 1) (Made (PlanText P.space_text))) (cand R L.column (put T.space))
  gap_waits ps x L h = record {
    same_cost = ap₂ (λ (c w : ℕ). text_cost R.charge c w) h.same_column (sym K.space_wide);
    same_column = ap₂ (λ (c w : ℕ). c + w) h.same_column (sym K.space_wide);
    same_plan = subst (λ (z : Word). Reads T ps (Made (PlanText P.space_text)) (put z)) K.space_is as_text;
  }

  gaps_fit : (c i s n : ℕ) (S : State) {Ls : Front} {qs : List Scratch} {Q : State → Type 0} → i < 2 ^ 32 → s + n ≤ length S.retained → All2 (Holds T (laid T S.plans)) (part S.retained s n) Ls → Each (Fit c) Ls
      → (H : Heap T (laid T S.plans) c qs S.pending)
      → ((b : List Scratch) (g : ℕ) (k : List Candidate) (p : List PlanNode) (l : List Scratch) → Ext S.retained k → Ext (laid T S.plans) (laid T p)
      → (H' : Heap T (laid T p) c qs l) → (Some (H.front ++ Ls) → Some H'.front) → Q (with_stores k p (with_builder b g (with_pending l S)))) → Fined Q (push_gaps R P i s n S)
  unfolding push_gaps heap_grow
  gaps_fit c i s zero S si ins nil f H h =
      ends (h S.builder S.generated S.retained S.plans S.pending ext_refl ext_refl H (λ z. subst (λ (v : Front). Some v) (append-nil H.front) z))
  gaps_fit c i s (suc n) S {qs = qs} si ins (cons {b = L} {ys = Ls} hx hs) f H h =
      let ps = laid T S.plans in
      fined (text_fits R P _ 1 λ w.
      let w' : L.column + T.space.width < 2 ^ 32 = subst (λ (z : ℕ). z < 2 ^ 32) (ap₂ (λ (a b : ℕ). a + b) hx.same_column (sym K.space_wide)) w in
      fined (present_fits T ps L.column _ (begin_builder S) (gap_waits ps _ L hx) (put_fits R M L.column T.space w') (built_none T ps L.column _) λ b g B s₁.
      fined (present_fits T ps L.column (newline R P i) (with_builder b g S) {y = cand R L.column (line i)} (record { same_cost = refl; same_column = refl; same_plan = as_newline }) (line_fits R M L.column i si) B λ b' g' B' s₂.
      fined (finish_fits T L.column (with_builder b' g' S) B' s₂ λ k p ek ep r.
      fined (joined_fits T (laid T p) c _ _ _ {L = L} {qs = qs} (holds_grow T ep hx) f.0 r.den.holds r.fit (heap_grow ep H) λ l' H' s₃.
      let sl : Slice T k (laid T p) (s + 1) n Ls = slice_grow ek ep (record { inside = omega (arith, ins); holds = hs }) in
      gaps_fit c i (s + 1) n _ {qs = qs} si sl.inside sl.holds f.1 H' λ b'' g'' k' p' l'' ek' ep' H'' s₄.
      h b'' g'' k' p' l'' (ext_trans ek ek') (ext_trans ep ep') H'' (λ _. s₄ (some_append H'.front Ls (s₃ (some_after H.front r.front r.den.filled)))))))))

  fill_fits : (r : CandidateRange) (c i : ℕ) (S : State) {Q : Got → Type 0} → i < 2 ^ 32 → RangedAt T S.retained (laid T S.plans) r c
      → ((b : List Scratch) (g : ℕ) (k : List Candidate) (p : List PlanNode) (r' : CandidateRange) → Ext S.retained k → Ext (laid T S.plans) (laid T p) → RangedAt T k (laid T p) r' c
      → Q (got r' (with_stores k p (with_builder b g S)))) → Fined Q (fill_boundary R P r i S)
  unfolding fill_boundary heap_none
  fill_fits r c i S si d h =
      fined (gaps_fit c i r.start r.len S {qs = S.pending} si d.den.inside d.den.holds d.fit (heap_none S.pending) λ b g k p l ek ep H s.
      pending_built T c (length S.pending) _ {qs = S.pending} H refl (s d.den.filled) λ b' g' k' p' ek' ep' r'. h b' g' k' p' _ (ext_trans ek ek') (ext_trans ep ep') r')

  gap_fits : (v : Node) (r : CandidateRange) (c i : ℕ) (S : State) {Q : Got → Type 0} → i < 2 ^ 32 → RangedAt T S.retained (laid T S.plans) r c
      → ((b : List Scratch) (g : ℕ) (k : List Candidate) (p : List PlanNode) (r' : CandidateRange) → Ext S.retained k → Ext (laid T S.plans) (laid T p) → RangedAt T k (laid T p) r' c
      → Q (got r' (with_stores k p (with_builder b g S)))) → Fined Q (gap_if_fill R P v r i S)
  unfolding gap_if_fill
  gap_fits Empty r c i S si d h = ends (h S.builder S.generated S.retained S.plans r ext_refl ext_refl d)
  gap_fits Break r c i S si d h = ends (h S.builder S.generated S.retained S.plans r ext_refl ext_refl d)
  gap_fits HardLine r c i S si d h = ends (h S.builder S.generated S.retained S.plans r ext_refl ext_refl d)
  gap_fits (Text t) r c i S si d h = ends (h S.builder S.generated S.retained S.plans r ext_refl ext_refl d)
  gap_fits (Seq ks) r c i S si d h = ends (h S.builder S.generated S.retained S.plans r ext_refl ext_refl d)
  gap_fits (Group k) r c i S si d h = ends (h S.builder S.generated S.retained S.plans r ext_refl ext_refl d)
  gap_fits (Align k) r c i S si d h = ends (h S.builder S.generated S.retained S.plans r ext_refl ext_refl d)
  gap_fits (Nest n k) r c i S si d h = ends (h S.builder S.generated S.retained S.plans r ext_refl ext_refl d)
  gap_fits (Choice a b) r c i S si d h = ends (h S.builder S.generated S.retained S.plans r ext_refl ext_refl d)
  gap_fits (Annotate a k) r c i S si d h = ends (h S.builder S.generated S.retained S.plans r ext_refl ext_refl d)
  gap_fits (Penalty n k) r c i S si d h = ends (h S.builder S.generated S.retained S.plans r ext_refl ext_refl d)
  gap_fits (Fill ks) r c i S si d h = fill_fits r c i S si d h

  right_begins : (q : MemoKey) (x : ℕ) (acc : CandidateRange) (o g start : ℕ) (S : State) {qs : List Scratch} {cs : List ℕ} → KeyFit q
      → Ranged T S.retained (laid T S.plans) q.column (acc.start + o) (suc g) → acc.len ≡ o + suc g → (get_or S.retained (acc.start + o) no_candidate).column < 2 ^ 32
      → Heap T (laid T S.plans) q.column qs S.pending → length qs ≡ start → Lay T S.retained (laid T S.plans) S.tasks (q.column ∷ cs) qs → ResAt S cs → MemoAt S
      → Fined Fits (push_right R P q x acc o start S)
  unfolding push_right
  right_begins q x acc o g start S f r len small H n l rs m =
      child_fits (CompleteSequenceRight q x acc o start) _ S (record { column_small = small; indent_small = f.indent_small }) (l_right f r len refl H n l) rs m

  -- the first of a range, as it is stored
  first_small : {k : List Candidate} {ps : List Plan} {c s n : ℕ} (r : Ranged T k ps c s n) → (hd : Headed T k ps s n r.front) → (get_or k s no_candidate).column < 2 ^ 32
  first_small {k} {c = c} {s = s} r hd =
      let f : Each (Fit c) (hd.head ∷ hd.tail) = subst (λ (z : Front). Each (Fit c) z) hd.whole r.fit in
      subst (λ (z : ℕ). z < 2 ^ 32) (sym hd.first.same_column) f.0.column_small

  next_fits : (t : Bool) (q : MemoKey) (x : ℕ) (r : CandidateRange) (S : State) {cs : List ℕ} → KeyFit q → RangedAt T S.retained (laid T S.plans) r q.column → LayAt S (q.column ∷ cs) → ResAt S cs → MemoAt S
      → Fined Fits (next_child R P t q x r S)
  unfolding next_child
  next_fits false q x r S f d l rs m = complete_fits q r S d l rs m
  next_fits true q x r S f d l rs m =
      fined (gap_fits (T.node q.node) r q.column q.indent S f.indent_small d λ b g k p r' ek ep d'.
      let hd : Headed T k (laid T p) r'.start r'.len d'.front = headed d'.den in
      let z : r'.start + 0 ≡ r'.start = omega arith in
      let whole : Ranged T k (laid T p) q.column r'.start (suc hd.others) =
      record { front = hd.head ∷ hd.tail; den = hd.den; fit = subst (λ (v : Front). Each (Fit q.column) v) hd.whole d'.fit } in
      right_begins q x r' 0 hd.others (length S.pending) _ {qs = S.pending} f (subst (λ (s : ℕ). Ranged T k (laid T p) q.column s (suc hd.others)) (sym z) whole) (omega (arith, hd.count))
      (subst (λ (s : ℕ). (get_or k s no_candidate).column < 2 ^ 32) (sym z) (first_small d' hd)) (heap_none S.pending) refl (lay_grow ek ep l) (res_grow ek ep rs) (memo_grow ek ep S.memo m))

  continue_fits : (q : MemoKey) (x : ℕ) (S : State) {d : ℕ} {cs : List ℕ} → KeyFit q → d ≡ q.column → LayAt S (q.column ∷ cs) → ResAt S (d ∷ cs) → MemoAt S → Fined Fits (continue_sequence R P q x S)
  unfolding continue_sequence
  continue_fits q x S f e l rs m = fined (pop_fits _ S rs λ r rs' d rest. next_fits _ q x r _ f (at e d) l rest m)

  left_fits : (t : Bool) (q : MemoKey) (x : ℕ) (acc : CandidateRange) (o g start : ℕ) (S : State) {Ls : Front} {qs : List Scratch} {cs : List ℕ} → ltb (o + 1) acc.len ≡ t → acc.len ≡ o + suc g
      → acc.start + o + suc g ≤ length S.retained → All2 (Holds T (laid T S.plans)) (part S.retained (acc.start + o + 1) g) Ls → Rising 0 (part S.retained (acc.start + o + 1) g) → Each (Fit q.column) Ls
      → KeyFit q → (H : Heap T (laid T S.plans) q.column qs S.pending) → Some H.front → length qs ≡ start
      → Lay T S.retained (laid T S.plans) S.tasks (q.column ∷ cs) qs → ResAt S cs → MemoAt S → Fined Fits (next_left R P t q x acc o start S)
  unfolding next_left
  left_fits true q x acc o zero start S b len ins hs ri fs f H s n l rs m = let y : o + 1 < acc.len = ltb-true (o + 1) acc.len b in absurd (omega arith)
  left_fits true q x acc o (suc g) start S {qs = qs} b len ins (cons {b = L} {ys = Ls} h hs) ri fs f H s n l rs m =
      let y : acc.start + o + 1 ≡ acc.start + (o + 1) = omega arith in
      let ps = laid T S.plans in
      let r : Ranged T S.retained ps q.column (acc.start + o + 1) (suc g) = record { front = L ∷ Ls; den = record { inside = omega arith; holds = cons h hs; filled = tt; rising = ri }; fit = fs } in
      right_begins q x acc (o + 1) g start S {qs = qs} f (subst (λ (v : ℕ). Ranged T S.retained ps q.column v (suc g)) y r) (omega arith)
      (subst (λ (v : ℕ). (get_or S.retained v no_candidate).column < 2 ^ 32) y (subst (λ (v : ℕ). v < 2 ^ 32) (sym h.same_column) fs.0.column_small)) H n l rs m
  left_fits false q x acc o (suc g) start S b len ins hs ri fs f H s n l rs m = let y : acc.len ≤ o + 1 = ltb-false (o + 1) acc.len b in absurd (omega arith)
  left_fits false q x acc o zero start S b len ins hs ri fs f H s n l rs m =
      fined (pending_built T q.column start S H n s λ b' g k p ek ep r. fined (task_fits (ContinueSequence q (x + 1)) _ (result_fits _ _
      (record { columns = _; lay = l_continue f refl (lay_grow ek ep l); res = cons r (res_grow ek ep rs); memo = memo_grow ek ep S.memo m }))))

  right_fits : (q : MemoKey) (x : ℕ) (acc : CandidateRange) (o g start : ℕ) (S : State) {d : ℕ} {qs : List Scratch} {cs : List ℕ} → KeyFit q
      → Ranged T S.retained (laid T S.plans) q.column (acc.start + o) (suc g) → acc.len ≡ o + suc g → d ≡ (get_or S.retained (acc.start + o) no_candidate).column
      → Heap T (laid T S.plans) q.column qs S.pending → length qs ≡ start → Lay T S.retained (laid T S.plans) S.tasks (q.column ∷ cs) qs → ResAt S (d ∷ cs) → MemoAt S
      → Fined Fits (complete_sequence_right R P q x acc o start S)
  unfolding complete_sequence_right
  right_fits q x acc o g start S {d} {qs} {cs} f r len e H n l rs m =
      fined (pop_fits _ S rs λ v vs dv rest. go r.front r.den.holds r.den.rising r.fit v vs dv rest)
    where
      go : (F : Front) → All2 (Holds T (laid T S.plans)) (get_or S.retained (acc.start + o) no_candidate ∷ part S.retained (acc.start + o + 1) g) F
          → Rising 0 (get_or S.retained (acc.start + o) no_candidate ∷ part S.retained (acc.start + o + 1) g) → Each (Fit q.column) F
          → (v : CandidateRange) (vs : List CandidateRange) → RangedAt T S.retained (laid T S.plans) v d → All2 (RangedAt T S.retained (laid T S.plans)) vs cs
          → Fined Fits (push_joined (get_or S.retained (acc.start + o) no_candidate) (within_range S.retained v) (with_results vs S) >>= next_left R P (ltb (o + 1) acc.len) q x acc o start)
      go F (cons {b = L} {ys = Ls} h hs) u fs v vs dv rest =
          let dv' : RangedAt T S.retained (laid T S.plans) v L.column = at (e ∙ h.same_column) dv in
          fined (joined_fits T (laid T S.plans) q.column _ _ (with_results vs S) {L = L} {qs = qs} h fs.0 dv'.den.holds dv'.fit H λ l' H' s.
          left_fits _ q x acc o g start _ {Ls = Ls} {qs = qs} refl len r.den.inside hs
          (rising_lower (suc (get_or S.retained (acc.start + o) no_candidate).plan.precedence) 0 (part S.retained (acc.start + o + 1) g) (omega arith) u.1) fs.1 f H'
          (s (some_after H.front dv'.front dv'.den.filled)) n l rest m)

  task_goes : (x : Task) (S : State) {cs : List ℕ} → Lay T S.retained (laid T S.plans) (x ∷ S.tasks) cs S.pending → ResAt S cs → MemoAt S → Fined Fits (execute_task R P x S)
  unfolding execute_task begin_node
  task_goes x S (l_eval {q = q} f l) rs m = known_fits (lookup S.memo q) q S refl f l rs m
  task_goes x S (l_alias {q = q} e l) rs m = alias_fits q S e l rs m
  task_goes x S (l_union {q = q} d e l) rs m = union_fits q S d e l rs m
  task_goes x S (l_set ds {q = q} {start = start} a s y n l) rs m = set_fits q start ds S a s n l (subst (λ (z : List ℕ). ResAt S z) y rs) m
  task_goes x S (l_annotate {q = q} {a = a} e l) rs m = wrap_fits q (PlanAnnotate a) zero_cost (marked a) (annotate_like a) (λ ps u y h f o b. annotate_fit q.column a y f) S e l rs m
  task_goes x S (l_penalty {q = q} {a = a} e l) rs m = wrap_fits q (PlanPenalty a) (penalty_cost a) (charged a) (penalty_like a) (penalty_fit q.column a) S e l rs m
  task_goes x S (l_continue {q = q} {x = n} f e l) rs m = continue_fits q n S f e l rs m
  task_goes x S (l_right {q = q} {x = n} {o = o} {g = g} {start = start} {acc = acc} f r len e H k l) rs m = right_fits q n acc o g start S f r len e H k l rs m

  pub step_fits : (x : Task) (ts : List Task) (S : State) → S.tasks ≡ x ∷ ts → Fits S → Fined Fits (step R P S)
  unfolding step
  step_fits x ts S e i =
      let l : Lay T S.retained (laid T S.plans) (x ∷ ts) i.columns S.pending = subst (λ (z : List Task). Lay T S.retained (laid T S.plans) z i.columns S.pending) e i.lay in
      subst (λ (z : List Task). Fined Fits (step_on R P z S)) (sym e) (task_goes x (with_tasks ts S) l i.res i.memo)
