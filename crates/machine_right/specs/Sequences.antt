-- The tasks of a sequence keep the typed stack, and what they push.
use Prim.Native.Nat.{ℕ, zero, suc, ◌+◌, ◌≤◌, ◌<◌}
use native.Mathlib.Omega.{arith}
use Rattle.std.proofs.Common.{add-one, ap₂, ◌∙◌, subst}
use Rattle.std.specs.Prelude.{Bool, ◌≡◌, ltb, take, drop}
use Rattle.std.proofs.Math.Bool.{true, false}
use mathlib.Core.List.{List, [], ◌∷◌, ◌++◌, map, append_assoc, append-nil}
use mathlib.Core.List.Memᴰ.{head as here}
use mathlib.Core.List.Memᴰ.{not-nil as not_in_nil}
use mathlib.Core.List.Memᴰ.{tail as there}
use mathlib.Core.List.{Memᴰ as In}
use Rattle.std.proofs.Math.Path.{refl, sym, ap}
use borrow.Author.Tests.{ltb-true, ltb-false}
use Rattle.std.proofs.Math.ListN.{length, get_or}
use Rattle.std.proofs.Math.Seq.{take-append_seam, drop-append_seam}
use Rattle.cost.specs.Cost.{Cost}
use Rattle.cost.specs.Charge.{text_cost}
use Rattle.memo.specs.declared.MemoKey.{MemoKey}
use Rattle.memo.specs.declared.CandidateRange.{CandidateRange}
use Rattle.layout.specs.Document.{Word, Doc}
use Rattle.layout.specs.Rules.{Rules}
use Rattle.layout.specs.Layout.{Plan, put}
use Rattle.layout.specs.Table.{Node, Table, Empty, Break, HardLine, Text, Seq, Fill, Group, Align, Nest, Choice, Annotate, Penalty}
use Rattle.layout.specs.References.{refers}
use Rattle.layout.specs.Frontier.{Cand, cand, after, covers, load, build, front}
use Rattle.machine.specs.Events.{◌>>=◌}
use Rattle.machine.specs.Model.{Prepared, children, PlanNode, PlanText, Made, Candidate, Scratch, scratch, no_candidate, part, range, within_range, memo_key}
use Rattle.machine.specs.Model.{Task, Eval, ContinueSequence, CompleteSequenceRight, State, with_results, with_pending, with_stores, with_builder, Got, got}
use Rattle.machine.specs.Solver.{begin_builder, finish_builder, push_joined, build_pending}
use Rattle.machine.specs.Solver.{checked_text, newline, push_gaps, fill_boundary}
use Rattle.machine.specs.Solver.{push_right, gap_if_fill, next_child, continue_sequence, next_left, complete_sequence_right}
use Rattle.machine_right.specs.Relations.{All2, nil, cons, Some, some_present, some_build, some_append, some_after, some_map, Ext, ext_refl, ext_trans, Reads, as_text, as_newline, laid, Waits, Holds, holds_grow, Den, Rising, rising_lower}
use Rattle.machine_right.specs.Post.{Post, holds_of, says, post_bind}
use Rattle.machine_right.specs.Rules.{task_post, result_post, pop_post, present_post, present_all_post, finish_post}
use Rattle.machine_right.specs.Fronts.{Front, is_fill, joins, gap, spacing, seqs, means}
use Rattle.machine_right.specs.Typed.{Pile, pile_grow, kids, Cont, c_continue, c_right, cont_grow, RangeDen, memo_grow}
use Rattle.machine_right.specs.Ready.{Ready}
use Rattle.machine_right.specs.Sound.{ContAt, ResAt, MemoAt, Leaves, Goes, res_grow, complete_good, child_good}
use Rattle.machine_right.specs.Relations.{Slice, slice_grow, Headed, headed}
use Rattle.machine_right.specs.Tasks.{joined_post}

drop_all : (l : List ℕ) (x : ℕ) → length l ≤ x → drop x l ≡ []
drop_all [] zero h = refl
drop_all [] (suc x) h = refl
drop_all (k ∷ l) zero h = absurd (omega arith)
drop_all (k ∷ l) (suc x) h = drop_all l x (omega arith)

drop_suc : (l : List ℕ) (x : ℕ) → x < length l → drop x l ≡ get_or l x 0 ∷ drop (suc x) l
drop_suc [] x h = absurd (omega arith)
drop_suc (k ∷ l) zero h = refl
drop_suc (k ∷ l) (suc x) h = drop_suc l x (omega arith)

drop_next : (l : List ℕ) (x : ℕ) → x < length l → drop x l ≡ get_or l x 0 ∷ drop (x + 1) l
drop_next l x h = drop_suc l x h ∙ ap (λ (n : ℕ). get_or l x 0 ∷ drop n l) (sym (add-one x))

some_joins : (g : ℕ → Front) (F : Front) → ((c : ℕ) → Some (g c)) → Some F → Some (joins g F)
unfolding joins
some_joins g [] h f = absurd f
some_joins g (L ∷ Ls) h f = some_append (map (after L) (g L.column)) (joins g Ls) (some_map (after L) (g L.column) (h L.column))

-- the frontier of what is pending above qs
build_post : (T : Table) (start : ℕ) (S : State) {G : Front} {qs : List Scratch} {Q : Got → Type 0} → Pile T (laid T S.plans) qs G S.pending → length qs ≡ start → Some G
    → ((b : List Scratch) (g : ℕ) (k : List Candidate) (p : List PlanNode) → Ext S.retained k → Ext (laid T S.plans) (laid T p)
    → Den T k (laid T p) (length S.retained) (length b) (build covers G) → Q (got (range (length S.retained) (length b)) (with_stores k p (with_builder b g (with_pending qs S)))))
    → Post Q (build_pending start S)
unfolding build_pending build
build_post T start S {G} {qs} {Q} pl e f h =
    let ps = laid T S.plans in
    let d : drop start S.pending ≡ pl.above = ap₂ (λ (n : ℕ) (z : List Scratch). drop n z) (sym e) pl.split ∙ drop-append_seam qs pl.above in
    let t : take start S.pending ≡ qs = ap₂ (λ (n : ℕ) (z : List Scratch). take n z) (sym e) pl.split ∙ take-append_seam qs pl.above in
    post_bind (present_all_post T ps _ (begin_builder S) (subst (λ (z : List Scratch). All2 (Waits T ps) z G) (sym d) pl.waits) nil (omega arith) λ b g a u.
    subst (λ (z : List Scratch). Post Q (finish_builder (with_pending z (with_builder b g S)))) (sym t)
    (finish_post T (with_pending qs (with_builder b g S)) a (some_build G f) u λ k p ek ep den. h b g k p ek ep den))

module _ (R : Rules) (P : Prepared) (D : ℕ → Doc) (goal : Front) (K : Ready P) where
  abbrev T : Table
  T = P.table

  gap_waits : (ps : List Plan) (x : Candidate) (L : Cand Plan) → Holds T ps x L → Waits T ps (scratch (text_cost R.charge x.column 1) (x.column + 1) (Made (PlanText P.space_text))) (cand R L.column (put T.space))
  gap_waits ps x L h = record {
    same_cost = ap₂ (λ (c w : ℕ). text_cost R.charge c w) h.same_column (sym K.space_wide);
    same_column = ap₂ (λ (c w : ℕ). c + w) h.same_column (sym K.space_wide);
    same_plan = subst (λ (z : Word). Reads T ps (Made (PlanText P.space_text)) (put z)) K.space_is as_text;
  }

  text_post : (c w : ℕ) {Q : Cost → Type 0} → Q (text_cost R.charge c w) → Post Q (checked_text R P c w)
  unfolding checked_text
  text_post c w h = says tt (holds_of h)

  -- a space or a newline after each of the candidates
  gaps_post : (i s n : ℕ) (S : State) {Ls G : Front} {qs : List Scratch} {Q : State → Type 0} → s + n ≤ length S.retained → All2 (Holds T (laid T S.plans)) (part S.retained s n) Ls
      → Pile T (laid T S.plans) qs G S.pending
      → ((b : List Scratch) (g : ℕ) (k : List Candidate) (p : List PlanNode) (l : List Scratch) → Ext S.retained k → Ext (laid T S.plans) (laid T p)
      → Pile T (laid T p) qs (G ++ joins (gap R T D i) Ls) l → Q (with_stores k p (with_builder b g (with_pending l S)))) → Post Q (push_gaps R P i s n S)
  unfolding push_gaps joins gap build load
  gaps_post i s zero S {G = G} {qs = qs} ins nil pl h =
      holds_of (h S.builder S.generated S.retained S.plans S.pending ext_refl ext_refl (subst (λ (z : Front). Pile T (laid T S.plans) qs z S.pending) (sym (append-nil G)) pl))
  gaps_post i s (suc n) S {G = G} {qs = qs} ins (cons {b = L} {ys = Ls} hx hs) pl h =
      let ps = laid T S.plans in
      post_bind (text_post _ 1 (post_bind (present_post T ps _ (begin_builder S) (gap_waits ps _ L hx) nil (omega arith) λ b g a u.
      post_bind (present_post T ps (newline R P i) (with_builder b g S) (record { same_cost = refl; same_column = refl; same_plan = as_newline }) a u λ b' g' a' u'.
      post_bind (finish_post T (with_builder b' g' S) a' (some_present _ _) u' λ k p ek ep den.
      post_bind (joined_post R P T (laid T p) _ _ _ {L = L} {G = G} {qs = qs} (holds_grow T ep hx) den.holds (pile_grow ep pl) λ l' pl'.
      let sl : Slice T k (laid T p) (s + 1) n Ls = slice_grow ek ep (record { inside = omega (arith, ins); holds = hs }) in
      gaps_post i (s + 1) n _ {G = G ++ map (after L) (gap R T D i L.column)} {qs = qs} sl.inside sl.holds pl' λ b'' g'' k' p' l'' ek' ep' pl''.
      h b'' g'' k' p' l'' (ext_trans ek ek') (ext_trans ep ep') (subst (λ (z : Front). Pile T (laid T p') qs z l'') (append_assoc G (map (after L) (gap R T D i L.column)) (joins (gap R T D i) Ls)) pl'')))))))

  some_gap : (i c : ℕ) → Some (gap R T D i c)
  unfolding gap
  some_gap i c = some_build _ tt

  fill_post : (r : CandidateRange) (i : ℕ) (S : State) {F : Front} {Q : Got → Type 0} → RangeDen R T D S.retained (laid T S.plans) r F
      → ((b : List Scratch) (g : ℕ) (k : List Candidate) (p : List PlanNode) (r' : CandidateRange) → Ext S.retained k → Ext (laid T S.plans) (laid T p)
      → RangeDen R T D k (laid T p) r' (build covers (joins (gap R T D i) F)) → Q (got r' (with_stores k p (with_builder b g S)))) → Post Q (fill_boundary R P r i S)
  unfolding fill_boundary
  fill_post r i S {F} den h =
      post_bind (gaps_post i r.start r.len S {G = []} {qs = S.pending} den.inside den.holds (record { above = []; split = sym (append-nil S.pending); waits = nil })
      λ b g k p l ek ep pl. build_post T (length S.pending) _ {qs = S.pending} pl refl (some_joins (gap R T D i) F (some_gap i) den.filled) λ b' g' k' p' ek' ep' den'.
      h b' g' k' p' _ (ext_trans ek ek') (ext_trans ep ep') den')

  gap_if_post : (v : Node) (r : CandidateRange) (i : ℕ) (S : State) {F : Front} {Q : Got → Type 0} → RangeDen R T D S.retained (laid T S.plans) r F
      → ((b : List Scratch) (g : ℕ) (k : List Candidate) (p : List PlanNode) (r' : CandidateRange) → Ext S.retained k → Ext (laid T S.plans) (laid T p)
      → RangeDen R T D k (laid T p) r' (spacing R T D (is_fill v) i F) → Q (got r' (with_stores k p (with_builder b g S)))) → Post Q (gap_if_fill R P v r i S)
  unfolding gap_if_fill spacing
  gap_if_post Empty r i S den h = holds_of (h S.builder S.generated S.retained S.plans r ext_refl ext_refl den)
  gap_if_post Break r i S den h = holds_of (h S.builder S.generated S.retained S.plans r ext_refl ext_refl den)
  gap_if_post HardLine r i S den h = holds_of (h S.builder S.generated S.retained S.plans r ext_refl ext_refl den)
  gap_if_post (Text t) r i S den h = holds_of (h S.builder S.generated S.retained S.plans r ext_refl ext_refl den)
  gap_if_post (Seq ks) r i S den h = holds_of (h S.builder S.generated S.retained S.plans r ext_refl ext_refl den)
  gap_if_post (Group k) r i S den h = holds_of (h S.builder S.generated S.retained S.plans r ext_refl ext_refl den)
  gap_if_post (Align k) r i S den h = holds_of (h S.builder S.generated S.retained S.plans r ext_refl ext_refl den)
  gap_if_post (Nest n k) r i S den h = holds_of (h S.builder S.generated S.retained S.plans r ext_refl ext_refl den)
  gap_if_post (Choice a b) r i S den h = holds_of (h S.builder S.generated S.retained S.plans r ext_refl ext_refl den)
  gap_if_post (Annotate a k) r i S den h = holds_of (h S.builder S.generated S.retained S.plans r ext_refl ext_refl den)
  gap_if_post (Penalty n k) r i S den h = holds_of (h S.builder S.generated S.retained S.plans r ext_refl ext_refl den)
  gap_if_post (Fill ks) r i S den h = fill_post r i S den h

  -- ---- what is pushed

  pub data AfterContinue (q : MemoKey) (x : ℕ) (ts us : List Task) : Type 0 where
    ended : length (kids R P.table D q) ≤ x → us ≡ ts → AfterContinue q x ts us
    started : (k : MemoKey) (acc : CandidateRange) (start : ℕ) → x < length (kids R P.table D q) → K.ranked.rank k.node < K.ranked.rank q.node
        → us ≡ Eval k ∷ CompleteSequenceRight q x acc 0 start ∷ ts → AfterContinue q x ts us

  pub data AfterRight (q : MemoKey) (x : ℕ) (acc : CandidateRange) (o start : ℕ) (ts us : List Task) : Type 0 where
    last_left : acc.len ≤ o + 1 → us ≡ ContinueSequence q (x + 1) ∷ ts → AfterRight q x acc o start ts us
    more_left : (k : MemoKey) → o + 1 < acc.len → K.ranked.rank k.node < K.ranked.rank q.node
        → us ≡ Eval k ∷ CompleteSequenceRight q x acc (o + 1) start ∷ ts → AfterRight q x acc o start ts us

  -- a child of a sequence is of lower rank
  in_get_or : (l : List ℕ) (x : ℕ) → x < length l → In (get_or l x 0) l
  in_get_or [] x h = absurd (omega arith)
  in_get_or (k ∷ l) zero h = here refl
  in_get_or (k ∷ l) (suc x) h = there (in_get_or l x (omega arith))

  kids_refer : (v : Node) (k : ℕ) → In k (children v) → In k (refers T v)
  kids_refer Empty k i = absurd (not_in_nil i)
  kids_refer Break k i = absurd (not_in_nil i)
  kids_refer HardLine k i = absurd (not_in_nil i)
  kids_refer (Text t) k i = absurd (not_in_nil i)
  kids_refer (Group c) k i = absurd (not_in_nil i)
  kids_refer (Align c) k i = absurd (not_in_nil i)
  kids_refer (Nest n c) k i = absurd (not_in_nil i)
  kids_refer (Choice a b) k i = absurd (not_in_nil i)
  kids_refer (Annotate a c) k i = absurd (not_in_nil i)
  kids_refer (Penalty n c) k i = absurd (not_in_nil i)
  kids_refer (Seq ks) k i = i
  kids_refer (Fill ks) k i = i

  child_lower : (q : MemoKey) (x : ℕ) → x < length (kids R T D q) → K.ranked.rank (get_or (kids R T D q) x 0) < K.ranked.rank q.node
  child_lower q x h = K.ranked.falls q.node (get_or (kids R T D q) x 0) (kids_refer (T.node q.node) (get_or (kids R T D q) x 0) (in_get_or (kids R T D q) x h))

  -- ---- the steps

  -- a right part at the left candidate in hand
  right_begins : (W : List Task → Type 0) (q : MemoKey) (x : ℕ) (acc : CandidateRange) (o g start : ℕ) (S : State) {G Ls : Front} {L : Cand Plan} {qs : List Scratch} {Es : List Front}
      → Den T S.retained (laid T S.plans) (acc.start + o) (suc g) (L ∷ Ls) → acc.len ≡ o + suc g → x < length (kids R T D q)
      → Holds T (laid T S.plans) (get_or S.retained (acc.start + o) no_candidate) L → Pile T (laid T S.plans) qs G S.pending → length qs ≡ start
      → means R T D q ≡ seqs R T D (is_fill (T.node q.node)) (drop (x + 1) (kids R T D q)) q.indent
      (build covers (G ++ joins (λ c. front R (D (get_or (kids R T D q) x 0)) c q.indent) (L ∷ Ls)))
      → Cont R T D goal S.retained (laid T S.plans) S.tasks (means R T D q ∷ Es) qs → ResAt R P D goal S Es → MemoAt R P D goal S
      → ((k : MemoKey) → K.ranked.rank k.node < K.ranked.rank q.node → W (Eval k ∷ CompleteSequenceRight q x acc o start ∷ S.tasks))
      → Goes R P D goal W (push_right R P q x acc o start S)
  unfolding push_right means
  right_begins W q x acc o g start S {G} {Ls} {L} {qs} den len lt h pl lp e c rs m w =
      let n = get_or (kids R T D q) x 0 in
      let k = memo_key n (get_or S.retained (acc.start + o) no_candidate).column q.indent in
      child_good R P D goal W (CompleteSequenceRight q x acc o start) k S
      (c_right {G = G} {Ls = Ls} {L = L} {qs = qs} den len lt refl (ap (λ (v : ℕ). front R (D n) v q.indent) h.same_column) pl lp e c) rs m
      (w k (child_lower q x lt))

  next_good : (t : Bool) (q : MemoKey) (x : ℕ) (r : CandidateRange) (S : State) {F : Front} {Es : List Front} → ltb x (length (kids R T D q)) ≡ t
      → RangeDen R T D S.retained (laid T S.plans) r F
      → means R T D q ≡ seqs R T D (is_fill (T.node q.node)) (drop x (kids R T D q)) q.indent F
      → ContAt R P D goal S (means R T D q ∷ Es) → ResAt R P D goal S Es → MemoAt R P D goal S
      → Goes R P D goal (AfterContinue q x S.tasks) (next_child R P t q x r S)
  unfolding next_child seqs
  next_good false q x r S {F} b den e c rs m =
      let le : length (kids R T D q) ≤ x = ltb-false x (length (kids R T D q)) b in
      let f : means R T D q ≡ F = e ∙ ap (λ (l : List ℕ). seqs R T D (is_fill (T.node q.node)) l q.indent F) (drop_all (kids R T D q) x le) in
      complete_good R P D goal _ q r S (subst (λ (z : Front). RangeDen R T D S.retained (laid T S.plans) r z) (sym f) den) c rs m (ended le refl)
  next_good true q x r S {F} b den e c rs m =
      let lt : x < length (kids R T D q) = ltb-true x (length (kids R T D q)) b in
      let f = e ∙ ap (λ (l : List ℕ). seqs R T D (is_fill (T.node q.node)) l q.indent F) (drop_next (kids R T D q) x lt) in
      post_bind (gap_if_post (T.node q.node) r q.indent S den λ b' g k p r' ek ep den'.
      let hd : Headed T k (laid T p) r'.start r'.len (spacing R T D (is_fill (T.node q.node)) q.indent F) = headed den' in
      let z : r'.start + 0 ≡ r'.start = omega arith in
      right_begins (AfterContinue q x S.tasks) q x r' 0 hd.others (length S.pending) _ {G = []} {Ls = hd.tail} {L = hd.head} {qs = S.pending}
      (subst (λ (s : ℕ). Den T k (laid T p) s (suc hd.others) (hd.head ∷ hd.tail)) (sym z) hd.den) (omega (arith, hd.count)) lt
      (subst (λ (s : ℕ). Holds T (laid T p) (get_or k s no_candidate) hd.head) (sym z) hd.first)
      (record { above = []; split = sym (append-nil S.pending); waits = nil }) refl
      (f ∙ ap (λ (v : Front). seqs R T D (is_fill (T.node q.node)) (drop (x + 1) (kids R T D q)) q.indent (build covers (joins (λ c. front R (D (get_or (kids R T D q) x 0)) c q.indent) v))) hd.whole)
      (cont_grow R T D ek ep c) (res_grow R P D goal ek ep rs) (memo_grow R T D ek ep S.memo m)
      (λ k' low. started k' r' (length S.pending) lt low refl))

  pub continue_good : (q : MemoKey) (x : ℕ) (S : State) {F : Front} {Es : List Front}
      → means R T D q ≡ seqs R T D (is_fill (T.node q.node)) (drop x (kids R T D q)) q.indent F
      → ContAt R P D goal S (means R T D q ∷ Es) → ResAt R P D goal S (F ∷ Es) → MemoAt R P D goal S
      → Goes R P D goal (AfterContinue q x S.tasks) (continue_sequence R P q x S)
  unfolding continue_sequence
  continue_good q x S e c rs m = post_bind (pop_post _ S rs λ r rs' den rest. next_good _ q x r _ refl den e c rest m)

  -- after a right part: the next left candidate, or the continuation
  left_good : (t : Bool) (q : MemoKey) (x : ℕ) (acc : CandidateRange) (o g start : ℕ) (S : State) {G Ls : Front} {qs : List Scratch} {Es : List Front}
      → ltb (o + 1) acc.len ≡ t → acc.len ≡ o + suc g → acc.start + o + suc g ≤ length S.retained → All2 (Holds T (laid T S.plans)) (part S.retained (acc.start + o + 1) g) Ls
      → Rising 0 (part S.retained (acc.start + o + 1) g) → x < length (kids R T D q) → Some G → Pile T (laid T S.plans) qs G S.pending → length qs ≡ start
      → means R T D q ≡ seqs R T D (is_fill (T.node q.node)) (drop (x + 1) (kids R T D q)) q.indent (build covers (G ++ joins (λ c. front R (D (get_or (kids R T D q) x 0)) c q.indent) Ls))
      → Cont R T D goal S.retained (laid T S.plans) S.tasks (means R T D q ∷ Es) qs → ResAt R P D goal S Es → MemoAt R P D goal S
      → Goes R P D goal (AfterRight q x acc o start S.tasks) (next_left R P t q x acc o start S)
  unfolding next_left joins
  left_good true q x acc o zero start S b len ins hs ri lt sm pl lp e c rs m = let y : o + 1 < acc.len = ltb-true (o + 1) acc.len b in absurd (omega arith)
  left_good true q x acc o (suc g) start S {G} {qs = qs} b len ins (cons {b = L} {ys = Ls} h hs) ri lt sm pl lp e c rs m =
      let y : acc.start + o + 1 ≡ acc.start + (o + 1) = omega arith in
      let ps = laid T S.plans in
      right_begins (AfterRight q x acc o start S.tasks) q x acc (o + 1) g start S {G = G} {Ls = Ls} {L = L} {qs = qs}
      (subst (λ (s : ℕ). Den T S.retained ps s (suc g) (L ∷ Ls)) y (record { inside = omega arith; holds = cons h hs; filled = tt; rising = ri })) (omega arith) lt
      (subst (λ (s : ℕ). Holds T ps (get_or S.retained s no_candidate) L) y h) pl lp e c rs m (λ k low. more_left k (ltb-true (o + 1) acc.len b) low refl)
  left_good false q x acc o (suc g) start S b len ins hs ri lt sm pl lp e c rs m = let y : acc.len ≤ o + 1 = ltb-false (o + 1) acc.len b in absurd (omega arith)
  left_good false q x acc o zero start S {G} b len ins nil ri lt sm pl lp e c rs m =
      post_bind (build_post T start S pl lp sm λ b' g k p ek ep den. post_bind (task_post (ContinueSequence q (x + 1)) _ (result_post _ _ (record {
        inv = record {
          types = _;
          conts = c_continue (e ∙ ap (λ (v : Front). seqs R T D (is_fill (T.node q.node)) (drop (x + 1) (kids R T D q)) q.indent (build covers v)) (append-nil G)) (cont_grow R T D ek ep c);
          res = cons den (res_grow R P D goal ek ep rs);
          memos = memo_grow R T D ek ep S.memo m;
        };
        leaves = last_left (ltb-false (o + 1) acc.len b) refl;
      }))))

  pub right_good : (q : MemoKey) (x n : ℕ) (acc : CandidateRange) (o g start : ℕ) (S : State) {F G Ls : Front} {L : Cand Plan} {qs : List Scratch} {Es : List Front}
      → Den T S.retained (laid T S.plans) (acc.start + o) (suc g) (L ∷ Ls) → acc.len ≡ o + suc g → x < length (kids R T D q) → get_or (kids R T D q) x 0 ≡ n
      → F ≡ front R (D n) L.column q.indent → Pile T (laid T S.plans) qs G S.pending → length qs ≡ start
      → means R T D q ≡ seqs R T D (is_fill (T.node q.node)) (drop (x + 1) (kids R T D q)) q.indent (build covers (G ++ joins (λ c. front R (D n) c q.indent) (L ∷ Ls)))
      → Cont R T D goal S.retained (laid T S.plans) S.tasks (means R T D q ∷ Es) qs → ResAt R P D goal S (F ∷ Es) → MemoAt R P D goal S
      → Goes R P D goal (AfterRight q x acc o start S.tasks) (complete_sequence_right R P q x acc o start S)
  unfolding complete_sequence_right joins
  right_good q x n acc o g start S {F} {G} {Ls} {L} {qs} {Es} dl len lt en ef pl lp e c rs m =
      post_bind (pop_post _ S rs λ r rs' dr rest. go dl.holds dl.rising r rs' dr rest)
    where
      go : All2 (Holds T (laid T S.plans)) (get_or S.retained (acc.start + o) no_candidate ∷ part S.retained (acc.start + o + 1) g) (L ∷ Ls)
          → Rising 0 (get_or S.retained (acc.start + o) no_candidate ∷ part S.retained (acc.start + o + 1) g)
          → (r : CandidateRange) (rs' : List CandidateRange) → RangeDen R T D S.retained (laid T S.plans) r F → All2 (RangeDen R T D S.retained (laid T S.plans)) rs' Es
          → Post (Leaves R P D goal (AfterRight q x acc o start S.tasks))
          (push_joined (get_or S.retained (acc.start + o) no_candidate) (within_range S.retained r) (with_results rs' S) >>= next_left R P (ltb (o + 1) acc.len) q x acc o start)
      go (cons h hs) u r rs' dr rest =
          post_bind (joined_post R P T (laid T S.plans) _ _ (with_results rs' S) {L = L} {G = G} {qs = qs} h dr.holds pl λ l' pl'.
          left_good _ q x acc o g start _ {G = G ++ map (after L) F} {Ls = Ls} {qs = qs} refl len dl.inside hs
          (rising_lower (suc (get_or S.retained (acc.start + o) no_candidate).plan.precedence) 0 (part S.retained (acc.start + o + 1) g) (omega arith) u.1) lt
          (some_after G (map (after L) F) (some_map (after L) F dr.filled)) pl' lp
          (e ∙ ap (λ (v : Front). seqs R T D (is_fill (T.node q.node)) (drop (x + 1) (kids R T D q)) q.indent (build covers v))
          (ap (λ (v : Front). G ++ (map (after L) v ++ joins (λ c. front R (D n) c q.indent) Ls)) (sym ef)
          ∙ sym (append_assoc G (map (after L) F) (joins (λ c. front R (D n) c q.indent) Ls))
          ∙ ap (λ (k : ℕ). (G ++ map (after L) F) ++ joins (λ c. front R (D k) c q.indent) Ls) (sym en))) c rest m)
