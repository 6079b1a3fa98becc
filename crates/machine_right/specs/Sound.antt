-- Each step keeps the typed stack, never comes to what cannot be, and pushes only tasks of lower rank.
use Prim.Native.Nat.{ℕ, zero, suc, ◌+◌, ◌≤◌, ◌<◌}
use Rattle.std.proofs.Common.{arith, ◌∙◌, subst}
use Rattle.std.proofs.Math.Option.{Option, none, some}
use mathlib.Core.List.{List, [], ◌∷◌, ◌++◌, map, append_assoc, append-nil}
use mathlib.Core.List.Memᴰ.{head as here}
use mathlib.Core.List.Memᴰ.{tail as there}
use mathlib.Core.List.{Memᴰ as In}
use Rattle.std.specs.Prelude.{◌≡◌, length, drop}
use Rattle.std.proofs.Math.Path.{refl, sym, ap, ap₂}
use Rattle.memo.specs.declared.MemoKey.{MemoKey}
use Rattle.memo.specs.declared.CandidateRange.{CandidateRange}
use Rattle.std.specs.Prelude.{Some as Found, None as Nothing}
use Rattle.memo.specs.Entries.{MemoLookup, lookup}
use Rattle.layout.specs.Document.{Doc}
use Rattle.layout.specs.Rules.{Rules}
use Rattle.layout.specs.Layout.{Plan}
use Rattle.layout.specs.Choice.{each}
use Rattle.layout.specs.Table.{Node, Table, Empty, Break, HardLine, Text, Seq, Fill, Group, Align, Nest, Choice, Annotate, Penalty, shape, group_doc}
use Rattle.layout.specs.Table.{Reads as ReadsAs}
use Rattle.layout.specs.References.{refers, flat_of, RightList, two, more}
use Rattle.layout.specs.Frontier.{Cand, covers, build, front}
use Rattle.layout.specs.Frontier.{present as presented}
use Rattle.layout.proofs.ChoiceLists.{list_front}
use Rattle.machine.specs.Events.{Prog}
use Rattle.machine.specs.Model.{Prepared, ExactChoice, children, Candidate, Scratch, memo_key}
use Rattle.machine.specs.Model.{Task, Eval, CompleteAlias, CompleteUnion, CompleteChoiceSet, CompleteAnnotate, CompletePenalty, ContinueSequence, CompleteSequenceRight, State, with_tasks, with_builder, Got}
use Rattle.machine.specs.Solver.{begin_builder, finish_builder, singleton, memo_insert, complete_node}
use Rattle.machine.specs.Solver.{checked_text, push_child, complete_singleton, begin_empty, begin_text, begin_newline, begin_sequence, begin_union, begin_group, begin_nest, skip_choices, push_alternatives, begin_choice, begin_kind, begin_known}
use Rattle.machine_right.specs.Relations.{All2, nil, cons, all2_imp, all2_length, Some, list_some, Ext, as_empty, as_text, as_newline, laid, Waits, Den, den_grow, Rise}
use Rattle.machine_right.specs.Post.{Post, holds_of, says, post_bind}
use Rattle.machine_right.specs.Rules.{task_post, result_post, present_post, finish_post}
use Rattle.machine_right.specs.Fronts.{Front, is_fill, seqs, means, Sequence, seq_is, fill_is}
use Rattle.machine_right.specs.Typed.{flatten, kids, Cont, c_eval, c_alias, c_union, c_set, c_annotate, c_penalty, c_continue, cont_grow, RangeDen, MemoOk, memo_grow, stored_ok, lookup_ok}
use Rattle.machine_right.specs.Ready.{Ready}

-- each of a list
abbrev pub Each : {A : Type 0} → (A → Type 0) → List A → Type 0
Each Q [] = Unit {0}
Each Q (x ∷ xs) = Q x × Each Q xs

module _ (R : Rules) (P : Prepared) (D : ℕ → Doc) (goal : Front) where
  abbrev T : Table
  T = P.table

  abbrev pub ContAt : State → List Front → Type 0
  ContAt S Es = Cont R P.table D goal S.retained (laid P.table S.plans) S.tasks Es S.pending

  abbrev pub ResAt : State → List Front → Type 0
  ResAt S Es = All2 (RangeDen R P.table D S.retained (laid P.table S.plans)) S.results Es

  abbrev pub MemoAt : State → Type 0
  MemoAt S = MemoOk R P.table D S.retained (laid P.table S.plans) S.memo

  -- what holds between the steps
  pub record Inv (S : State) : Type 0 where
    pub types : List Front
    pub conts : ContAt S types
    pub res : ResAt S types
    pub memos : MemoAt S

  pub record Leaves (W : List Task → Type 0) (S : State) : Type 0 where
    pub inv : Inv S
    pub leaves : W S.tasks

  abbrev pub Goes : (List Task → Type 0) → Prog State → Type 0
  Goes W p = Post (Leaves W) p

  -- what a frontier is built into, and what is done with it
  abbrev pub Ends : (List Task → Type 0) → MemoKey → Prog Got → Type 0
  Ends W q p = Post (λ G. Goes W (complete_node q G.range G.state)) p

  -- ---- ends of a node

  pub res_grow : {k k' : List Candidate} {ps ps' : List Plan} {rs : List CandidateRange} {Es : List Front} → Ext k k' → Ext ps ps'
      → All2 (RangeDen R T D k ps) rs Es → All2 (RangeDen R T D k' ps') rs Es
  res_grow ek ep h = all2_imp (λ r F. den_grow ek ep) h

  pub complete_good : (W : List Task → Type 0) (q : MemoKey) (r : CandidateRange) (S : State) {Es : List Front} → RangeDen R T D S.retained (laid T S.plans) r (means R T D q)
      → ContAt S (means R T D q ∷ Es) → ResAt S Es → MemoAt S → W S.tasks → Goes W (complete_node q r S)
  unfolding complete_node memo_insert
  complete_good W q r S den c rs m w =
      says tt (says tt (result_post r _ (record { inv = record { types = _; conts = c; res = cons den rs; memos = stored_ok R T D S.memo (record { key = q; range = r }) m den }; leaves = w })))

  pub finish_good : (W : List Task → Type 0) (q : MemoKey) (S : State) {F : Front} {Es : List Front} → All2 (Waits T (laid T S.plans)) S.builder F → Some F → Rise 0 S.builder S.generated
      → means R T D q ≡ F → ContAt S (means R T D q ∷ Es) → ResAt S Es → MemoAt S → W S.tasks → Ends W q (finish_builder S)
  finish_good W q S {F} a f u e c rs m w =
      finish_post T S a f u λ k p ek ep den.
      complete_good W q _ _ (subst (λ (z : Front). Den T k (laid T p) (length S.retained) (length S.builder) z) (sym e) den) (cont_grow R T D ek ep c) (res_grow ek ep rs) (memo_grow R T D ek ep S.memo m) w

  single_good : (W : List Task → Type 0) (q : MemoKey) (c : Scratch) (S : State) {y : Cand Plan} {Es : List Front} → Waits T (laid T S.plans) c y
      → means R T D q ≡ y ∷ [] → ContAt S (means R T D q ∷ Es) → ResAt S Es → MemoAt S → W S.tasks → Goes W (complete_singleton R P q c S)
  unfolding complete_singleton singleton presented
  single_good W q c S w e k rs m h =
      post_bind (post_bind (present_post T _ c (begin_builder S) w nil (omega arith) λ b g a u. finish_good W q (with_builder b g S) a tt u e k rs m h))

  pub child_good : (W : List Task → Type 0) (t : Task) (q : MemoKey) (S : State) {Es : List Front}
      → Cont R T D goal S.retained (laid T S.plans) (t ∷ S.tasks) (means R T D q ∷ Es) S.pending → ResAt S Es → MemoAt S
      → W (Eval q ∷ t ∷ S.tasks) → Goes W (push_child R P t q S)
  unfolding push_child
  child_good W t q S k rs m w =
      post_bind (task_post t S (task_post (Eval q) _ (record { inv = record { types = _; conts = c_eval k; res = rs; memos = m }; leaves = w })))

  union_begins : (W : List Task → Type 0) (a b : ℕ) (q : MemoKey) (S : State) {Es : List Front}
      → means R T D q ≡ build covers (front R (D a) q.column q.indent ++ front R (D b) q.column q.indent)
      → ContAt S (means R T D q ∷ Es) → ResAt S Es → MemoAt S
      → W (Eval (memo_key a q.column q.indent) ∷ Eval (memo_key b q.column q.indent) ∷ CompleteUnion q ∷ S.tasks) → Goes W (begin_union R P a b q S)
  unfolding begin_union push_child means
  union_begins W a b q S e k rs m w =
      post_bind (post_bind (task_post (CompleteUnion q) S (task_post (Eval (memo_key b q.column q.indent)) _ (task_post (Eval (memo_key a q.column q.indent)) _
      (record { inv = record { types = _; conts = c_eval (c_eval (c_union e k)); res = rs; memos = m }; leaves = w })))))

  -- ---- several alternatives

  abbrev evals : MemoKey → List ℕ → List Task
  evals q ns = map (λ n. Eval (memo_key n q.column q.indent)) ns

  -- the results of these nodes, on top of Es
  abbrev stacking : List ℕ → ℕ → ℕ → List Front → List Front
  stacking [] c i Es = Es
  stacking (n ∷ ns) c i Es = stacking ns c i (front R (D n) c i ∷ Es)

  stacking_append : (ns : List ℕ) (c i : ℕ) (Gs Es : List Front) → stacking ns c i (Gs ++ Es) ≡ stacking ns c i Gs ++ Es
  stacking_append [] c i Gs Es = refl
  stacking_append (n ∷ ns) c i Gs Es = stacking_append ns c i (front R (D n) c i ∷ Gs) Es

  stacking_flatten : (ns : List ℕ) (c i : ℕ) (Gs : List Front) → flatten (stacking ns c i Gs) ≡ flatten Gs ++ each (λ n. front R (D n) c i) ns
  stacking_flatten [] c i Gs = sym (append-nil (flatten Gs))
  stacking_flatten (n ∷ ns) c i Gs = stacking_flatten ns c i (front R (D n) c i ∷ Gs) ∙ append_assoc (flatten Gs) (front R (D n) c i) (each (λ n. front R (D n) c i) ns)

  stacking_some : (ns : List ℕ) (c i : ℕ) (Gs : List Front) → Some Gs → Some (stacking ns c i Gs)
  stacking_some [] c i Gs h = h
  stacking_some (n ∷ ns) c i Gs h = stacking_some ns c i (front R (D n) c i ∷ Gs) tt

  some_stacking : (ns : List ℕ) (c i : ℕ) → Some ns → Some (stacking ns c i [])
  some_stacking [] c i h = absurd h
  some_stacking (n ∷ ns) c i h = stacking_some ns c i (front R (D n) c i ∷ []) tt

  evals_cont : (q : MemoKey) (ns : List ℕ) {k : List Candidate} {ps : List Plan} {ts : List Task} {qs : List Scratch} (Es : List Front)
      → Cont R T D goal k ps ts (stacking ns q.column q.indent Es) qs → Cont R T D goal k ps (evals q ns ++ ts) Es qs
  unfolding means
  evals_cont q [] Es c = c
  evals_cont q (n ∷ ns) Es c = c_eval (evals_cont q ns (front R (D n) q.column q.indent ∷ Es) c)

  alternatives_post : (ns : List ℕ) (q : MemoKey) (S : State) {Q : State → Type 0} → Q (with_tasks (evals q ns ++ S.tasks) S) → Post Q (push_alternatives R P ns q S)
  unfolding push_alternatives
  alternatives_post [] q S h = holds_of h
  alternatives_post (n ∷ ns) q S h = post_bind (alternatives_post ns q S (task_post (Eval (memo_key n q.column q.indent)) _ h))

  skip_post : (n : ℕ) {Q : Unit {0} → Type 0} → Q tt → Post Q (skip_choices R P n)
  unfolding skip_choices
  skip_post zero h = holds_of h
  skip_post (suc n) h = says tt (skip_post n h)

  choices_begin : (W : List Task → Type 0) (l : ExactChoice) (a b : ℕ) (q : MemoKey) (S : State) {Es : List Front}
      → means R T D q ≡ build covers (each (λ n. front R (D n) q.column q.indent) l.alternatives) → Some l.alternatives
      → ContAt S (means R T D q ∷ Es) → ResAt S Es → MemoAt S
      → W (evals q l.alternatives ++ (CompleteChoiceSet q (length S.results) ∷ S.tasks)) → Goes W (begin_choice R P (some l) a b q S)
  unfolding begin_choice
  choices_begin W l a b q S {Es} e f c rs m w =
      let ns = l.alternatives in
      let Gs = stacking ns q.column q.indent [] in
      post_bind (skip_post l.skipped (post_bind (task_post (CompleteChoiceSet q (length S.results)) S (alternatives_post ns q _ (record {
        inv = record {
          types = Es;
          conts = evals_cont q ns Es (c_set Gs (e ∙ ap (build covers) (sym (stacking_flatten ns q.column q.indent []))) (some_stacking ns q.column q.indent f)
              (stacking_append ns q.column q.indent [] Es) (sym (all2_length rs)) c);
          res = rs;
          memos = m;
        };
        leaves = w;
      })))))

module _ (R : Rules) (P : Prepared) (D : ℕ → Doc) (goal : Front) (K : Ready P) (reads : ReadsAs P.table D) where
  abbrev rank : ℕ → ℕ
  rank n = K.ranked.rank n

  abbrev T' : Table
  T' = P.table

  -- a task that leads only to nodes of rank below r
  abbrev pub Low : ℕ → Task → Type 0
  Low r (Eval q) = K.ranked.rank q.node < r
  Low r (CompleteAlias q) = Unit {0}
  Low r (CompleteUnion q) = Unit {0}
  Low r (CompleteChoiceSet q n) = Unit {0}
  Low r (CompleteAnnotate q n) = Unit {0}
  Low r (CompletePenalty q n) = Unit {0}
  Low r (ContinueSequence q n) = K.ranked.rank q.node ≤ r
  Low r (CompleteSequenceRight q n acc o s) = K.ranked.rank q.node ≤ r

  -- tasks of rank below r on top of ts
  pub record Pushed (r : ℕ) (ts us : List Task) : Type 0 where
    pub new : List Task
    pub is : us ≡ new ++ ts
    pub low : Each (Low r) new

  pub pushed_none : (r : ℕ) (ts : List Task) → Pushed r ts ts
  pushed_none r ts = record { new = []; is = refl; low = tt }

  means_is : (q : MemoKey) (v : Node) → T'.node q.node ≡ v → means R T' D q ≡ front R (shape T' D v) q.column q.indent
  unfolding means
  means_is q v e = ap (λ (d : Doc). front R d q.column q.indent) (reads q.node ∙ ap (shape T' D) e)

  pub lower : (n k : ℕ) (v : Node) → T'.node n ≡ v → In k (refers T' v) → K.ranked.rank k < K.ranked.rank n
  lower n k v e i = K.ranked.falls n k (subst (λ (z : Node). In k (refers T' z)) (sym e) i)

  list_means : (q : MemoKey) (a b : ℕ) (l : ExactChoice) → T'.node q.node ≡ Choice a b → RightList T' a b l.skipped l.alternatives
      → means R T' D q ≡ build covers (each (λ n. front R (D n) q.column q.indent) l.alternatives)
  unfolding means
  list_means q a b l n r = sym (list_front R T' D reads q.column q.indent q.node a b l.skipped l.alternatives n r)

  -- the entries of a right choice list are of lower rank
  each_middle : (Q : ℕ → Type 0) (pre : List ℕ) (m p q : ℕ) (post : List ℕ) → (Q m → Q p × Q q) → Each Q (pre ++ (m ∷ post)) → Each Q (pre ++ (p ∷ q ∷ post))
  each_middle Q [] m p q post f h = ((f h.0).0, ((f h.0).1, h.1))
  each_middle Q (x ∷ pre) m p q post f h = (h.0, each_middle Q pre m p q post f h.1)

  list_lower : (r : ℕ) {a b k : ℕ} {l : List ℕ} → RightList T' a b k l → rank a < r → rank b < r → Each (λ n. rank n < r) l
  list_lower r two ha hb = (ha, (hb, tt))
  list_lower r (more m p q pre post e h) ha hb =
      each_middle (λ n. rank n < r) pre m p q post
      (λ z. (omega (arith, z, lower m p (Choice p q) e (here refl)), omega (arith, z, lower m q (Choice p q) e (there (here refl))))) (list_lower r h ha hb)

  evals_low : (q : MemoKey) (r : ℕ) (ns : List ℕ) (t : Task) → Each (λ n. rank n < r) ns → Low r t → Each (Low r) (evals R P D goal q ns ++ (t ∷ []))
  evals_low q r [] t h l = (l, tt)
  evals_low q r (n ∷ ns) t h l = (h.0, evals_low q r ns t h.1 l)

  child_begins : (t : Task) (k : ℕ) (c i : ℕ) (q : MemoKey) (v : Node) (S : State) {Es : List Front} → T'.node q.node ≡ v → In k (refers T' v) → Low (rank q.node) t
      → Cont R T' D goal S.retained (laid T' S.plans) (t ∷ S.tasks) (means R T' D (memo_key k c i) ∷ Es) S.pending → ResAt R P D goal S Es → MemoAt R P D goal S
      → Goes R P D goal (Pushed (rank q.node) S.tasks) (push_child R P t (memo_key k c i) S)
  child_begins t k c i q v S n l lt co rs m =
      child_good R P D goal _ t (memo_key k c i) S co rs m (record { new = Eval (memo_key k c i) ∷ t ∷ []; is = refl; low = (lower q.node k v n l, (lt, tt)) })

  two_begin : (a b : ℕ) (q : MemoKey) (v : Node) (S : State) {Es : List Front} → T'.node q.node ≡ v → In a (refers T' v) → In b (refers T' v)
      → means R T' D q ≡ build covers (front R (D a) q.column q.indent ++ front R (D b) q.column q.indent)
      → ContAt R P D goal S (means R T' D q ∷ Es) → ResAt R P D goal S Es → MemoAt R P D goal S
      → Goes R P D goal (Pushed (rank q.node) S.tasks) (begin_union R P a b q S)
  two_begin a b q v S n la lb e c rs m =
      union_begins R P D goal _ a b q S e c rs m
      (record { new = Eval (memo_key a q.column q.indent) ∷ Eval (memo_key b q.column q.indent) ∷ CompleteUnion q ∷ []; is = refl; low = (lower q.node a v n la, (lower q.node b v n lb, (tt, tt))) })

  sequence_begins : (v : Node) (ks : List ℕ) (q : MemoKey) (S : State) {Es : List Front} → T'.node q.node ≡ v → refers T' v ≡ ks → children v ≡ ks → Sequence R T' D v ks q.column q.indent
      → ContAt R P D goal S (means R T' D q ∷ Es) → ResAt R P D goal S Es → MemoAt R P D goal S
      → Goes R P D goal (Pushed (rank q.node) S.tasks) (begin_sequence R P ks q S)
  unfolding begin_sequence begin_empty means
  sequence_begins v [] q S n l ch e c rs m =
      single_good R P D goal _ q _ S (record { same_cost = refl; same_column = refl; same_plan = as_empty }) (means_is q v n ∙ e) c rs m (pushed_none _ _)
  sequence_begins v (k ∷ ks) q S n l ch e c rs m =
      let ch' : kids R T' D q ≡ k ∷ ks = ap children n ∙ ch in
      let f : means R T' D q ≡ seqs R T' D (is_fill (T'.node q.node)) (drop 1 (kids R T' D q)) q.indent (front R (D k) q.column q.indent) =
      means_is q v n ∙ e ∙ ap₂ (λ (z : Node) (w : List ℕ). seqs R T' D (is_fill z) (drop 1 w) q.indent (front R (D k) q.column q.indent)) (sym n) (sym ch') in
      child_begins (ContinueSequence q 1) k q.column q.indent q v S n (subst (λ (z : List ℕ). In k z) (sym l) (here refl)) (omega arith) (c_continue f c) rs m

  group_is : (k : ℕ) (o : Option ℕ) (q : MemoKey) → T'.node q.node ≡ Group k → T'.flat k ≡ o → means R T' D q ≡ front R (group_doc T' D k o) q.column q.indent
  group_is k o q n e = means_is q (Group k) n ∙ ap (λ (z : Option ℕ). front R (group_doc T' D k z) q.column q.indent) e

  group_begins : (k : ℕ) (o : Option ℕ) (q : MemoKey) (S : State) {Es : List Front} → T'.node q.node ≡ Group k → T'.flat k ≡ o
      → ContAt R P D goal S (means R T' D q ∷ Es) → ResAt R P D goal S Es → MemoAt R P D goal S
      → Goes R P D goal (Pushed (rank q.node) S.tasks) (begin_group R P k o q S)
  unfolding begin_group front means
  group_begins k none q S n o c rs m =
      child_begins (CompleteAlias q) k q.column q.indent q (Group k) S n (here refl) tt (c_alias (group_is k none q n o) c) rs m
  group_begins k (some f) q S n o c rs m =
      two_begin f k q (Group k) S n (there (subst (λ (z : Option ℕ). In f (flat_of z)) (sym o) (here refl))) (here refl) (group_is k (some f) q n o) c rs m

  choice_begins : (o : Option ExactChoice) (a b : ℕ) (q : MemoKey) (S : State) {Es : List Front} → T'.node q.node ≡ Choice a b → P.choices q.node ≡ o
      → ContAt R P D goal S (means R T' D q ∷ Es) → ResAt R P D goal S Es → MemoAt R P D goal S
      → Goes R P D goal (Pushed (rank q.node) S.tasks) (begin_choice R P o a b q S)
  unfolding begin_choice front
  choice_begins none a b q S n o c rs m = two_begin a b q (Choice a b) S n (here refl) (there (here refl)) (means_is q (Choice a b) n) c rs m
  choice_begins (some l) a b q S n o c rs m =
      let r = K.lists q.node a b l n o in
      let t = CompleteChoiceSet q (length S.results) in
      choices_begin R P D goal _ l a b q S (list_means q a b l n r) (list_some r) c rs m
      (record {
        new = evals R P D goal q l.alternatives ++ (t ∷ []);
        is = sym (append_assoc (evals R P D goal q l.alternatives) (t ∷ []) S.tasks);
        low = evals_low q (rank q.node) l.alternatives t
            (list_lower (rank q.node) r (lower q.node a (Choice a b) n (here refl)) (lower q.node b (Choice a b) n (there (here refl)))) tt;
      })

  kind_begins : (v : Node) (q : MemoKey) (S : State) {Es : List Front} → T'.node q.node ≡ v
      → ContAt R P D goal S (means R T' D q ∷ Es) → ResAt R P D goal S Es → MemoAt R P D goal S
      → Goes R P D goal (Pushed (rank q.node) S.tasks) (begin_kind R P v q S)
  unfolding begin_kind begin_empty begin_text begin_newline begin_nest checked_text front means
  kind_begins Empty q S n c rs m = single_good R P D goal _ q _ S (record { same_cost = refl; same_column = refl; same_plan = as_empty }) (means_is q Empty n) c rs m (pushed_none _ _)
  kind_begins (Text t) q S n c rs m = says tt (single_good R P D goal _ q _ S (record { same_cost = refl; same_column = refl; same_plan = as_text }) (means_is q (Text t) n) c rs m (pushed_none _ _))
  kind_begins Break q S n c rs m = single_good R P D goal _ q _ S (record { same_cost = refl; same_column = refl; same_plan = as_newline }) (means_is q Break n) c rs m (pushed_none _ _)
  kind_begins HardLine q S n c rs m = single_good R P D goal _ q _ S (record { same_cost = refl; same_column = refl; same_plan = as_newline }) (means_is q HardLine n) c rs m (pushed_none _ _)
  kind_begins (Seq ks) q S n c rs m = sequence_begins (Seq ks) ks q S n refl refl (seq_is R T' D ks q.column q.indent) c rs m
  kind_begins (Fill ks) q S n c rs m = sequence_begins (Fill ks) ks q S n refl refl (fill_is R T' D ks q.column q.indent) c rs m
  kind_begins (Group k) q S n c rs m = group_begins k (T'.flat k) q S n refl c rs m
  kind_begins (Nest a k) q S n c rs m =
      says tt (child_begins (CompleteAlias q) k q.column (R.lower (q.indent + a)) q (Nest a k) S n (here refl) tt (c_alias (means_is q (Nest a k) n) c) rs m)
  kind_begins (Align k) q S n c rs m = child_begins (CompleteAlias q) k q.column (R.lower q.column) q (Align k) S n (here refl) tt (c_alias (means_is q (Align k) n) c) rs m
  kind_begins (Choice a b) q S n c rs m = choice_begins (P.choices q.node) a b q S n refl c rs m
  kind_begins (Annotate a k) q S n c rs m =
      child_begins (CompleteAnnotate q a) k q.column q.indent q (Annotate a k) S n (here refl) tt (c_annotate (means_is q (Annotate a k) n) c) rs m
  kind_begins (Penalty a k) q S n c rs m =
      child_begins (CompletePenalty q a) k q.column q.indent q (Penalty a k) S n (here refl) tt (c_penalty (means_is q (Penalty a k) n) c) rs m

  pub known_begins : (o : MemoLookup) (q : MemoKey) (S : State) {Es : List Front} → lookup S.memo q ≡ o
      → ContAt R P D goal S (means R T' D q ∷ Es) → ResAt R P D goal S Es → MemoAt R P D goal S
      → Goes R P D goal (Pushed (rank q.node) S.tasks) (begin_known R P o q S)
  unfolding begin_known
  known_begins (Found r) q S e c rs m =
      says tt (result_post r S (record { inv = record { types = _; conts = c; res = cons (lookup_ok R T' D S.memo q r m e) rs; memos = m }; leaves = pushed_none _ _ }))
  known_begins Nothing q S e c rs m = says tt (kind_begins (T'.node q.node) q S refl c rs m)
