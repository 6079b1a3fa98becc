-- The completing tasks keep the typed stack and never come to what cannot be, as Sound says of Eval; Sequences has those of sequences.
use Rattle.std.specs.Prelude.{ℕ, ◌+◌, ◌-◌, ◌≡◌, take, drop}
use Rattle.std.proofs.Common.{arith, sym, ◌∙◌, subst}
use mathlib.Core.List.{List, [], ◌∷◌, ◌++◌, map, append_assoc, append-nil}
use Rattle.std.proofs.Math.Path.{ap, ap₂}
use Rattle.std.proofs.Math.ListN.{length, length-append}
use Rattle.cost.specs.Cost.{Cost, zero_cost, add}
use Rattle.cost.specs.Charge.{penalty_cost}
use Rattle.memo.specs.declared.MemoKey.{MemoKey}
use Rattle.memo.specs.declared.CandidateRange.{CandidateRange}
use Rattle.layout.specs.Document.{Doc}
use Rattle.layout.specs.Rules.{Rules}
use Rattle.layout.specs.Layout.{Plan}
use Rattle.layout.specs.Table.{Table}
use Rattle.layout.specs.Frontier.{Cand, after, marked, charged, covers, load, build}
use Rattle.layout.specs.Sieve.{load_append}
use Rattle.machine.specs.Model.{Prepared, PlanNode, PlanConcat, PlanAnnotate, PlanPenalty, Made, Candidate, Scratch, scratch}
use Rattle.machine.specs.Model.{Task, State, with_pending, with_builder}
use Rattle.machine.specs.Solver.{begin_builder, existing, present_range, union_ranges, present_wrapped, wrap_range, push_joined}
use Rattle.machine.specs.Solver.{complete_alias, complete_union, present_ranges, complete_choice_set, complete_wrapped}
use Rattle.machine_right.specs.Relations.{All2, nil, cons, all2_append, all2_length, Some, some_build, some_append, some_after, some_map, as_existing, as_concat, as_annotate, as_penalty, laid, Waits, Holds, Den, Rise}
use Rattle.machine_right.specs.Post.{Post, holds_of, post_bind}
use Rattle.machine_right.specs.Rules.{pending_post, add_post, pop_post, present_post, present_all_post, finish_post}
use Rattle.machine_right.specs.Fronts.{Front, means}
use Rattle.machine_right.specs.Typed.{Pile, flatten, cont_grow, RangeDen, memo_grow}
use Rattle.machine_right.specs.Sound.{ContAt, ResAt, MemoAt, Goes, res_grow, complete_good, finish_good}

add_zero_cost : (c : Cost) → add c zero_cost ≡ c
add_zero_cost c =
    let o : c.overflow + 0 ≡ c.overflow = omega arith in
    let b : c.burden + 0 ≡ c.burden = omega arith in
    ap₂ (λ (x y : ℕ). record { overflow = x; burden = y }) o b

module _ (T : Table) (ps : List Plan) where
  pub olds : (cs : List Candidate) (F : Front) → All2 (Holds T ps) cs F → All2 (Waits T ps) (map existing cs) F
  olds cs F nil = nil
  olds cs F (cons {a = x} {b = y} h t) = cons (record { same_cost = h.same_cost; same_column = h.same_column; same_plan = as_existing h.same_plan }) (olds _ _ t)

  pub range_post : (r : CandidateRange) (S : State) {F G : Front} {Q : State → Type 0} → Den T S.retained ps r.start r.len G → All2 (Waits T ps) S.builder F → Rise 0 S.builder S.generated
      → ((b : List Scratch) (g : ℕ) → All2 (Waits T ps) b (load covers F G) → Rise 0 b g → Q (with_builder b g S)) → Post Q (present_range r S)
  unfolding present_range
  range_post r S den a u h = present_all_post T ps _ S (olds _ _ den.holds) a u h

module _ (R : Rules) (P : Prepared) (T : Table) (ps : List Plan) where
  ranges_post : (rs : List CandidateRange) (S : State) {F : Front} {Gs : List Front} {Q : State → Type 0} → All2 (λ r G. Den T S.retained ps r.start r.len G) rs Gs
      → All2 (Waits T ps) S.builder F → Rise 0 S.builder S.generated
      → ((b : List Scratch) (g : ℕ) → All2 (Waits T ps) b (load covers F (flatten Gs)) → Rise 0 b g → Q (with_builder b g S)) → Post Q (present_ranges R P rs S)
  unfolding present_ranges load
  ranges_post [] S nil a u h = holds_of (h _ _ a u)
  ranges_post (r ∷ rs) S {F} (cons {b = G} {ys = Gs} d ds) a u h =
      post_bind (ranges_post rs S ds a u λ b g a' u'. range_post T ps r (with_builder b g S) d a' u' λ b' g' a'' u''.
      h b' g' (subst (λ (z : Front). All2 (Waits T ps) b' z) (sym (load_append covers F (flatten Gs) G)) a'') u'')

  wrapped_post : (wrapper : ℕ → PlanNode) (additional : Cost) (f : Cand Plan → Cand Plan)
      → ((x : Candidate) (y : Cand Plan) → Holds T ps x y → Waits T ps (scratch (add x.cost additional) x.column (Made (wrapper x.plan.plan))) (f y))
      → (cs : List Candidate) (S : State) {F G : Front} {Q : State → Type 0} → All2 (Holds T ps) cs G → All2 (Waits T ps) S.builder F → Rise 0 S.builder S.generated
      → ((b : List Scratch) (g : ℕ) → All2 (Waits T ps) b (load covers F (map f G)) → Rise 0 b g → Q (with_builder b g S)) → Post Q (present_wrapped wrapper additional cs S)
  unfolding present_wrapped load
  wrapped_post wrapper additional f like [] S nil a u h = holds_of (h _ _ a u)
  wrapped_post wrapper additional f like (c ∷ cs) S (cons {b = y} x xs) a u h =
      post_bind (add_post c.cost additional (post_bind (present_post T ps _ S (like c y x) a u λ b g a' u'.
      wrapped_post wrapper additional f like cs (with_builder b g S) xs a' u' h)))

  -- a left candidate followed by each right one
  pub joined_post : (l : Candidate) (cs : List Candidate) (S : State) {L : Cand Plan} {F G : Front} {qs : List Scratch} {Q : State → Type 0}
      → Holds T ps l L → All2 (Holds T ps) cs F → Pile T ps qs G S.pending
      → ((l' : List Scratch) → Pile T ps qs (G ++ map (after L) F) l' → Q (with_pending l' S)) → Post Q (push_joined l cs S)
  unfolding push_joined
  joined_post l [] S {G = G} {qs = qs} hl nil pl h = holds_of (h S.pending (subst (λ (z : Front). Pile T ps qs z S.pending) (sym (append-nil G)) pl))
  joined_post l (c ∷ cs) S {L} {G = G} {qs = qs} hl (cons {b = y} {ys = F} hc hcs) pl h =
      let x = scratch (add l.cost c.cost) c.column (Made (PlanConcat l.plan.plan c.plan.plan)) in
      post_bind (add_post l.cost c.cost (post_bind (pending_post x S (joined_post l cs _ {G = G ++ (after L y ∷ [])} {qs = qs} hl hcs
      (record {
        above = pl.above ++ (x ∷ []);
        split = ap (λ (z : List Scratch). z ++ (x ∷ [])) pl.split ∙ append_assoc qs pl.above (x ∷ []);
        waits = all2_append pl.waits (cons (record { same_cost = ap₂ add hl.same_cost hc.same_cost; same_column = hc.same_column; same_plan = as_concat hl.same_plan hc.same_plan }) nil);
      })
      λ l' pl'. h l' (subst (λ (z : Front). Pile T ps qs z l') (append_assoc G (after L y ∷ []) (map (after L) F)) pl')))))

module _ (R : Rules) (P : Prepared) (D : ℕ → Doc) (goal : Front) where
  abbrev T : Table
  T = P.table

  pub alias_good : (W : List Task → Type 0) (q : MemoKey) (S : State) {F : Front} {Es : List Front} → means R T D q ≡ F → ContAt R P D goal S (means R T D q ∷ Es)
      → ResAt R P D goal S (F ∷ Es) → MemoAt R P D goal S → W S.tasks → Goes R P D goal W (complete_alias R P q S)
  unfolding complete_alias
  alias_good W q S e c rs m w =
      post_bind (pop_post _ S rs λ r rs' den rest. complete_good R P D goal W q r _ (subst (λ (z : Front). RangeDen R T D S.retained (laid T S.plans) r z) (sym e) den) c rest m w)

  pub union_good : (W : List Task → Type 0) (q : MemoKey) (S : State) {F G : Front} {Es : List Front} → means R T D q ≡ build covers (F ++ G) → ContAt R P D goal S (means R T D q ∷ Es)
      → ResAt R P D goal S (G ∷ F ∷ Es) → MemoAt R P D goal S → W S.tasks → Goes R P D goal W (complete_union R P q S)
  unfolding complete_union union_ranges build
  union_good W q S {F} {G} e c rs m w =
      let ps = laid T S.plans in
      post_bind (pop_post _ S rs λ y ys dy rest. post_bind (pop_post _ _ rest λ x xs dx rest'. post_bind (post_bind (range_post T ps x _ dx nil (omega arith) λ b g a u.
      post_bind (range_post T ps y _ dy a u λ b' g' a' u'.
      finish_good R P D goal W q _ (subst (λ (z : Front). All2 (Waits T ps) b' z) (sym (load_append covers [] F G)) a') (some_build (F ++ G) (some_append F G dx.filled)) u' e c rest' m w)))))

  pub wrapped_good : (W : List Task → Type 0) (q : MemoKey) (wrapper : ℕ → PlanNode) (additional : Cost) (f : Cand Plan → Cand Plan)
      → ((ps : List Plan) (x : Candidate) (y : Cand Plan) → Holds T ps x y → Waits T ps (scratch (add x.cost additional) x.column (Made (wrapper x.plan.plan))) (f y))
      → (S : State) {F : Front} {Es : List Front} → means R T D q ≡ build covers (map f F) → ContAt R P D goal S (means R T D q ∷ Es)
      → ResAt R P D goal S (F ∷ Es) → MemoAt R P D goal S → W S.tasks → Goes R P D goal W (complete_wrapped R P q wrapper additional S)
  unfolding complete_wrapped wrap_range build
  wrapped_good W q wrapper additional f like S {F} e c rs m w =
      let ps = laid T S.plans in
      post_bind (pop_post _ S rs λ x xs dx rest. post_bind (post_bind (wrapped_post R P T ps wrapper additional f (like ps) _ _ dx.holds nil (omega arith) λ b g a u.
      finish_good R P D goal W q _ a (some_build (map f F) (some_map f F dx.filled)) u e c rest m w)))

  pub annotate_like : (n : ℕ) (ps : List Plan) (x : Candidate) (y : Cand Plan) → Holds T ps x y → Waits T ps (scratch (add x.cost zero_cost) x.column (Made (PlanAnnotate n x.plan.plan))) (marked n y)
  annotate_like n ps x y h = record { same_cost = add_zero_cost x.cost ∙ h.same_cost; same_column = h.same_column; same_plan = as_annotate h.same_plan }

  pub penalty_like : (n : ℕ) (ps : List Plan) (x : Candidate) (y : Cand Plan) → Holds T ps x y → Waits T ps (scratch (add x.cost (penalty_cost n)) x.column (Made (PlanPenalty n x.plan.plan))) (charged n y)
  penalty_like n ps x y h = record { same_cost = ap (λ (c : Cost). add c (penalty_cost n)) h.same_cost; same_column = h.same_column; same_plan = as_penalty h.same_plan }

  -- ---- a set of alternatives

  all2_split : {A B : Type 0} {X : A → B → Type 0} (Gs : List B) {l : List A} {Es : List B} → All2 X l (Gs ++ Es) → All2 X (take (length Gs) l) Gs × All2 X (drop (length Gs) l) Es
  all2_split [] h = (nil, h)
  all2_split (G ∷ Gs) (cons x xs) = let y = all2_split Gs xs in (cons x y.0, y.1)

  some_flatten : (k : List Candidate) (ps : List Plan) {rs : List CandidateRange} {Gs : List Front} → All2 (RangeDen R T D k ps) rs Gs → Some Gs → Some (flatten Gs)
  some_flatten k ps nil h = h
  some_flatten k ps (cons {b = F} {ys = Gs} x xs) h = some_after (flatten Gs) F x.filled

  pub set_good : (W : List Task → Type 0) (q : MemoKey) (start : ℕ) (Gs : List Front) (S : State) {Es : List Front} → means R T D q ≡ build covers (flatten Gs) → Some Gs → length Es ≡ start
      → ContAt R P D goal S (means R T D q ∷ Es) → ResAt R P D goal S (Gs ++ Es) → MemoAt R P D goal S → W S.tasks → Goes R P D goal W (complete_choice_set R P q start S)
  unfolding complete_choice_set build
  set_good W q start Gs S {Es} e sm le c rs m w =
      let ps = laid T S.plans in
      let n : length S.results - start ≡ length Gs = omega (arith, all2_length rs, length-append Gs Es, le) in
      let y = all2_split Gs rs in
      let hi : All2 (RangeDen R T D S.retained ps) (take (length S.results - start) S.results) Gs = rw n y.0 in
      let lo : All2 (RangeDen R T D S.retained ps) (drop (length S.results - start) S.results) Es = rw n y.1 in
      post_bind (ranges_post R P T ps _ (begin_builder S) hi nil (omega arith) λ b g a u. post_bind (finish_post T (with_builder b g S) a (some_build (flatten Gs) (some_flatten _ _ hi sm)) u λ k p ek ep den.
      complete_good R P D goal W q _ _ (subst (λ (z : Front). Den T k (laid T p) (length S.retained) (length b) z) (sym e) den) (cont_grow R T D ek ep c) (res_grow R P D goal ek ep lo) (memo_grow R T D ek ep S.memo m) w))
