-- The run of the tasks: where there is a task, it is its step and then the rest; events are fewer after each step; it ends with one result, which stands for the goal.
use Prim.Native.Nat.{ℕ, zero, suc, ◌+◌, ◌-◌, ◌≤◌, ◌<◌}
use native.Mathlib.Omega.{arith}
use mathlib.Core.List.{List, [], ◌∷◌, ◌++◌, append-nil}
use Rattle.std.specs.Prelude.{◌≡◌}
use Rattle.std.proofs.Math.Path.{refl, sym, ap, ap₂, subst}
use Rattle.std.proofs.Common.{◌∙◌}
use Rattle.std.proofs.Math.ListN.{length, length-append}
use Rattle.memo.specs.declared.MemoKey.{MemoKey}
use Rattle.memo.specs.declared.CandidateRange.{CandidateRange}
use Rattle.layout.specs.Document.{Doc}
use Rattle.layout.specs.Rules.{Rules}
use Rattle.layout.specs.Table.{Reads as ReadsAs}
use Rattle.machine.specs.Events.{Prog, ret, ◌>>=◌}
use Rattle.machine.specs.Programs.{value, bind_at, bind_assoc}
use Rattle.machine.specs.Model.{Prepared, Task, Eval, CompleteAlias, CompleteUnion, CompleteChoiceSet, CompleteAnnotate, CompletePenalty, ContinueSequence, CompleteSequenceRight, State}
use Rattle.machine.specs.Solver.{step}
use Rattle.machine.specs.Solve.{lefts_of, child_count, rights, continued, work_off, work_off_all, evaluated, rest}
use Rattle.machine_right.specs.Post.{Post, holds_of, post_bind, post_value, post_imp}
use Rattle.machine_right.specs.Fronts.{Front}
use Rattle.machine_right.specs.Ready.{Ready}
use Rattle.machine_right.specs.Sound.{Each, Inv, Leaves, Low, Pushed}
use Rattle.machine_right.specs.Sequences.{AfterContinue, ended, started, AfterRight, last_left, more_left}
use Rattle.machine_right.specs.Step.{After, step_good}

module _ (R : Rules) (P : Prepared) (D : ℕ → Doc) (goal : Front) (K : Ready P) (reads : ReadsAs P.table D) where
  -- the invariant holds, and these are the tasks
  pub record Kept (ts : List Task) (S : State) : Type 0 where
    pub inv : Inv R P D goal S
    pub tasks_are : S.tasks ≡ ts

  -- the two are one program, which leaves these tasks
  pub record Same (ts : List Task) (m n : Prog State) : Type 0 where
    pub eq : m ≡ n
    pub post : Post (Kept ts) m

  same_seq : {us ts : List Task} (m n : Prog State) (f g : State → Prog State) → Same us m n → ((S : State) → Kept us S → Same ts (f S) (g S)) → Same ts (m >>= f) (n >>= g)
  same_seq m n f g s h = record {
    eq = bind_at m f g (h (value m) (post_value s.post)).eq ∙ ap (λ (z : Prog State). z >>= g) s.eq;
    post = post_bind (post_imp (λ S k. (h S k).post) s.post);
  }

  stepped : (x : Task) {ts : List Task} {S : State} → Kept (x ∷ ts) S → Post (Leaves R P D goal (After R P D goal K reads x ts)) (step R P S)
  stepped x {ts} {S} k = step_good R P D goal K reads x ts S k.tasks_are k.inv

  -- a step, and then what follows for all that it may leave
  same_step : (x : Task) {ts us : List Task} {S : State} (f g : State → Prog State) → Kept (x ∷ ts) S
      → ((S₁ : State) → Inv R P D goal S₁ → After R P D goal K reads x ts S₁.tasks → Same us (f S₁) (g S₁)) → Same us (step R P S >>= f) (step R P S >>= g)
  same_step x {ts} {us} {S} f g k h =
      let p = stepped x k in
      let v = post_value p in
      record { eq = bind_at (step R P S) f g (h (value (step R P S)) v.inv v.leaves).eq; post = post_bind (post_imp (λ S₁ l. (h S₁ l.inv l.leaves).post) p) }

  -- a step alone
  only_step : (x : Task) {ts us : List Task} {S : State} → Kept (x ∷ ts) S → ((vs : List Task) → After R P D goal K reads x ts vs → vs ≡ us) → Same us (step R P S) (step R P S)
  only_step x k h = record { eq = refl; post = post_imp (λ S₁ l. record { inv = l.inv; tasks_are = h S₁.tasks l.leaves }) (stepped x k) }

  abbrev kids_of : MemoKey → ℕ
  kids_of q = child_count R P q.node

  -- ---- the depth does not matter, above the ranks

  module _ (ev ev' : State → Prog State) (r : ℕ)
      (H : (S : State) (q : MemoKey) (ts : List Task) → Kept (Eval q ∷ ts) S → K.ranked.rank q.node < r → Same ts (ev S) (ev' S)) where
    rights_same : (q : MemoKey) (x : ℕ) (acc : CandidateRange) (start : ℕ) (ts : List Task) (g o : ℕ) (S : State) → acc.len - (o + 1) ≡ g → K.ranked.rank q.node ≤ r
        → Kept (CompleteSequenceRight q x acc o start ∷ ts) S → Same (ContinueSequence q (x + 1) ∷ ts) (rights R P ev g S) (rights R P ev' g S)
    unfolding rights
    rights_same q x acc start ts zero o S e l k = only_step _ k go
      where
        go : (vs : List Task) → AfterRight R P D goal K q x acc o start ts vs → vs ≡ ContinueSequence q (x + 1) ∷ ts
        go vs (last_left a b) = b
        go vs (more_left n a low b) = absurd (omega arith)
    rights_same q x acc start ts (suc g) o S e l k = same_step _ _ _ k (λ S₁ i a. go S₁ i a (λ S₂ k₂. rights_same q x acc start ts g (o + 1) S₂ (omega arith) l k₂))
      where
        go : (S₁ : State) → Inv R P D goal S₁ → AfterRight R P D goal K q x acc o start ts S₁.tasks
            → ((S₂ : State) → Kept (CompleteSequenceRight q x acc (o + 1) start ∷ ts) S₂ → Same (ContinueSequence q (x + 1) ∷ ts) (rights R P ev g S₂) (rights R P ev' g S₂))
            → Same (ContinueSequence q (x + 1) ∷ ts) (ev S₁ >>= rights R P ev g) (ev' S₁ >>= rights R P ev' g)
        go S₁ i (last_left a b) ih = absurd (omega arith)
        go S₁ i (more_left n a low b) ih = same_seq (ev S₁) (ev' S₁) _ _ (H S₁ n _ (record { inv = i; tasks_are = b }) (omega arith)) ih

    continued_same : (q : MemoKey) (ts : List Task) (k x : ℕ) (S : State) → kids_of q - x ≡ k → K.ranked.rank q.node ≤ r → Kept (ContinueSequence q x ∷ ts) S
        → Same ts (continued R P ev k S) (continued R P ev' k S)
    unfolding continued
    continued_same q ts zero x S e l k = only_step _ k go
      where
        go : (vs : List Task) → AfterContinue R P D goal K q x ts vs → vs ≡ ts
        go vs (ended a b) = b
        go vs (started n acc start a low b) = absurd (omega arith)
    continued_same q ts (suc c) x S e l k = same_step _ _ _ k (λ S₁ i a. go S₁ i a (λ S₃ k₃. continued_same q ts c (x + 1) S₃ (omega arith) l k₃))
      where
        go : (S₁ : State) → Inv R P D goal S₁ → AfterContinue R P D goal K q x ts S₁.tasks
            → ((S₃ : State) → Kept (ContinueSequence q (x + 1) ∷ ts) S₃ → Same ts (continued R P ev c S₃) (continued R P ev' c S₃))
            → Same ts (ev S₁ >>= (λ S₂. rights R P ev (lefts_of S₂.tasks) S₂ >>= continued R P ev c)) (ev' S₁ >>= (λ S₂. rights R P ev' (lefts_of S₂.tasks) S₂ >>= continued R P ev' c))
        go S₁ i (ended a b) ih = absurd (omega arith)
        go S₁ i (started n acc start a low b) ih =
            same_seq (ev S₁) (ev' S₁) _ _ (H S₁ n _ (record { inv = i; tasks_are = b }) (omega arith)) λ S₂ k₂.
            same_seq _ _ _ _ (rights_same q x acc start ts (lefts_of S₂.tasks) 0 S₂ (sym (ap lefts_of k₂.tasks_are)) l k₂) ih

    off_same : (x : Task) (ts : List Task) (S : State) → Low R P D goal K reads r x → Kept (x ∷ ts) S → Same ts (work_off R P ev (x ∷ ts) S) (work_off R P ev' (x ∷ ts) S)
    unfolding work_off
    off_same (Eval q) ts S l k = H S q ts k l
    off_same (CompleteAlias q) ts S l k = only_step _ k (λ vs e. e)
    off_same (CompleteUnion q) ts S l k = only_step _ k (λ vs e. e)
    off_same (CompleteChoiceSet q n) ts S l k = only_step _ k (λ vs e. e)
    off_same (CompleteAnnotate q n) ts S l k = only_step _ k (λ vs e. e)
    off_same (CompletePenalty q n) ts S l k = only_step _ k (λ vs e. e)
    off_same (ContinueSequence q x) ts S l k = continued_same q ts _ x S refl l k
    off_same (CompleteSequenceRight q x acc o start) ts S l k =
        same_seq _ _ _ _ (rights_same q x acc start ts _ o S refl l k) λ S₁ k₁. continued_same q ts _ (x + 1) S₁ refl l k₁

    all_same : (new ts : List Task) (S : State) → Each (Low R P D goal K reads r) new → Kept (new ++ ts) S → Same ts (work_off_all R P ev (length new) S) (work_off_all R P ev' (length new) S)
    unfolding work_off_all
    all_same [] ts S l k = record { eq = refl; post = holds_of k }
    all_same (x ∷ new) ts S l k =
        same_seq _ _ _ _ (subst (λ (z : List Task). Same (new ++ ts) (work_off R P ev z S) (work_off R P ev' z S)) (sym k.tasks_are) (off_same x (new ++ ts) S l.0 k)) λ S₁ k₁.
        all_same new ts S₁ l.1 k₁

  deeper : (f : ℕ) (S : State) (q : MemoKey) (ts : List Task) → Kept (Eval q ∷ ts) S → K.ranked.rank q.node < f → Same ts (evaluated R P f S) (evaluated R P (suc f) S)
  unfolding evaluated
  deeper zero S q ts k h = absurd (omega arith)
  deeper (suc f) S q ts k h = same_step _ _ _ k (λ S₁ i a. go S₁ i a (λ S' q' ts' k' h'. deeper f S' q' ts' k' (omega arith)))
    where
      go : (S₁ : State) → Inv R P D goal S₁ → Pushed R P D goal K reads (K.ranked.rank q.node) ts S₁.tasks
          → ((S' : State) (q' : MemoKey) (ts' : List Task) → Kept (Eval q' ∷ ts') S' → K.ranked.rank q'.node < K.ranked.rank q.node → Same ts' (evaluated R P f S') (evaluated R P (suc f) S'))
          → Same ts (work_off_all R P (evaluated R P f) (length S₁.tasks + 1 - length S.tasks) S₁) (work_off_all R P (evaluated R P (suc f)) (length S₁.tasks + 1 - length S.tasks) S₁)
      go S₁ i a ih =
          let n : length S₁.tasks + 1 - length S.tasks ≡ length a.new = omega (arith, ap length a.is, length-append a.new ts, ap length k.tasks_are) in
          subst (λ (m : ℕ). Same ts (work_off_all R P (evaluated R P f) m S₁) (work_off_all R P (evaluated R P (suc f)) m S₁)) (sym n)
          (all_same (evaluated R P f) (evaluated R P (suc f)) (K.ranked.rank q.node) ih a.new ts S₁ a.low (record { inv = i; tasks_are = a.is }))

  -- ---- a step, and then the rest

  abbrev ev : State → Prog State
  ev S = evaluated R P P.depth S

  ev_same : (S : State) (q : MemoKey) (ts : List Task) → Kept (Eval q ∷ ts) S → K.ranked.rank q.node < P.depth → Same ts (ev S) (evaluated R P (suc P.depth) S)
  ev_same S q ts k h = deeper P.depth S q ts k h

  ev_good : (S : State) (q : MemoKey) (ts : List Task) → Kept (Eval q ∷ ts) S → Kept ts (value (ev S))
  ev_good S q ts k = post_value (ev_same S q ts k (K.deep q.node)).post

  all_append : (a b c : ℕ) (S : State) → c ≡ a + b → work_off_all R P ev c S ≡ (work_off_all R P ev a S >>= work_off_all R P ev b)
  unfolding work_off_all
  all_append zero b c S e = let q : c ≡ b = omega arith in ap (λ (n : ℕ). work_off_all R P ev n S) q
  all_append (suc a) b zero S e = absurd (omega arith)
  all_append (suc a) b (suc c) S e =
      let q : c ≡ a + b = omega arith in
      bind_at (work_off R P ev S.tasks S) _ _ (all_append a b c _ q) ∙ sym (bind_assoc (work_off R P ev S.tasks S) (work_off_all R P ev a) (work_off_all R P ev b))

  -- the tasks that are there, one by one
  all_one : (x : Task) (ts : List Task) (S : State) → S.tasks ≡ x ∷ ts → work_off_all R P ev (length S.tasks) S ≡ (work_off R P ev (x ∷ ts) S >>= work_off_all R P ev (length ts))
  unfolding work_off_all
  all_one x ts S e = ap (λ (z : List Task). work_off_all R P ev (length z) S) e ∙ ap (λ (z : List Task). work_off R P ev z S >>= work_off_all R P ev (length ts)) e

  -- an Eval on top, and the tasks below it
  all_eval : (q : MemoKey) (ts : List Task) (S : State) → S.tasks ≡ Eval q ∷ ts → work_off_all R P ev (length S.tasks) S ≡ (ev S >>= work_off_all R P ev (length ts))
  unfolding work_off
  all_eval q ts S e = all_one (Eval q) ts S e

  -- what is left after a step that leaves no task of its own
  step_off : (x : Task) (ts : List Task) (S : State) → Kept (x ∷ ts) S → ((vs : List Task) → After R P D goal K reads x ts vs → vs ≡ ts)
      → (step R P S >>= work_off_all R P ev (length ts)) ≡ (step R P S >>= (λ S₁. work_off_all R P ev (length S₁.tasks) S₁))
  step_off x ts S k h =
      let v = post_value (stepped x k) in
      bind_at (step R P S) _ _ (ap (λ (z : List Task). work_off_all R P ev (length z) (value (step R P S))) (sym (h _ v.leaves)))

  -- a right part on top is worked off as its task says
  right_off : (q : MemoKey) (x : ℕ) (acc : CandidateRange) (o start : ℕ) (ts : List Task) (g c : ℕ) (S : State) → S.tasks ≡ CompleteSequenceRight q x acc o start ∷ ts
      → acc.len - (o + 1) ≡ g → kids_of q - (x + 1) ≡ c → (rights R P ev g S >>= continued R P ev c) ≡ work_off R P ev (CompleteSequenceRight q x acc o start ∷ ts) S
  unfolding work_off
  right_off q x acc o start ts g c S e a b = ap₂ (λ (m n : ℕ). rights R P ev m S >>= continued R P ev n) (sym a) (sym b)

  -- after a child on top, its sequence's right part
  child_off : (n q : MemoKey) (x : ℕ) (acc : CandidateRange) (o start : ℕ) (ts : List Task) (c : ℕ) (g : State → ℕ) (S₁ : State) → Inv R P D goal S₁
      → S₁.tasks ≡ Eval n ∷ CompleteSequenceRight q x acc o start ∷ ts → ((S₂ : State) → S₂.tasks ≡ CompleteSequenceRight q x acc o start ∷ ts → acc.len - (o + 1) ≡ g S₂) → kids_of q - (x + 1) ≡ c
      → (ev S₁ >>= (λ S₂. rights R P ev (g S₂) S₂ >>= continued R P ev c) >>= work_off_all R P ev (length ts)) ≡ work_off_all R P ev (length S₁.tasks) S₁
  child_off n q x acc o start ts c g S₁ i b l e =
      let k₂ = ev_good S₁ n _ (record { inv = i; tasks_are = b }) in
      let S₂ = value (ev S₁) in
      bind_assoc (ev S₁) _ _
      ∙ bind_at (ev S₁) _ (work_off_all R P ev (suc (length ts)))
      (ap (λ (z : Prog State). z >>= work_off_all R P ev (length ts)) (right_off q x acc o start ts (g S₂) c S₂ k₂.tasks_are (l S₂ k₂.tasks_are) e)
      ∙ sym (all_one _ ts S₂ k₂.tasks_are) ∙ ap (λ (z : List Task). work_off_all R P ev (length z) S₂) k₂.tasks_are)
      ∙ sym (all_eval n _ S₁ b)

  continue_off : (q : MemoKey) (x : ℕ) (ts : List Task) (S : State) → S.tasks ≡ ContinueSequence q x ∷ ts
      → (continued R P ev (kids_of q - x) S >>= work_off_all R P ev (length ts)) ≡ work_off_all R P ev (length S.tasks) S
  unfolding work_off
  continue_off q x ts S e = sym (all_one (ContinueSequence q x) ts S e)

  unroll_continue : (q : MemoKey) (x : ℕ) (ts : List Task) (S : State) → Kept (ContinueSequence q x ∷ ts) S → (c : ℕ) → kids_of q - x ≡ c
      → (continued R P ev c S >>= work_off_all R P ev (length ts)) ≡ (step R P S >>= (λ S₁. work_off_all R P ev (length S₁.tasks) S₁))
  unfolding continued
  unroll_continue q x ts S k zero e = step_off (ContinueSequence q x) ts S k go
    where
      go : (vs : List Task) → AfterContinue R P D goal K q x ts vs → vs ≡ ts
      go vs (ended a b) = b
      go vs (started n acc start a low b) = absurd (omega arith)
  unroll_continue q x ts S k (suc c) e =
      let v = post_value (stepped (ContinueSequence q x) k) in
      bind_assoc (step R P S) _ _ ∙ bind_at (step R P S) _ _ (go (value (step R P S)) v.inv v.leaves)
    where
      go : (S₁ : State) → Inv R P D goal S₁ → AfterContinue R P D goal K q x ts S₁.tasks
          → (ev S₁ >>= (λ S₂. rights R P ev (lefts_of S₂.tasks) S₂ >>= continued R P ev c) >>= work_off_all R P ev (length ts)) ≡ work_off_all R P ev (length S₁.tasks) S₁
      go S₁ i (ended a b) = absurd (omega arith)
      go S₁ i (started n acc start a low b) = child_off n q x acc 0 start ts c (λ S₂. lefts_of S₂.tasks) S₁ i b (λ S₂ f. sym (ap lefts_of f)) (omega arith)

  unroll_right : (q : MemoKey) (x : ℕ) (acc : CandidateRange) (o start : ℕ) (ts : List Task) (S : State) → Kept (CompleteSequenceRight q x acc o start ∷ ts) S → (g : ℕ) → acc.len - (o + 1) ≡ g
      → (rights R P ev g S >>= continued R P ev (kids_of q - (x + 1)) >>= work_off_all R P ev (length ts)) ≡ (step R P S >>= (λ S₁. work_off_all R P ev (length S₁.tasks) S₁))
  unfolding rights
  unroll_right q x acc o start ts S k zero e =
      let v = post_value (stepped (CompleteSequenceRight q x acc o start) k) in
      bind_assoc (step R P S) _ _ ∙ bind_at (step R P S) _ _ (go (value (step R P S)) v.leaves)
    where
      go : (S₁ : State) → AfterRight R P D goal K q x acc o start ts S₁.tasks
          → (continued R P ev (kids_of q - (x + 1)) S₁ >>= work_off_all R P ev (length ts)) ≡ work_off_all R P ev (length S₁.tasks) S₁
      go S₁ (last_left a b) = continue_off q (x + 1) ts S₁ b
      go S₁ (more_left n a low b) = absurd (omega arith)
  unroll_right q x acc o start ts S k (suc g) e =
      let v = post_value (stepped (CompleteSequenceRight q x acc o start) k) in
      ap (λ (z : Prog State). z >>= work_off_all R P ev (length ts)) (bind_assoc (step R P S) _ _)
      ∙ bind_assoc (step R P S) _ _ ∙ bind_at (step R P S) _ _ (go (value (step R P S)) v.inv v.leaves)
    where
      go : (S₁ : State) → Inv R P D goal S₁ → AfterRight R P D goal K q x acc o start ts S₁.tasks
          → (ev S₁ >>= rights R P ev g >>= continued R P ev (kids_of q - (x + 1)) >>= work_off_all R P ev (length ts)) ≡ work_off_all R P ev (length S₁.tasks) S₁
      go S₁ i (last_left a b) = absurd (omega arith)
      go S₁ i (more_left n a low b) =
          ap (λ (z : Prog State). z >>= work_off_all R P ev (length ts)) (bind_assoc (ev S₁) (rights R P ev g) (continued R P ev (kids_of q - (x + 1))))
          ∙ child_off n q x acc (o + 1) start ts (kids_of q - (x + 1)) (λ S₂. g) S₁ i b (λ S₂ f. omega arith) refl

  unroll : (x : Task) (ts : List Task) (S : State) → Kept (x ∷ ts) S
      → (work_off R P ev (x ∷ ts) S >>= work_off_all R P ev (length ts)) ≡ (step R P S >>= (λ S₁. work_off_all R P ev (length S₁.tasks) S₁))
  unfolding work_off evaluated
  unroll (Eval q) ts S k =
      let v = post_value (stepped (Eval q) k) in
      let S₁ = value (step R P S) in
      ap (λ (z : Prog State). z >>= work_off_all R P ev (length ts)) (ev_same S q ts k (K.deep q.node)).eq
      ∙ bind_assoc (step R P S) _ _
      ∙ bind_at (step R P S) _ _ (sym (all_append (length S₁.tasks + 1 - length S.tasks) (length ts) (length S₁.tasks) S₁
      (omega (arith, ap length v.leaves.is, length-append v.leaves.new ts, ap length k.tasks_are))))
  unroll (CompleteAlias q) ts S k = step_off _ ts S k (λ vs e. e)
  unroll (CompleteUnion q) ts S k = step_off _ ts S k (λ vs e. e)
  unroll (CompleteChoiceSet q n) ts S k = step_off _ ts S k (λ vs e. e)
  unroll (CompleteAnnotate q n) ts S k = step_off _ ts S k (λ vs e. e)
  unroll (CompletePenalty q n) ts S k = step_off _ ts S k (λ vs e. e)
  unroll (ContinueSequence q x) ts S k = unroll_continue q x ts S k _ refl
  unroll (CompleteSequenceRight q x acc o start) ts S k = unroll_right q x acc o start ts S k _ refl

  -- the law of the loop
  pub rest_step : (x : Task) (ts : List Task) (S : State) → S.tasks ≡ x ∷ ts → Inv R P D goal S → rest R P S ≡ (step R P S >>= rest R P)
  unfolding rest
  rest_step x ts S e i = all_one x ts S e ∙ unroll x ts S (record { inv = i; tasks_are = e })

  -- no task is left
  pub rest_none : (S : State) → S.tasks ≡ [] → rest R P S ≡ ret S
  unfolding rest work_off_all
  rest_none S e = ap (λ (z : List Task). work_off_all R P ev (length z) S) e

  -- ---- it comes to an end, and never to what cannot be

  all_low : (ts : List Task) → Each (Low R P D goal K reads P.depth) ts
  all_low [] = tt
  all_low (Eval q ∷ ts) = (K.deep q.node, all_low ts)
  all_low (CompleteAlias q ∷ ts) = (tt, all_low ts)
  all_low (CompleteUnion q ∷ ts) = (tt, all_low ts)
  all_low (CompleteChoiceSet q n ∷ ts) = (tt, all_low ts)
  all_low (CompleteAnnotate q n ∷ ts) = (tt, all_low ts)
  all_low (CompletePenalty q n ∷ ts) = (tt, all_low ts)
  all_low (ContinueSequence q x ∷ ts) = (omega (arith, K.deep q.node), all_low ts)
  all_low (CompleteSequenceRight q x acc o start ∷ ts) = (omega (arith, K.deep q.node), all_low ts)

  pub rest_ends : (S : State) → Inv R P D goal S → Post (Kept []) (rest R P S)
  unfolding rest
  rest_ends S i = (all_same ev (evaluated R P (suc P.depth)) P.depth ev_same S.tasks [] S (all_low S.tasks) (record { inv = i; tasks_are = sym (append-nil S.tasks) })).post
