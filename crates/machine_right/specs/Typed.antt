-- The typed stack: `Cont goal k ps ts Es qs` says that the tasks ts, with the pending candidates qs, wait for results that stand for the frontiers Es, top first, and then leave the goal's.
use Rattle.std.specs.Prelude.{ℕ, suc, ◌+◌, ◌<◌, Bool, false, ◌&&◌, List, [], ◌∷◌, ◌++◌, map, ◌≡◌, refl, length, drop, get_or}
use Rattle.std.proofs.Common.{arith, subst}
use Rattle.std.proofs.Math.Bool.{true}
use Rattle.std.proofs.Math.Dec.{eqb}
use borrow.Author.Tests.{eqb-true}
use Rattle.cost.specs.Logic.{and_left, and_right}
use Rattle.memo.specs.declared.MemoKey.{MemoKey}
use Rattle.memo.specs.declared.CandidateRange.{CandidateRange}
use Rattle.std.specs.Prelude.{Some as Found}
use Rattle.memo.specs.Entries.{Entry, same, lookup, stored, pick}
use Rattle.layout.specs.Document.{Doc}
use Rattle.layout.specs.Rules.{Rules}
use Rattle.layout.specs.Layout.{Plan}
use Rattle.layout.specs.Table.{Table}
use Rattle.layout.specs.Frontier.{Cand, covers, build, front, marked, charged}
use Rattle.machine.specs.Model.{children, Candidate, Scratch, Task, Eval, CompleteAlias, CompleteUnion, CompleteChoiceSet, CompleteAnnotate, CompletePenalty, ContinueSequence, CompleteSequenceRight}
use Rattle.machine_right.specs.Relations.{All2, all2_imp, Some, Ext, Waits, waits_grow, Den, den_grow}
use Rattle.machine_right.specs.Fronts.{Front, is_fill, joins, seqs, means}

-- the pending candidates above qs
pub record Pile (T : Table) (ps : List Plan) (qs : List Scratch) (G : Front) (l : List Scratch) : Type 0 where
  pub above : List Scratch
  pub split : l ≡ qs ++ above
  pub waits : All2 (Waits T ps) above G

pub pile_grow : {T : Table} {ps ps' : List Plan} {qs l : List Scratch} {G : Front} → Ext ps ps' → Pile T ps qs G l → Pile T ps' qs G l
pile_grow {T = T} e h = record { above = h.above; split = h.split; waits = all2_imp (λ x y. waits_grow T e) h.waits }

-- the frontiers of several results, the deepest first
abbrev pub flatten : List Front → Front
flatten [] = []
flatten (F ∷ Fs) = flatten Fs ++ F

module _ (R : Rules) (T : Table) (D : ℕ → Doc) where
  abbrev pub kids : MemoKey → List ℕ
  kids q = children (T.node q.node)

  pub data Cont (goal : Front) (k : List Candidate) (ps : List Plan) : List Task → List Front → List Scratch → Type 0 where
    c_done : Cont goal k ps [] (goal ∷ []) []
    c_eval : {q : MemoKey} {ts : List Task} {Es : List Front} {qs : List Scratch}
        → Cont goal k ps ts (means R T D q ∷ Es) qs → Cont goal k ps (Eval q ∷ ts) Es qs
    c_alias : {q : MemoKey} {F : Front} {ts : List Task} {Es : List Front} {qs : List Scratch}
        → means R T D q ≡ F → Cont goal k ps ts (means R T D q ∷ Es) qs → Cont goal k ps (CompleteAlias q ∷ ts) (F ∷ Es) qs
    c_union : {q : MemoKey} {F G : Front} {ts : List Task} {Es : List Front} {qs : List Scratch}
        → means R T D q ≡ build covers (F ++ G) → Cont goal k ps ts (means R T D q ∷ Es) qs → Cont goal k ps (CompleteUnion q ∷ ts) (G ∷ F ∷ Es) qs
    c_set : (Gs : List Front) {q : MemoKey} {start : ℕ} {Xs : List Front} {ts : List Task} {Es : List Front} {qs : List Scratch}
        → means R T D q ≡ build covers (flatten Gs) → Some Gs → Xs ≡ Gs ++ Es → length Es ≡ start
        → Cont goal k ps ts (means R T D q ∷ Es) qs → Cont goal k ps (CompleteChoiceSet q start ∷ ts) Xs qs
    c_annotate : {q : MemoKey} {a : ℕ} {F : Front} {ts : List Task} {Es : List Front} {qs : List Scratch}
        → means R T D q ≡ build covers (map (marked a) F) → Cont goal k ps ts (means R T D q ∷ Es) qs → Cont goal k ps (CompleteAnnotate q a ∷ ts) (F ∷ Es) qs
    c_penalty : {q : MemoKey} {a : ℕ} {F : Front} {ts : List Task} {Es : List Front} {qs : List Scratch}
        → means R T D q ≡ build covers (map (charged a) F) → Cont goal k ps ts (means R T D q ∷ Es) qs → Cont goal k ps (CompletePenalty q a ∷ ts) (F ∷ Es) qs
    c_continue : {q : MemoKey} {x : ℕ} {F : Front} {ts : List Task} {Es : List Front} {qs : List Scratch}
        → means R T D q ≡ seqs R T D (is_fill (T.node q.node)) (drop x (kids q)) q.indent F
        → Cont goal k ps ts (means R T D q ∷ Es) qs → Cont goal k ps (ContinueSequence q x ∷ ts) (F ∷ Es) qs
    c_right : {q : MemoKey} {x n o g start : ℕ} {acc : CandidateRange} {F G Ls : Front} {L : Cand Plan}
        {ts : List Task} {Es : List Front} {qs Qs : List Scratch}
        → Den T k ps (acc.start + o) (suc g) (L ∷ Ls) → acc.len ≡ o + suc g → x < length (kids q) → get_or (kids q) x 0 ≡ n
        → F ≡ front R (D n) L.column q.indent → Pile T ps qs G Qs → length qs ≡ start
        → means R T D q ≡ seqs R T D (is_fill (T.node q.node)) (drop (x + 1) (kids q)) q.indent (build covers (G ++ joins (λ c. front R (D n) c q.indent) (L ∷ Ls)))
        → Cont goal k ps ts (means R T D q ∷ Es) qs → Cont goal k ps (CompleteSequenceRight q x acc o start ∷ ts) (F ∷ Es) Qs

  pub cont_grow : {goal : Front} {k k' : List Candidate} {ps ps' : List Plan} {ts : List Task} {Es : List Front} {qs : List Scratch}
      → Ext k k' → Ext ps ps' → Cont goal k ps ts Es qs → Cont goal k' ps' ts Es qs
  cont_grow ek ep c_done = c_done
  cont_grow ek ep (c_eval c) = c_eval (cont_grow ek ep c)
  cont_grow ek ep (c_alias e c) = c_alias e (cont_grow ek ep c)
  cont_grow ek ep (c_union e c) = c_union e (cont_grow ek ep c)
  cont_grow ek ep (c_set Gs e f x l c) = c_set Gs e f x l (cont_grow ek ep c)
  cont_grow ek ep (c_annotate e c) = c_annotate e (cont_grow ek ep c)
  cont_grow ek ep (c_penalty e c) = c_penalty e (cont_grow ek ep c)
  cont_grow ek ep (c_continue e c) = c_continue e (cont_grow ek ep c)
  cont_grow ek ep (c_right den a b n f pl l e c) = c_right (den_grow ek ep den) a b n f (pile_grow ep pl) l e (cont_grow ek ep c)

  -- ---- the memo: each entry's range stands for its key's frontier

  abbrev pub RangeDen : List Candidate → List Plan → CandidateRange → Front → Type 0
  RangeDen k ps r F = Den T k ps r.start r.len F

  abbrev pub MemoOk : List Candidate → List Plan → List Entry → Type 0
  MemoOk k ps [] = Unit {0}
  MemoOk k ps (e ∷ es) = RangeDen k ps e.range (means R T D e.key) × MemoOk k ps es

  pub memo_grow : {k k' : List Candidate} {ps ps' : List Plan} → Ext k k' → Ext ps ps' → (m : List Entry) → MemoOk k ps m → MemoOk k' ps' m
  memo_grow ek ep [] h = tt
  memo_grow ek ep (e ∷ es) h = (den_grow ek ep h.0, memo_grow ek ep es h.1)

  same_means : (a b : MemoKey) → same a b ≡ true → means R T D a ≡ means R T D b
  unfolding same means
  same_means a b h =
      let n = eqb a.node b.node in
      let c = eqb a.column b.column in
      let i = eqb a.indent b.indent in
      let r : (c && i) ≡ true = and_right n (c && i) h in
      rw (eqb-true a.node b.node (and_left n (c && i) h), eqb-true a.column b.column (and_left c i r), eqb-true a.indent b.indent (and_right c i r))

  pub stored_ok : {k : List Candidate} {ps : List Plan} (m : List Entry) (e : Entry) → MemoOk k ps m → RangeDen k ps e.range (means R T D e.key) → MemoOk k ps (stored m e)
  stored_ok [] e h d = (d, tt)
  stored_ok {k} {ps} (x ∷ m) e h d = go (same x.key e.key) (stored_ok m e h.1 d)
    where
      go : (t : Bool) → MemoOk k ps (stored m e) → MemoOk k ps (pick t (e ∷ m) (x ∷ stored m e))
      go true f = (d, h.1)
      go false f = (h.0, f)

  found_injective : (a b : CandidateRange) → Found a ≡ Found b → a ≡ b
  found_injective a b e = cc

  pub lookup_ok : {k : List Candidate} {ps : List Plan} (m : List Entry) (q : MemoKey) (r : CandidateRange) → MemoOk k ps m → lookup m q ≡ Found r → RangeDen k ps r (means R T D q)
  lookup_ok [] q r h e = let z : ◌≡◌ {A = ℕ} 0 1 = cc in absurd (omega arith)
  lookup_ok {k} {ps} (x ∷ m) q r h e = go (same x.key q) refl e (λ f. lookup_ok m q r h.1 f)
    where
      go : (t : Bool) → same x.key q ≡ t → pick t (Found x.range) (lookup m q) ≡ Found r → (lookup m q ≡ Found r → RangeDen k ps r (means R T D q)) → RangeDen k ps r (means R T D q)
      go true s f ih = subst (λ (z : CandidateRange). RangeDen k ps z (means R T D q)) (found_injective x.range r f) (subst (λ (z : Front). RangeDen k ps x.range z) (same_means x.key q s) h.0)
      go false s f ih = ih f
